use Rattle.std.proofs.Common.{◌+◌, ◌∙◌, ap, sym, Bool, ◌&&◌, nat_le, List, [], ◌∷◌, ◌++◌, append_assoc}
use Rattle.instance_gen.specs.Drawn.{season_from}
use Rattle.instance_gen.proofs.PartLemmas.{season-more, season-none}
use Rattle.instance_gen.proofs.parts.add_season.Goals as goal

pub loop-k-init : goal.loop-k-init
loop-k-init c = season-none c.args.in_season.now.items c.args.from c.args.to

pub loop-k-preserved : goal.loop-k-preserved
loop-k-preserved c =
    let before = c.args.in_season.now.items in
    let k = c.loop-k.k in
    let a = c.args.from in
    let b = c.args.to in
    c.in_ok-push.ensures.items
    ∙ ap (λ (bs : List Bool). bs ++ c.is_from.result ∷ []) c.loop-k.invariant
    ∙ ap (λ (x : Bool). before ++ season_from k a b ++ x ∷ []) c.is_from.ensures
    ∙ append_assoc before (season_from k a b) ((nat_le a (k + 1) && nat_le (k + 1) b) ∷ [])
    ∙ ap (λ (bs : List Bool). before ++ bs) (sym (season-more k a b))
