use Rattle.std.proofs.Common.{◌∙◌, ap, sym, List, ℤ, [], ◌∷◌, ◌++◌, append_assoc}
use Rattle.std.proofs.lemmas.Int.{to_z-of_z}
use mir.Syntax.{w128}
use Rattle.instance_gen.specs.Drawing.{whole}
use Rattle.instance_gen.specs.Drawn.{level_limits}
use Rattle.instance_gen.proofs.PartLemmas.{limits-more, limits-none}
use Rattle.instance_gen.proofs.parts.add_limits.Goals as goal

pub loop-k-init : goal.loop-k-init
loop-k-init c = limits-none c.args.limits.now.items c.args.limit

pub loop-k-preserved : goal.loop-k-preserved
loop-k-preserved c =
    let before = c.args.limits.now.items in
    let k = c.loop-k.k in
    let limit = c.args.limit in
    let count = c.count-count.result in
    let back = to_z-of_z w128 count (record { sfits = c.count-count.type_inv }) in
    c.in_ok-push.ensures.items
    ∙ ap (λ (z : ℤ). c.loop-k.limits.items ++ z ∷ []) back
    ∙ ap (λ (zs : List ℤ). zs ++ count ∷ []) c.loop-k.invariant
    ∙ ap (λ (z : ℤ). before ++ level_limits k limit ++ z ∷ []) (c.count-count.ensures.value ∙ c.whole.ensures)
    ∙ append_assoc before (level_limits k limit) (whole limit ∷ [])
    ∙ ap (λ (zs : List ℤ). before ++ zs) (sym (limits-more k limit))
