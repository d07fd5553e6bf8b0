use Rattle.std.proofs.Common.{◌∙◌, ap, sym, List, [], ◌∷◌, ◌++◌}
use Rattle.instance_model.specs.declared.parts.Exclusion.{Exclusion}
use Rattle.instance_gen.specs.Drawn.{drawn_exclusion, drawn_exclusions}
use Rattle.instance_gen.proofs.PartLemmas.{exclusions-more}
use Rattle.instance_gen.proofs.parts.exclusions.Goals as goal

pub loop-k-init : goal.loop-k-init
unfolding drawn_exclusions
loop-k-init c = c.new-excluded.ensures.items

pub loop-k-preserved : goal.loop-k-preserved
loop-k-preserved c =
    let k = c.loop-k.k in
    c.in_ok-push.ensures.items
    ∙ ap (λ (es : List Exclusion). es ++ drawn_exclusion k ∷ []) c.loop-k.invariant
    ∙ sym (exclusions-more k)
