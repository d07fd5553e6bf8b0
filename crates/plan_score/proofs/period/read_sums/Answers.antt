use Rattle.std.proofs.Common.{◌∙◌, sym, ap, arith, pos, ℤ, List, [], ◌∷◌, ◌++◌, get_or}
use Rattle.std.proofs.lemmas.List.{get_or_default, take_all, take_more}
use Rattle.fixed_num.proofs.SignedLemmas.{back_from_abs}
use Rattle.plan_score.proofs.period.read_sums.Goals as goal

pub loop-sum-preserved : goal.loop-sum-preserved
loop-sum-preserved g c =
    let xs = c.args.sums.now in
    let i = c.loop-sum.sum-index in
    let read = c.value.ensures.value ∙ c.sum-item.is ∙ get_or_default xs i c.sum-item.result (pos 0) (omega arith) in
    c.in_ok-push.ensures.items
    ∙ ap (λ (x : ℤ). c.loop-sum.values.items ++ x ∷ [])
    (back_from_abs c.value.result (omega (arith, c.value.ensures.small)) ∙ read)
    ∙ ap (λ (ys : List ℤ). ys ++ get_or xs i (pos 0) ∷ []) c.loop-sum.invariant
    ∙ sym (take_more xs i (pos 0) (omega arith))

pub returns : goal.returns
returns g c = c.loop-sum.invariant ∙ take_all c.loop-sum.sum-index c.args.sums.now (omega arith)
