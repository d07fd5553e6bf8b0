use Rattle.std.proofs.Common.{◌∙◌, ◌+◌, ◌++◌, sym, ap, arith, ℤ, List, [], ◌∷◌, map, Some}
use Rattle.fixed_num.proofs.SumLemmas.{list_of_more}
use Rattle.fixed_num.proofs.SignedLemmas.{back_from_abs}
use Rattle.instance_model.specs.Plans.{scenario_sum}
use Rattle.price_ladder.proofs.PlanTailLemmas.{scenario_sums_all}
use Rattle.price_ladder.proofs.plan_tail.scenario_sums.Goals as goal

pub loop-k-preserved : goal.loop-k-preserved
loop-k-preserved g c =
    c.in_ok-push.ensures.items
    ∙ ap (λ (z : ℤ). c.loop-k.sums.items ++ z ∷ [])
    (back_from_abs c.scenario_sum.result (omega (arith, c.scenario_sum.ensures.small))
    ∙ c.scenario_sum.ensures.value)
    ∙ ap (λ (zs : List ℤ). zs ++ scenario_sum c.args.inst.now (map Some c.args.starts.now) c.args.t (c.loop-k.k + 1)
    ∷ []) c.loop-k.invariant
    ∙ sym (list_of_more c.loop-k.k (λ k. scenario_sum c.args.inst.now (map Some c.args.starts.now) c.args.t (k + 1)))

pub returns : goal.returns
returns g c = scenario_sums_all c.args.inst.now c.args.starts.now c.args.t c.loop-k.k c.loop-k.sums.items
    (omega arith) c.loop-k.invariant
