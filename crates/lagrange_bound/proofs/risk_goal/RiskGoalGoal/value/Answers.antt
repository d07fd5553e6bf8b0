use Rattle.std.proofs.Common.{◌≡◌, ◌∙◌, sym, ap, subst, arith, map, Some}
use Rattle.fixed_num.proofs.SignedLemmas.{back_from_abs}
use Rattle.instance_model.specs.Plans.{RunsAreAllowed}
use Rattle.instance_model.specs.Values.{score_of}
use Rattle.instance_model.proofs.BoardLemmas.{RunsAreAllowed-starts}
use Rattle.plan_score.specs.Values.{values_of}
use Rattle.plan_score.specs.declared.values.Values.{Values}
use Rattle.lagrange_bound.proofs.risk_goal.RiskGoalGoal.value.Goals as goal

pub plan_values-requires-clause-allowed : goal.plan_values-requires-clause-allowed
plan_values-requires-clause-allowed c =
    subst (RunsAreAllowed c.args.inst.now) (sym (c.as_slice.ensures.value ∙ c.in_ok-plan.ensures))
    (RunsAreAllowed-starts c.args.inst.now c.args.starts.now c.requires)

pub returns-clause-value : goal.returns-clause-value
unfolding values_of
returns-clause-value c =
    let plan : c.as_slice.result.now ≡ map Some c.args.starts.now = c.as_slice.ensures.value ∙ c.in_ok-plan.ensures in
    let b = back_from_abs c.in_ok-plan_values.field-0.score (omega (arith, c.in_ok-plan_values.ensures.small)) in
    b ∙ ap (λ (v : Values). v.score) c.in_ok-plan_values.ensures.values ∙ ap (score_of c.args.inst.now) plan
