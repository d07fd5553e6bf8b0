use Rattle.std.proofs.Common.{ℕ, List, Option, Some, map, sym, subst}
use Rattle.std.specs.Prelude.{IfSome, IfNone}
use Rattle.instance_model.specs.Plans.{AreAllowedStarts}
use Rattle.instance_model.specs.Rules.{IsFeasible}
use Rattle.plan_score.specs.declared.values.Values.{Values}
use Rattle.branch_search.proofs.SettleLemmas.{allowed_of_feasible}
use Rattle.local_search.specs.Ends.{IsDescended}
use Rattle.plan_improvement.specs.Improving.{IsJudged}
use Rattle.plan_improvement.proofs.StepLemmas.{still_feasible, settles}
use Rattle.plan_improvement.proofs.steps.settled.Goals as goal

pub descend_from-requires : goal.descend_from-requires
descend_from-requires g c =
    let plan = c.args.plan.now in
    subst (AreAllowedStarts c.args.inst.now) (sym c.as_slice.ensures)
    (allowed_of_feasible c.args.inst.now plan.starts c.requires.is_plan.each c.requires.is_plan.feasible)

pub unreachable-requires : goal.unreachable-requires
unreachable-requires g c =
    let inst = c.args.inst.now in
    let plan = c.args.plan.now in
    let descended = c.in_ok-descended.descended in
    subst (λ (o : Option Values). IfNone o (IsFeasible inst (map Some c.as_slice-2.result.now) → ⊥)) c.in-None.is
    c.in_ok-values.ensures.broken
    (subst (λ (xs : List ℕ). IsFeasible inst (map Some xs)) (sym c.as_slice-2.ensures)
    (still_feasible inst plan c.requires descended
    (subst (λ (xs : List ℕ). IsDescended inst 1_000 xs descended) c.as_slice.ensures c.in_ok-descended.ensures)))

pub returns : goal.returns
returns g c =
    let inst = c.args.inst.now in
    let plan = c.args.plan.now in
    let descended = c.in_ok-descended.descended in
    let values = c.in-Some.values in
    settles inst plan c.requires descended
    (subst (λ (xs : List ℕ). IsDescended inst 1_000 xs descended) c.as_slice.ensures c.in_ok-descended.ensures) values
    (subst (λ (xs : List ℕ). IsJudged inst xs values) c.as_slice-2.ensures
    (subst (λ (o : Option Values). IfSome o (IsJudged inst c.as_slice-2.result.now)) c.in-Some.is
    c.in_ok-values.ensures.kept))
