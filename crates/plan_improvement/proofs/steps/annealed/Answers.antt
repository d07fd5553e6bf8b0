use Rattle.std.proofs.Common.{ℕ, List, sym, subst, Option}
use Rattle.std.specs.Prelude.{IfSome}
use Rattle.instance_model.specs.Plans.{AreAllowedStarts}
use Rattle.plan_score.specs.declared.values.Values.{Values}
use Rattle.branch_search.proofs.SettleLemmas.{allowed_of_feasible}
use Rattle.plan_improvement.specs.Improving.{IsJudged}
use Rattle.plan_improvement.proofs.StepLemmas.{compared, no_worse_found}
use Rattle.plan_improvement.proofs.steps.annealed.Goals as goal

pub anneal-requires : goal.anneal-requires
anneal-requires c = record {
  plan = subst (AreAllowedStarts c.args.inst.now) (sym c.as_slice.ensures)
      (allowed_of_feasible c.args.inst.now c.args.plan.starts c.requires.is_plan.each c.requires.is_plan.feasible);
}

pub returns-then-values-plan : goal.returns-then-values-plan
returns-then-values-plan c =
    let inst = c.args.inst.now in
    let plan = c.args.plan in
    let values = c.in-Some.values in
    let also : IsJudged inst c.in_ok-found.found values = subst (λ (xs : List ℕ). IsJudged inst xs values)
    c.as_slice-2.ensures
    (subst (λ (o : Option Values). IfSome o (IsJudged inst c.as_slice-2.result.now)) c.in-Some.is
    c.in_ok-values.ensures.kept) in
    no_worse_found inst plan c.requires c.in_ok-found.found values also
    (compared values.score plan.values.score also.small c.requires.small c.if-values-plan.true)
