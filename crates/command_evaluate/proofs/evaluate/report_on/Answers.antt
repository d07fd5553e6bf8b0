use Rattle.command_evaluate.proofs.EvaluateLemmas.{broken_names, broken_judged, feasible_found, feasible_judged}
use Rattle.command_evaluate.proofs.evaluate.report_on.Goals as goal

pub infeasible_text-requires : goal.infeasible_text-requires
infeasible_text-requires c =
    broken_names c.args.inst.now c.as_slice.result.now c.in_ok-values.field-0 c.in-Broken.rule
    c.in_ok-values.ensures.broken c.in-Broken.is

pub returns-in_ok-feasible_text-in-Feasible : goal.returns-in_ok-feasible_text-in-Feasible
returns-in_ok-feasible_text-in-Feasible c =
    feasible_judged c.args.inst.now c.args.plan.now c.as_slice.result.now c.in-Feasible.values
    c.in_ok-feasible_text-in-Feasible.field-0 c.as_slice.ensures
    (feasible_found c.args.inst.now c.as_slice.result.now c.in_ok-values.field-0 c.in-Feasible.values c.in-Feasible.is
    c.in_ok-values.ensures.feasible c.in_ok-values.ensures.values c.in_ok-values.ensures.encloses)
    c.in_ok-feasible_text-in-Feasible.ensures

pub returns-in_ok-infeasible_text-in-Broken : goal.returns-in_ok-infeasible_text-in-Broken
returns-in_ok-infeasible_text-in-Broken c =
    broken_judged c.args.inst.now c.args.plan.now c.as_slice.result.now c.in_ok-values.field-0 c.in-Broken.rule
    c.in_ok-infeasible_text-in-Broken.field-0
    c.as_slice.ensures c.in_ok-values.ensures.broken c.in-Broken.is c.in_ok-infeasible_text-in-Broken.ensures
