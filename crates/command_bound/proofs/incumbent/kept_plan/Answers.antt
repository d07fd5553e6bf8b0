use Rattle.std.proofs.Common.{◌<◌, ◌^◌, arith, sym, subst, Some, ℤ, unsigned_abs}
use Rattle.fixed_num.proofs.SignedLemmas.{back_from_abs}
use Rattle.plan_score.specs.Verdict.{IfFeasible}
use Rattle.plan_score.specs.declared.verdict.Verdict.{Verdict}
use Rattle.command_bound.specs.Made.{IsChosen}
use Rattle.command_bound.proofs.IncumbentLemmas.{left_aside, handed_in, never_broken}
use Rattle.command_bound.proofs.incumbent.kept_plan.Goals as goal

pub returns-in-Broken : goal.returns-in-Broken
returns-in-Broken c =
    left_aside c.args.inst.now c.args.plan.now c.as_slice.result.now c.as_slice.ensures c.in_ok-values.field-0
    c.in-Broken.field-0 c.in-Broken.is c.in_ok-values.ensures.broken

pub unreachable-requires : goal.unreachable-requires
unreachable-requires c =
    never_broken c.args.inst.now c.args.plan.now c.as_slice.result.now c.as_slice.ensures c.in_ok-values.field-0
    c.in-Feasible.values c.in-Feasible.is c.in_ok-values.ensures.feasible c.in-Broken-2.field-0
    c.in_ok-starts.field-0 c.in-Broken-2.is c.in_ok-starts.ensures

pub returns : goal.returns
returns c =
    let values = c.in-Feasible.values in
    let told : unsigned_abs values.score < 10 ^ 33 =
    subst (λ (v : Verdict). IfFeasible v (λ x. unsigned_abs x.score < 10 ^ 33)) c.in-Feasible.is
    c.in_ok-values.ensures.small in
    subst
    (λ (z : ℤ). IsChosen c.args.inst.now (Some c.args.plan.now) (Some (record { starts = c.in-Starts.starts; score = z })))
    (sym (back_from_abs values.score (omega (arith, told))))
    (handed_in c.args.inst.now c.args.plan.now c.as_slice.result.now c.as_slice.ensures c.in_ok-values.field-0 values
    c.in-Feasible.is c.in_ok-values.ensures.feasible c.in-Starts.starts c.in_ok-starts.field-0 c.requires
    c.in_ok-values.ensures.values c.in_ok-values.ensures.small c.in-Starts.is c.in_ok-starts.ensures)
