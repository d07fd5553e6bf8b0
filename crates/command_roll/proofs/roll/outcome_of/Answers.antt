-- The outcome is the answer to the instance and the plan.
use Rattle.std.proofs.Common.{◌≡◌, ◌<◌, ◌≤◌, ◌∙◌, sym, ap, arith, length, List, ℕ, Option}
use Rattle.plan_roll.specs.Texts.{rolled_text}
use Rattle.command_roll.specs.Rolling.{rolled_report}
use Rattle.command_roll.proofs.RollLemmas.{looked_at, broken_rolls, long_rolls, whole_rolls}
use Rattle.command_roll.proofs.RollNames.{kept_names}
use Rattle.command_roll.proofs.roll.outcome_of.Goals as goal

pub infeasible_text-requires : goal.infeasible_text-requires
infeasible_text-requires c =
    kept_names c.args.inst.now c.as_slice.result.now c.args.period c.in-Some.rule
    (sym c.kept_fault.ensures.rule ∙ c.in-Some.is)

pub returns-in-Some : goal.returns-in-Some
returns-in-Some c =
    broken_rolls c.args.limits.now c.args.inst.now c.args.plan.now c.args.period c.kept_fault.result c.in-Some.rule
    c.in_ok-infeasible_text.field-0
    (looked_at c.args.inst.now c.args.plan.now c.as_slice.result.now c.args.period c.kept_fault.result
    c.as_slice.ensures c.kept_fault.ensures.rule c.kept_fault.ensures.none)
    c.in-Some.is c.in_ok-infeasible_text.ensures

pub returns-then-limits-rolled_length : goal.returns-then-limits-rolled_length
returns-then-limits-rolled_length c =
    let inst = c.args.inst.now in
    let same : length (rolled_text inst c.as_slice-2.result.now c.args.period)
    ≡ length (rolled_text inst c.args.plan.now c.args.period) =
    ap (λ (p : List (Option ℕ)). length (rolled_text inst p c.args.period)) c.as_slice-2.ensures in
    let long : c.args.limits.now.instance_bytes < length (rolled_text inst c.args.plan.now c.args.period) =
    omega (arith, same, c.rolled_length.ensures, c.if-limits-rolled_length.true) in
    long_rolls c.args.limits.now inst c.args.plan.now c.args.period c.kept_fault.result
    (looked_at inst c.args.plan.now c.as_slice.result.now c.args.period c.kept_fault.result
    c.as_slice.ensures c.kept_fault.ensures.rule c.kept_fault.ensures.none)
    c.in_default.is long

pub returns : goal.returns
returns c =
    let inst = c.args.inst.now in
    let same : length (rolled_text inst c.as_slice-2.result.now c.args.period)
    ≡ length (rolled_text inst c.args.plan.now c.args.period) =
    ap (λ (p : List (Option ℕ)). length (rolled_text inst p c.args.period)) c.as_slice-2.ensures in
    let few : length (rolled_text inst c.args.plan.now c.args.period) ≤ c.args.limits.now.instance_bytes =
    omega (arith, same, c.rolled_length.ensures, c.if-limits-rolled_length.false) in
    whole_rolls c.args.limits.now inst c.args.plan.now c.args.period c.kept_fault.result c.in_ok-rolled_text.field-0
    (looked_at inst c.args.plan.now c.as_slice.result.now c.args.period c.kept_fault.result
    c.as_slice.ensures c.kept_fault.ensures.rule c.kept_fault.ensures.none)
    c.in_default.is few
    (c.in_ok-rolled_text.ensures
    ∙ ap (λ (p : List (Option ℕ)). rolled_report inst p c.args.period) c.as_slice-3.ensures)
