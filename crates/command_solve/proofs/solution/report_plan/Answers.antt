use Rattle.std.proofs.Common.{◌≡◌, ◌<◌, ◌^◌, ℤ, ◌∙◌, subst, unsigned_abs, arith}
use Rattle.fixed_num.proofs.SignedLemmas.{back_from_abs}
use Rattle.command_solve.specs.Made.{values_report}
use Rattle.command_solve.proofs.ReportLemmas.{reports_plan}
use Rattle.command_solve.proofs.solution.report_plan.Goals as goal

pub returns : goal.returns
returns c =
    let inst = c.args.inst.now in
    let values = c.in-Feasible.values in
    let cert = c.args.certificate.now in
    let moves = c.args.moves.now in
    let bound = c.args.bound in
    let text = c.in_ok-found_text-in-Feasible.field-0 in
    let fits : unsigned_abs bound < 2 ^ 127 = omega (arith, c.requires.bound) in
    reports_plan inst c.args.plan.now c.as_slice.result.now c.in_ok-values.field-0 values bound cert moves text
    (c.as_slice.ensures.value ∙ c.in_ok-plan.ensures) c.in-Feasible.is c.in_ok-values.ensures.values
    c.in_ok-values.ensures.encloses
    (subst (λ (z : ℤ). text ≡ values_report inst values z cert moves) (back_from_abs bound fits)
    c.in_ok-found_text-in-Feasible.ensures)
