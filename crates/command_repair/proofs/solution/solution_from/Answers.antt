use Rattle.std.proofs.Common.{List, Option, ℕ, subst}
use Rattle.command_answers.specs.Accepting.{ShortValidIsAuditable}
use Rattle.command_repair.proofs.SolutionLemmas.{short_valid, can_report, is_solution}
use Rattle.command_repair.proofs.solution.solution_from.Goals as goal

pub report_on-requires-clause-can : goal.report_on-requires-clause-can
report_on-requires-clause-can g c =
    can_report c.args.inst.now c.args.old.now c.args.turns c.requires.turns c.fits.ensures c.in_ok-made.made.plan
    c.in_ok-made.made.certificate c.in_ok-made.ensures

pub returns : goal.returns
returns g c =
    let inst = c.args.inst.now in
    let old = c.args.old.now in
    let made = c.in_ok-made.made in
    is_solution inst old c.args.turns c.requires.turns c.fits.ensures made.plan made.certificate c.in_ok-made.ensures
    (subst (λ (o : List (Option ℕ)). ShortValidIsAuditable inst o) c.in_ok-goal.ensures c.valid_is_audited.ensures
    made.certificate
    (short_valid inst old c.args.turns c.requires.turns c.fits.ensures made.plan made.certificate c.in_ok-made.ensures
    c.texts_are_short.ensures.fit)) c.in_ok-report.report c.in_ok-report.ensures
