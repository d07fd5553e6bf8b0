use Rattle.std.proofs.lemmas.Result.{IfOk-weaker}
use Rattle.command_frame.specs.Ending.{reply}
use Rattle.command_answers.specs.Check.{ChecksBy}
use Rattle.command_check.specs.Standing.{ChecksFor}
use Rattle.command_check.proofs.CheckLemmas.{broken_names, broken_checks, kept_checks, kept_small}
use Rattle.command_check.proofs.check.report_on.Goals as goal

pub infeasible_text-requires : goal.infeasible_text-requires
infeasible_text-requires g c =
    broken_names c.args.inst.now c.args.plan.now c.in_ok-given.given c.in-Broken.rule c.in_ok-given.ensures
    c.in-Broken.is

pub report_kept-requires-clause-score : goal.report_kept-requires-clause-score
report_kept-requires-clause-score g c =
    kept_small c.args.inst.now c.args.plan.now c.in_ok-given.given c.in-Kept.score c.in_ok-given.ensures c.in-Kept.is

pub returns-in-Kept : goal.returns-in-Kept
returns-in-Kept g c =
    IfOk-weaker c.report_kept.result
    (λ report. ChecksFor c.args.inst.now c.in-Kept.score
    (g.C.FileCertificate.kind.claim c.args.inst.now c.args.certificate.now) report.status report.text)
    (λ report. ChecksBy g.C.FileCertificate.kind c.args.inst.now c.args.plan.now c.args.certificate.now
    (reply report.status report.text))
    (λ report checks. kept_checks c.args.inst.now c.args.plan.now
    (g.C.FileCertificate.kind.claim c.args.inst.now c.args.certificate.now) c.in_ok-given.given
    c.in-Kept.score report.status report.text c.in_ok-given.ensures c.in-Kept.is checks) c.report_kept.ensures

pub returns-in_ok-infeasible_text-in-Broken : goal.returns-in_ok-infeasible_text-in-Broken
returns-in_ok-infeasible_text-in-Broken g c =
    broken_checks c.args.inst.now c.args.plan.now
    (g.C.FileCertificate.kind.claim c.args.inst.now c.args.certificate.now) c.in_ok-given.given c.in-Broken.rule
    c.in_ok-infeasible_text-in-Broken.field-0 c.in_ok-given.ensures c.in-Broken.is
    c.in_ok-infeasible_text-in-Broken.ensures
