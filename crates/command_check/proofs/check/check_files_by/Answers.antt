-- A run of `check` from what it read and what it said.
use Rattle.std.specs.Prelude.{option_copied}
use Rattle.std.proofs.Common.{subst}
use Rattle.instance_model.specs.declared.limits.Limits.{Limits}
use Rattle.command_frame.specs.Sources.{source_view}
use Rattle.command_frame.specs.Files.{reading}
use Rattle.command_check.specs.Checking.{RunsCheckBy}
use Rattle.command_answers.specs.Check.{AnswersCheckBy}
use Rattle.command_frame.proofs.EndLemmas.{reads_keep, report_ends}
use Rattle.command_check.proofs.CheckRun.{check_stays, check_runs}
use Rattle.command_check.proofs.check.check_files_by.Goals as goal

pub returns : goal.returns
returns g c =
    let old = g.D.Desk.shows c.args.desk.now in
    let mid = g.D.Desk.shows c.check_certificate-report.new.desk in
    let new = g.D.Desk.shows c.say_report.new.desk in
    let source = source_view c.args.source.now in
    let plan = option_copied c.args.plan in
    let limits = c.standard-limits.result in
    let kind = g.C.FileCertificate.kind in
    let e = c.check_certificate-report.ensures in
    subst (λ (l : Limits). RunsCheckBy kind l source plan c.args.certificate.now old new c.say_report.result)
    c.standard-limits.ensures
    (check_runs kind limits source plan c.args.certificate.now old new c.say_report.result
    (report_ends (λ at. AnswersCheckBy kind limits
    (reading old at) source.slack source.instance plan c.args.certificate.now) old mid new
    c.check_certificate-report.result
    c.say_report.result
    (check_stays kind limits source plan c.args.certificate.now old mid new) e.only_reads
    c.say_report.ensures.keeps e.faults e.kept e.ok e.err c.say_report.ensures.ends)
    (reads_keep old mid new e.only_reads c.say_report.ensures.keeps))
