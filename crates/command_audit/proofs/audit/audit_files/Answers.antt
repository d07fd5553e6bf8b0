-- A run of `audit` from what it read and what it said.
use Rattle.std.proofs.Common.{subst}
use Rattle.instance_model.specs.declared.limits.Limits.{Limits}
use Rattle.command_frame.specs.Sources.{source_view}
use Rattle.command_frame.specs.Files.{reading}
use Rattle.command_audit.specs.Auditing.{RunsAudit}
use Rattle.command_answers.specs.Audit.{AnswersAudit}
use Rattle.command_frame.proofs.EndLemmas.{reads_keep, report_ends}
use Rattle.command_audit.proofs.AuditRun.{audit_stays, audit_runs}
use Rattle.command_audit.proofs.audit.audit_files.Goals as goal

pub returns : goal.returns
returns g c =
    let old = g.D.Desk.shows c.args.desk.now in
    let mid = g.D.Desk.shows c.audit-report.new.desk in
    let new = g.D.Desk.shows c.say_report.new.desk in
    let source = source_view c.args.source.now in
    let limits = c.standard-limits.result in
    let e = c.audit-report.ensures in
    subst (λ (l : Limits). RunsAudit l source c.args.plan.now c.args.certificate.now old new c.say_report.result)
    c.standard-limits.ensures
    (audit_runs limits source c.args.plan.now c.args.certificate.now old new c.say_report.result
    (report_ends (λ at. AnswersAudit limits
    (reading old at) source.slack source.instance c.args.plan.now c.args.certificate.now) old mid new
    c.audit-report.result c.say_report.result
    (audit_stays limits source c.args.plan.now c.args.certificate.now old mid new)
    e.only_reads c.say_report.ensures.keeps e.faults e.kept e.ok e.err c.say_report.ensures.ends)
    (reads_keep old mid new e.only_reads c.say_report.ensures.keeps))
