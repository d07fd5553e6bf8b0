-- A run of `evaluate` from what it read and what it said.
use Rattle.std.proofs.Common.{subst}
use Rattle.instance_model.specs.declared.limits.Limits.{Limits}
use Rattle.command_frame.specs.Sources.{source_view}
use Rattle.command_frame.specs.Files.{reading}
use Rattle.command_evaluate.specs.Evaluating.{RunsEvaluate}
use Rattle.command_answers.specs.Evaluate.{AnswersEvaluate}
use Rattle.command_frame.proofs.EndLemmas.{reads_keep, report_ends}
use Rattle.command_evaluate.proofs.EvaluateRun.{evaluate_stays, evaluate_runs}
use Rattle.command_evaluate.proofs.evaluate.evaluate_files.Goals as goal

pub returns : goal.returns
returns g c =
    let old = g.D.Desk.shows c.args.desk.now in
    let mid = g.D.Desk.shows c.evaluate-report.new.desk in
    let new = g.D.Desk.shows c.say_report.new.desk in
    let source = source_view c.args.source.now in
    let limits = c.standard-limits.result in
    let e = c.evaluate-report.ensures in
    subst (λ (l : Limits). RunsEvaluate l source c.args.plan.now old new c.say_report.result) c.standard-limits.ensures
    (evaluate_runs limits source c.args.plan.now old new c.say_report.result
    (report_ends (λ at. AnswersEvaluate limits (reading old at) source.slack source.instance c.args.plan.now)
    old mid new c.evaluate-report.result c.say_report.result
    (evaluate_stays limits source c.args.plan.now old mid new) e.only_reads
    c.say_report.ensures.keeps e.faults e.kept e.ok e.err c.say_report.ensures.ends)
    (reads_keep old mid new e.only_reads c.say_report.ensures.keeps))
