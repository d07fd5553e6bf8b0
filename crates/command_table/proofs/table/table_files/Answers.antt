-- A run of `table` from what it read and what it said.
use Rattle.std.proofs.Common.{subst}
use Rattle.instance_model.specs.declared.limits.Limits.{Limits}
use Rattle.command_frame.specs.Sources.{source_view}
use Rattle.command_frame.specs.Files.{reading}
use Rattle.command_table.specs.Tabling.{AnswersTable, RunsTable}
use Rattle.command_frame.proofs.EndLemmas.{reads_keep, answer_ends, refusal_ends}
use Rattle.command_table.proofs.TableLemmas.{table_answer}
use Rattle.command_table.proofs.TableRun.{table_stays, table_runs}
use Rattle.command_table.proofs.table.table_files.Goals as goal

pub returns-in-Ok : goal.returns-in-Ok
returns-in-Ok g c =
    let old = g.D.Desk.shows c.args.desk.now in
    let mid = g.D.Desk.shows c.read_files.new.desk in
    let new = g.D.Desk.shows c.table_read.new.desk in
    let source = source_view c.args.source.now in
    let plan = c.args.plan.now in
    let limits = c.standard-limits.result in
    let e = c.in-Ok.ensures in
    subst (λ (l : Limits). RunsTable l source plan c.args.from c.args.to old new c.table_read.result)
    c.standard-limits.ensures
    (table_runs limits source plan c.args.from c.args.to old new c.table_read.result
    (answer_ends
    (λ at. AnswersTable limits (reading old at) source.slack source.instance plan c.args.from c.args.to) old
    mid new c.table_read.result
    (table_stays limits source plan c.args.from c.args.to old mid new) e.only_reads
    c.table_read.ensures.keeps e.faults
    (table_answer limits source plan c.args.from c.args.to old mid new c.in-Ok.files.inst c.in-Ok.files.plan
    c.table_read.result e.ok c.table_read.ensures.ends))
    (reads_keep old mid new e.only_reads c.table_read.ensures.keeps))

pub returns-in-Err : goal.returns-in-Err
returns-in-Err g c =
    let old = g.D.Desk.shows c.args.desk.now in
    let mid = g.D.Desk.shows c.read_files.new.desk in
    let new = g.D.Desk.shows c.refuse.new.desk in
    let source = source_view c.args.source.now in
    let plan = c.args.plan.now in
    let limits = c.standard-limits.result in
    let e = c.in-Err.ensures in
    subst (λ (l : Limits). RunsTable l source plan c.args.from c.args.to old new c.refuse.result)
    c.standard-limits.ensures
    (table_runs limits source plan c.args.from c.args.to old new c.refuse.result
    (refusal_ends
    (λ at. AnswersTable limits (reading old at) source.slack source.instance plan c.args.from c.args.to) old
    mid new c.in-Err.refusal c.refuse.result
    (table_stays limits source plan c.args.from c.args.to old mid new) e.only_reads
    c.refuse.ensures.keeps e.kept (e.err c.args.from c.args.to) c.refuse.ensures.ends)
    (reads_keep old mid new e.only_reads c.refuse.ensures.keeps))
