-- A run of `replay` from what it read and what it said.
use Rattle.std.proofs.Common.{subst}
use Rattle.instance_model.specs.declared.limits.Limits.{Limits}
use Rattle.command_frame.specs.Sources.{source_view}
use Rattle.command_frame.specs.Files.{reading}
use Rattle.command_replay.specs.Replaying.{AnswersReplay, RunsReplay}
use Rattle.command_frame.proofs.EndLemmas.{reads_keep, answer_ends, refusal_ends}
use Rattle.command_replay.proofs.ReplayLemmas.{read_answer}
use Rattle.command_replay.proofs.ReplayRun.{replay_stays, replay_runs}
use Rattle.command_replay.proofs.replay.replay_files.Goals as goal

pub returns-in-Ok : goal.returns-in-Ok
returns-in-Ok g c =
    let old = g.D.Desk.shows c.args.desk.now in
    let mid = g.D.Desk.shows c.read_files.new.desk in
    let new = g.D.Desk.shows c.replay_read.new.desk in
    let source = source_view c.args.source.now in
    let plan = c.args.plan.now in
    let script = c.args.script.now in
    let limits = c.standard-limits.result in
    let e = c.in-Ok.ensures in
    subst (λ (l : Limits). RunsReplay l source plan script old new c.replay_read.result) c.standard-limits.ensures
    (replay_runs limits source plan script old new c.replay_read.result
    (answer_ends (λ at. AnswersReplay limits (reading old at) source.slack source.instance plan script) old mid
    new c.replay_read.result
    (replay_stays limits source plan script old mid new) e.only_reads
    c.replay_read.ensures.keeps e.faults
    (read_answer limits source plan script old mid new c.in-Ok.files.inst c.in-Ok.files.plan c.in-Ok.files.script
    c.replay_read.result e.ok c.replay_read.ensures.ends))
    (reads_keep old mid new e.only_reads c.replay_read.ensures.keeps))

pub returns-in-Err : goal.returns-in-Err
returns-in-Err g c =
    let old = g.D.Desk.shows c.args.desk.now in
    let mid = g.D.Desk.shows c.read_files.new.desk in
    let new = g.D.Desk.shows c.refuse.new.desk in
    let source = source_view c.args.source.now in
    let plan = c.args.plan.now in
    let script = c.args.script.now in
    let limits = c.standard-limits.result in
    let e = c.in-Err.ensures in
    subst (λ (l : Limits). RunsReplay l source plan script old new c.refuse.result) c.standard-limits.ensures
    (replay_runs limits source plan script old new c.refuse.result
    (refusal_ends (λ at. AnswersReplay limits (reading old at) source.slack source.instance plan script) old
    mid new c.in-Err.refusal c.refuse.result
    (replay_stays limits source plan script old mid new) e.only_reads c.refuse.ensures.keeps
    e.kept e.err c.refuse.ensures.ends)
    (reads_keep old mid new e.only_reads c.refuse.ensures.keeps))
