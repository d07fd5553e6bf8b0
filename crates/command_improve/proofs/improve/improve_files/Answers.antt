-- A run of `improve` from what it read, wrote and said.
use Rattle.std.specs.Prelude.{option_copied}
use Rattle.std.proofs.Common.{subst}
use Rattle.instance_model.specs.declared.limits.Limits.{Limits}
use Rattle.instance_model.specs.Limits.{standard_limits}
use Rattle.command_frame.specs.Sources.{source_view}
use Rattle.command_improve.specs.Made.{AreRead, IsReadCause}
use Rattle.command_improve.proofs.ReadingLemmas.{read_cause_due}
use Rattle.command_improve.proofs.ImproveRun.{improve_runs, solution_ends, refused_ends}
use Rattle.command_improve.proofs.improve.improve_files.Goals as goal

pub returns-in-Ok : goal.returns-in-Ok
returns-in-Ok g c =
    let source = source_view c.args.source.now in
    let plan = option_copied c.args.plan in
    let out = c.args.out.now in
    let old = g.D.Desk.shows c.args.desk.now in
    let mid = g.D.Desk.shows c.read_files.new.desk in
    let new = g.D.Desk.shows c.improve_read.new.desk in
    let read = c.in-Ok.ensures in
    let status = c.improve_read.result in
    improve_runs standard_limits source plan out c.args.turns old new (g.met.D.Desk.names c.args.desk.now) c.args.seed
    status
    (solution_ends source plan out c.args.turns old mid new read.only_reads c.in-Ok.read.inst c.in-Ok.read.plan status
    (subst (λ (l : Limits). AreRead l source plan old c.in-Ok.read.inst c.in-Ok.read.plan) c.standard-limits.ensures
    read.ok) read.faults c.improve_read.ensures)

pub returns-in-Err : goal.returns-in-Err
returns-in-Err g c =
    let source = source_view c.args.source.now in
    let plan = option_copied c.args.plan in
    let out = c.args.out.now in
    let old = g.D.Desk.shows c.args.desk.now in
    let mid = g.D.Desk.shows c.read_files.new.desk in
    let new = g.D.Desk.shows c.refuse.new.desk in
    let read = c.in-Err.ensures in
    improve_runs standard_limits source plan out c.args.turns old new (g.met.D.Desk.names c.args.desk.now) c.args.seed
    c.refuse.result
    (refused_ends source plan out c.args.turns old mid new read.only_reads c.in-Err.refusal c.refuse.result
    c.refuse.ensures.keeps read.kept
    (read_cause_due source plan out c.args.turns old mid c.in-Err.refusal
    (subst (λ (l : Limits). IsReadCause l source plan old mid c.in-Err.refusal) c.standard-limits.ensures read.err))
    c.refuse.ensures.ends)
