-- A run of `solve` from what it read, wrote and said.
use Rattle.std.proofs.Common.{subst}
use Rattle.instance_model.specs.declared.limits.Limits.{Limits}
use Rattle.instance_model.specs.Limits.{standard_limits}
use Rattle.command_frame.specs.Sources.{source_view}
use Rattle.command_frame.specs.Files.{ReadsInstance}
use Rattle.command_frame.specs.Refusals.{IsInstanceCause}
use Rattle.command_solve.specs.Made.{files_view}
use Rattle.command_solve.proofs.SolveRun.{solve_runs, solution_ends, refused_ends}
use Rattle.command_solve.proofs.solve.solve_files.Goals as goal

pub returns-in-Ok : goal.returns-in-Ok
returns-in-Ok g c =
    let source = source_view c.args.source.now in
    let files = files_view c.args.files.now in
    let old = g.D.Desk.shows c.args.desk.now in
    let mid = g.D.Desk.shows c.instance_of.new.desk in
    let new = g.D.Desk.shows c.solve_instance.new.desk in
    let read = c.in-Ok.ensures in
    let status = c.solve_instance.result in
    solve_runs standard_limits source files c.args.turns old new c.requires.distinct (g.met.D.Desk.names
    c.args.desk.now)
    status
    (solution_ends source files c.args.turns old mid new read.only_reads c.in-Ok.inst status
    (subst (λ (l : Limits). ReadsInstance l source old c.in-Ok.inst) c.standard-limits.ensures read.ok) read.faults
    c.solve_instance.ensures)

pub returns-in-Err : goal.returns-in-Err
returns-in-Err g c =
    let source = source_view c.args.source.now in
    let files = files_view c.args.files.now in
    let old = g.D.Desk.shows c.args.desk.now in
    let mid = g.D.Desk.shows c.instance_of.new.desk in
    let new = g.D.Desk.shows c.refuse.new.desk in
    let read = c.in-Err.ensures in
    solve_runs standard_limits source files c.args.turns old new c.requires.distinct (g.met.D.Desk.names
    c.args.desk.now)
    c.refuse.result
    (refused_ends source files c.args.turns old mid new read.only_reads c.in-Err.refusal c.refuse.result
    c.refuse.ensures.keeps read.kept
    (subst (λ (l : Limits). IsInstanceCause l 2 source.instance old mid c.in-Err.refusal)
    c.standard-limits.ensures read.err)
    c.refuse.ensures.ends)
