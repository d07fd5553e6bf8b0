-- A run of `bound` from what it read, wrote and said.
use Rattle.std.specs.Prelude.{option_copied}
use Rattle.command_frame.specs.Sources.{source_view}
use Rattle.command_frame.specs.Files.{reading}
use Rattle.command_frame.proofs.EndLemmas.{refusal_ends}
use Rattle.command_bound.specs.Bounding.{AnswersBound}
use Rattle.command_bound.proofs.BoundRun.{bound_stays, bound_runs}
use Rattle.command_bound.proofs.EndingLemmas.{read_ends}
use Rattle.command_bound.proofs.bound.bound_files.Goals as goal

pub returns-in-Ok : goal.returns-in-Ok
returns-in-Ok g c =
    let limits = c.args.limits.now in
    let source = source_view c.args.source.now in
    let plan = option_copied c.args.plan in
    let cert = option_copied c.args.certificate in
    let out = c.args.out.now in
    let turns = c.args.turns in
    let part = c.args.part in
    let old = g.D.Desk.shows c.args.desk.now in
    let mid = g.D.Desk.shows c.read_files.new.desk in
    let new = g.D.Desk.shows c.bound_read.new.desk in
    let read = c.in-Ok.ensures in
    let files = c.in-Ok.files in
    bound_runs limits source plan cert out turns part old new (g.met.D.Desk.names c.args.desk.now) c.bound_read.result
    (read_ends limits source plan cert out turns part old mid new read.only_reads files.inst files.plan files.cert
    read.ok
    c.bound_read.result read.faults c.bound_read.ensures)

pub returns-in-Err : goal.returns-in-Err
returns-in-Err g c =
    let limits = c.args.limits.now in
    let source = source_view c.args.source.now in
    let plan = option_copied c.args.plan in
    let cert = option_copied c.args.certificate in
    let out = c.args.out.now in
    let turns = c.args.turns in
    let part = c.args.part in
    let old = g.D.Desk.shows c.args.desk.now in
    let mid = g.D.Desk.shows c.read_files.new.desk in
    let new = g.D.Desk.shows c.refuse.new.desk in
    let read = c.in-Err.ensures in
    bound_runs limits source plan cert out turns part old new (g.met.D.Desk.names c.args.desk.now) c.refuse.result
    (refusal_ends (λ at. AnswersBound limits (reading old at) source.slack source.instance plan cert out turns part)
    old mid
    new c.in-Err.refusal c.refuse.result (bound_stays limits source plan cert out turns part old mid new)
    read.only_reads
    c.refuse.ensures.keeps read.kept (read.err out turns part) c.refuse.ensures.ends)
