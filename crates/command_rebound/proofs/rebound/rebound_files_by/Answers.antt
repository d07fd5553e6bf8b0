-- A run of `rebound` from what it read, wrote and said.
use Rattle.command_frame.specs.Sources.{source_view}
use Rattle.command_frame.specs.Files.{reading}
use Rattle.command_frame.proofs.EndLemmas.{refusal_ends}
use Rattle.command_rebound.specs.Rebinding.{AnswersReboundBy}
use Rattle.command_rebound.proofs.ReboundRun.{rebound_stays, rebound_runs}
use Rattle.command_rebound.proofs.MakingLemmas.{read_ends}
use Rattle.command_rebound.proofs.rebound.rebound_files_by.Goals as goal

pub returns-in-Ok : goal.returns-in-Ok
returns-in-Ok g c =
    let kind = g.C.FileCertificate.kind in
    let limits = c.args.limits.now in
    let source = source_view c.args.source.now in
    let name = c.args.certificate.now in
    let out = c.args.out.now in
    let old = g.D.Desk.shows c.args.desk.now in
    let mid = g.D.Desk.shows c.read_files.new.desk in
    let new = g.D.Desk.shows c.rebound_read.new.desk in
    let read = c.in-Ok.ensures in
    let files = c.in-Ok.files in
    let status = c.rebound_read.result in
    rebound_runs kind limits source name out old new (g.met.D.Desk.names c.args.desk.now) status
    (read_ends kind limits source name out old mid new read.only_reads files.inst files.cert read.ok status read.faults
    c.rebound_read.ensures)

pub returns-in-Err : goal.returns-in-Err
returns-in-Err g c =
    let kind = g.C.FileCertificate.kind in
    let limits = c.args.limits.now in
    let source = source_view c.args.source.now in
    let name = c.args.certificate.now in
    let out = c.args.out.now in
    let old = g.D.Desk.shows c.args.desk.now in
    let mid = g.D.Desk.shows c.read_files.new.desk in
    let new = g.D.Desk.shows c.refuse.new.desk in
    let read = c.in-Err.ensures in
    rebound_runs kind limits source name out old new (g.met.D.Desk.names c.args.desk.now) c.refuse.result
    (refusal_ends (λ at. AnswersReboundBy kind limits (reading old at) source.slack source.instance name out) old mid
    new c.in-Err.refusal c.refuse.result
    (rebound_stays kind limits source name out old mid new) read.only_reads
    c.refuse.ensures.keeps read.kept (read.err out) c.refuse.ensures.ends)
