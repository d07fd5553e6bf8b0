-- What is due for `rebound`, where a file is refused, and where both were read.
use Rattle.std.proofs.lemmas.Result.{err_from_is_err_and}
use Rattle.command_frame.specs.Sources.{source_view}
use Rattle.command_frame.specs.Files.{reading, OnCertificateBy}
use Rattle.command_frame.proofs.FileLemmas.{is_read}
use Rattle.command_frame.proofs.ReadLemmas.{kept_before, refuses_instance}
use Rattle.command_rebound.specs.Rebinding.{RebindsBy}
use Rattle.command_rebound.proofs.ReadingLemmas.{refuses_certificate, are_read}
use Rattle.command_rebound.proofs.rebound.read_files.Goals as goal

pub returns-in_err-inst-clause-err : goal.returns-in_err-inst-clause-err
returns-in_err-inst-clause-err g c =
    let old = g.D.Desk.shows c.args.desk.now in
    let new = g.D.Desk.shows c.instance_of.new.desk in
    let p = err_from_is_err_and c.from_residual.result c.from_residual.ensures.1 in
    rw (p.1, p.2)
    (λ out. refuses_instance c.args.limits.now (source_view c.args.source.now) old new
    (λ i. OnCertificateBy g.C.FileCertificate.kind.texts c.args.limits.now i (reading old new) 3
    c.args.certificate.now (RebindsBy g.C.FileCertificate.kind c.args.limits.now i out)) _ c.in_err-inst.ensures.err)

pub returns-in_err-cert-clause-err : goal.returns-in_err-cert-clause-err
returns-in_err-cert-clause-err g c =
    let old = g.D.Desk.shows c.args.desk.now in
    let mid = g.D.Desk.shows c.instance_of.new.desk in
    let p = err_from_is_err_and c.from_residual-in_err-cert.result c.from_residual-in_err-cert.ensures.1 in
    rw (p.1, p.2)
    (λ out. refuses_certificate g.C.FileCertificate.kind c.args.limits.now (source_view c.args.source.now)
    c.args.certificate.now out old mid
    (g.D.Desk.shows c.certificate_of.new.desk) c.in_ok-inst.inst _ c.in_ok-inst.ensures.ok
    (is_read c.args.source.now.instance.now old mid c.in_ok-inst.ensures.read c.in_ok-inst.ensures.faults)
    c.in_err-cert.ensures.err)

pub returns-in_err-cert-clause-kept : goal.returns-in_err-cert-clause-kept
returns-in_err-cert-clause-kept g c =
    let p = err_from_is_err_and c.from_residual-in_err-cert.result c.from_residual-in_err-cert.ensures.1 in
    rw (p.1, p.2)
    (kept_before (g.D.Desk.shows c.args.desk.now) (g.D.Desk.shows c.instance_of.new.desk)
    (g.D.Desk.shows c.certificate_of.new.desk) _ c.in_ok-inst.ensures.faults c.in_err-cert.ensures.kept)

pub returns-clause-ok : goal.returns-clause-ok
returns-clause-ok g c =
    let old = g.D.Desk.shows c.args.desk.now in
    let mid = g.D.Desk.shows c.instance_of.new.desk in
    are_read g.C.FileCertificate.kind c.args.limits.now (source_view c.args.source.now) c.args.certificate.now old mid
    c.in_ok-inst.inst
    c.in_ok-cert.cert c.in_ok-inst.ensures.ok
    (is_read c.args.source.now.instance.now old mid c.in_ok-inst.ensures.read c.in_ok-inst.ensures.faults)
    c.in_ok-cert.ensures.ok c.in_ok-cert.ensures.in_range
