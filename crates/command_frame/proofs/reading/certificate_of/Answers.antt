-- Why a certificate file is refused, where its bytes are not read.
use Rattle.std.proofs.Common.{ℕ, List, refl}
use Rattle.std.proofs.lemmas.Result.{err_from_is_err_and}
use Rattle.plan_desk.specs.Desk.{Shown}
use Rattle.instance_model.specs.declared.limits.Limits.{Limits}
use Rattle.instance_model.specs.Tables.{Tables}
use Rattle.command_frame.specs.declared.refusal.Refusal.{Refusal}
use Rattle.command_frame.specs.declared.refusal.Refusal.TheVariants.{LongCertificate}
use Rattle.command_frame.specs.Bytes.{CertificateTexts}
use Rattle.command_frame.specs.Refusals.{IsReadCause, IsCertificateCauseBy}
use Rattle.command_frame.specs.Refusals.IsReadCause.{unread, too_long, no_memory}
use Rattle.command_frame.proofs.reading.certificate_of.Goals as goal

read_cause : {C : Type 0} (texts : CertificateTexts C) (limits : Limits) (word : ℕ) (name : List ℕ) (inst : Tables)
    (old new : Shown) (r : Refusal)
    → IsReadCause name word limits.certificate_bytes LongCertificate old new r
    → IsCertificateCauseBy texts limits word name inst old new r
read_cause texts limits word name inst old new r (unread fails) = (refl, fails)
read_cause texts limits word name inst old new r (too_long held) = held
read_cause texts limits word name inst old new r no_memory = tt

pub returns-in_err-bytes-clause-err : goal.returns-in_err-bytes-clause-err
returns-in_err-bytes-clause-err g c =
    let p = err_from_is_err_and c.from_residual.result c.from_residual.ensures.1 in
    rw (p.1, p.2)
    (read_cause g.C.FileCertificate.kind.texts c.args.limits.now c.args.word c.args.name.now c.args.inst.now
    (g.D.Desk.shows c.args.desk.now) (g.D.Desk.shows c.bytes_of.new.desk) _ c.in_err-bytes.ensures.err)
