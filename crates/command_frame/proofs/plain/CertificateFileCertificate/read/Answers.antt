use Rattle.std.proofs.lemmas.Result.{IfOk-weaker}
use Rattle.certificate_tree.specs.Ranges.{IsInRange}
use Rattle.certificate_text.specs.read.Faults.{IsTextOf}
use Rattle.command_frame.proofs.plain.CertificateFileCertificate.read.Goals as goal

pub returns-clause-in_range : goal.returns-clause-in_range
returns-clause-in_range c =
    IfOk-weaker c.read_certificate.result (IsTextOf c.args.inst.now c.args.bytes.now) (IsInRange c.args.inst.now)
    (λ cert text. text.in_range) c.read_certificate.ensures.found
