use Rattle.command_frame.proofs.WriteLemmas.{puts_written}
use Rattle.command_frame.proofs.writing.put_certificate.Goals as goal

pub returns : goal.returns
returns g c =
    puts_written
    (record { name = c.args.name.now; bytes = g.C.FileCertificate.kind.text c.args.inst.now c.args.certificate.now })
    c.finish_out.result c.in_ok-put_out.ensures c.in_ok-write.ensures c.finish_out.ensures
