use Rattle.std.proofs.lemmas.Result.{err_from_is_err_and}
use Rattle.certificate_text.proofs.ReadWholeLemmas.{text_fails, rest_fails}
use Rattle.certificate_text.proofs.read.read.read_whole.Goals as goal

pub returns-in_err-end-clause-fault : goal.returns-in_err-end-clause-fault
returns-in_err-end-clause-fault c =
    let p = err_from_is_err_and c.from_residual-in_err-end.result c.from_residual-in_err-end.ensures.1 in
    let inst = c.args.inst.now in
    rw (p.1, p.2) (text_fails inst c.args.bytes.now c.of-lines.result c.in_err-end.field-0.0 c.of-lines.ensures.rest
    c.of-lines.ensures.none (rest_fails inst c.in_ok-cert.cert c.of-lines.result c.read_lines.new.lines
    c.in_err-end.field-0.0 c.in_ok-cert.ensures.ok c.in_err-end.ensures.err))
