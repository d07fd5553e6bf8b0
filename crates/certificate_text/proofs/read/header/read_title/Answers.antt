use Rattle.certificate_text.specs.Grammar as place
use Rattle.certificate_text.proofs.ReadStepLemmas.{fails_told}
use Rattle.certificate_text.proofs.read.header.read_title.Goals as goal

pub returns-clause-err : goal.returns-clause-err
returns-clause-err c = λ inst. fails_told inst place.title c.args.lines.now _ c.in_ok-line.line c.in-Err.refusal _
    c.fault.ensures (λ z. z) c.in_ok-line.ensures.ok (c.in-Err.ensures.err inst)
