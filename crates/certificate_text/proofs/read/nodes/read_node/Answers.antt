use Rattle.std.proofs.Common.{◌∷◌}
use Rattle.certificate_text.specs.Grammar as place
use Rattle.certificate_text.proofs.ReadStepLemmas.{fails_told}
use Rattle.certificate_text.proofs.read.nodes.read_node.Goals as goal

pub returns-clause-err : goal.returns-clause-err
returns-clause-err c = λ boxes. fails_told c.args.inst.now (place.nodes c.args.lists (c.args.spans.now ∷ boxes))
    c.args.lines.now _ c.in_ok-line.line c.in-Err.refusal _ c.fault.ensures (λ z. z) c.in_ok-line.ensures.ok
    (c.in-Err.ensures.err boxes)
