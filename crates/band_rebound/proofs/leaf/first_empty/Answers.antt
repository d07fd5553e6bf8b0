use Rattle.std.proofs.Common.{sym, ◌∙◌, arith}
use Rattle.std.proofs.lemmas.Bool.{false≢true}
use Rattle.band_rebound.proofs.LeafLemmas.{first_is_empty}
use Rattle.band_rebound.proofs.leaf.first_empty.Goals as goal

pub returns-then-not-has_start-clause-some : goal.returns-then-not-has_start-clause-some
returns-then-not-has_start-clause-some c =
    first_is_empty c.args.inst.now c.args.spans.now c.loop-i.i
    (omega (arith, c.interventions-i-end.ensures.value, c.loop-i-test.true))
    (λ h. false≢true (sym c.if-not-has_start.true ∙ c.has_start.ensures.1 h)) c.loop-i.invariant
