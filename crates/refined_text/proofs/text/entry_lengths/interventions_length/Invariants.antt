use Rattle.std.proofs.Common.{◌≡◌, take}
use Rattle.certificate_text.specs.Lengths.{counted_length}
use Rattle.refined_text.specs.text.Steps.{clique_words}
use Rattle.refined_text.proofs.text.entry_lengths.interventions_length.Given as goal

abbrev pub invariant-loop-i : goal.invariant-loop-i
invariant-loop-i l = l.total ≡ counted_length (clique_words (take l.i-index l.members))
