use Rattle.std.proofs.Common.{◌≡◌, take}
use Rattle.certificate_text.specs.Lengths.{counted_length}
use Rattle.refined_text.specs.text.Steps.{offset_texts}
use Rattle.refined_text.proofs.text.entry_lengths.offsets_length.Given as goal

abbrev pub invariant-loop-x : goal.invariant-loop-x
invariant-loop-x l = l.total ≡ counted_length (offset_texts (take l.x-index l.offsets))
