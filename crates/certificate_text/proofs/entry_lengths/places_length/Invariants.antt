use Rattle.std.proofs.Common.{◌≡◌, take}
use Rattle.certificate_lines.specs.Spelling.{words}
use Rattle.certificate_text.specs.Lengths.{counted_length}
use Rattle.certificate_text.proofs.entry_lengths.places_length.Given as goal

abbrev pub invariant-loop-place : goal.invariant-loop-place
invariant-loop-place l = l.total ≡ counted_length (words (take l.place-index l.places))
