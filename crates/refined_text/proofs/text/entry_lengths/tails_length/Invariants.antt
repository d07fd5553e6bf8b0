use Rattle.std.proofs.Common.{◌≡◌, take}
use Rattle.certificate_text.specs.Lengths.{counted_length}
use Rattle.refined_text.specs.text.Text.{text_of_refined, group_lines}
use Rattle.refined_text.proofs.text.entry_lengths.tails_length.Given as goal

abbrev pub invariant-loop-u : goal.invariant-loop-u
invariant-loop-u l = l.total ≡ counted_length (text_of_refined (group_lines 1 (take l.u l.list.tails)))
