use Rattle.std.proofs.Common.{◌≡◌, take}
use Rattle.certificate_text.specs.Lengths.{counted_length}
use Rattle.refined_text.specs.text.Steps.{group_words}
use Rattle.refined_text.proofs.text.entry_lengths.members_length.Given as goal

abbrev pub invariant-loop-member : goal.invariant-loop-member
invariant-loop-member l = l.total ≡ counted_length (group_words (take l.member-index l.group))
