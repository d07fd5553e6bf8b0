use Rattle.std.proofs.Common.{◌≡◌, take}
use Rattle.certificate_text.specs.Lengths.{counted_length}
use Rattle.refined_text.specs.text.Steps.{group_texts}
use Rattle.refined_text.proofs.text.entry_lengths.groups_length.Given as goal

abbrev pub invariant-loop-group : goal.invariant-loop-group
invariant-loop-group l = l.total ≡ counted_length (group_texts l.t (take l.group-index l.groups))
