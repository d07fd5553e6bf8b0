use Rattle.std.proofs.Common.{◌≡◌, take}
use Rattle.certificate_text.specs.Lengths.{counted_length}
use Rattle.refined_text.specs.text.Steps.{list_texts}
use Rattle.refined_text.proofs.text.lengths.lists_length.Given as goal

abbrev pub invariant-loop-list : goal.invariant-loop-list
invariant-loop-list l = l.total ≡ counted_length (list_texts l.inst (take l.list-index l.lists))
