use Rattle.std.proofs.Common.{◌≡◌, take}
use Rattle.std.specs.List.{flat_map}
use Rattle.certificate_text.specs.Text.{text_of_lines, list_lines}
use Rattle.certificate_text.specs.Lengths.{counted_length}
use Rattle.certificate_text.proofs.lengths.lists_length.Given as goal

abbrev pub invariant-loop-prices : goal.invariant-loop-prices
invariant-loop-prices l =
    l.total ≡ counted_length (text_of_lines (flat_map (list_lines l.inst) (take l.prices-index l.lists)))
