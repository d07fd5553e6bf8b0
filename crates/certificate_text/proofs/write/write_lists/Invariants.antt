use Rattle.std.proofs.Common.{take}
use Rattle.std.specs.List.{flat_map}
use Rattle.certificate_text.specs.Text.{list_lines}
use Rattle.certificate_text.proofs.WriteLemmas.{HasLines}
use Rattle.certificate_text.proofs.write.write_lists.Given as goal

abbrev pub invariant-loop-prices : goal.invariant-loop-prices
invariant-loop-prices g l = HasLines (flat_map (list_lines l.inst) (take l.prices-index l.lists))
    (g.D.Desk.shows l.fn.desk) (g.D.Desk.shows l.desk)
