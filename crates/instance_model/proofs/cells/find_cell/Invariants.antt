use Rattle.std.proofs.Common.{ℕ, ◌-◌, ◌≤◌, ◌<◌, length, get_or}
use Rattle.instance_model.specs.declared.parts.LoadCell.{LoadCell}
use Rattle.instance_model.proofs.CellLemmas.{BeforeKey, AfterKey}
use Rattle.instance_model.proofs.cells.find_cell.Given as goal

abbrev pub invariant-loop-low : goal.invariant-loop-low
invariant-loop-low l =
    (l.high ≤ length l.cells) × ((k : ℕ) (d : LoadCell) → k < l.low → BeforeKey l.s l.t l.c (get_or l.cells k d))
    × ((k : ℕ) (d : LoadCell) → l.high ≤ k → k < length l.cells → AfterKey l.s l.t l.c (get_or l.cells k d))

abbrev pub decreases-loop-low : goal.decreases-loop-low
decreases-loop-low l = l.high - l.low
