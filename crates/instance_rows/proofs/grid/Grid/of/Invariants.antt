use Rattle.std.proofs.Common.{◌≡◌, ◌*◌, length, take}
use Rattle.instance_rows.specs.Grid.{HasPlaces}
use Rattle.instance_rows.proofs.grid.Grid.of.Given as goal

abbrev pub invariant-loop-k : goal.invariant-loop-k
invariant-loop-k l = record {
  size : length l.places.items ≡ l.starts * l.periods;
  places : HasPlaces l.starts l.periods l.places.items (take l.k l.lists);
}
