use Rattle.std.proofs.Common.{◌≤◌, take}
use Rattle.quantile_index.specs.Order.{AllEntries, IsBefore}
use Rattle.quantile_index.proofs.flat_row.place_for.Given as goal

abbrev pub invariant-loop-i : goal.invariant-loop-i
invariant-loop-i g l = record {
  below : AllEntries (λ e. IsBefore e l.new) (take l.i l.entries);
  forward : l.initial.steps ≤ l.steps;
}
