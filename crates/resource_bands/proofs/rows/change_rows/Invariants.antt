use Rattle.std.proofs.Common.{◌≡◌, ◌*◌, ◌≤◌, ◌+ℤ◌, unsigned_abs}
use Rattle.resource_bands.specs.Gaps.{rows_gap}
use Rattle.resource_bands.proofs.WalkLemmas.{AreChangedTo}
use Rattle.resource_bands.proofs.rows.change_rows.Given as goal

abbrev pub invariant-loop-k : goal.invariant-loop-k
invariant-loop-k l = record {
  walked : AreChangedTo l.change l.cells l.from l.k l.fn.rows l.rows;
  gap : rows_gap l.inst l.rows ≡ rows_gap l.inst l.fn.rows +ℤ l.further;
  small : unsigned_abs l.further ≤ l.k * 2_000_000_000_000_000_000_000_000;
}
