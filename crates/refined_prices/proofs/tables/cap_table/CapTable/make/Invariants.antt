use Rattle.std.proofs.Common.{ℕ, ◌*◌, ◌≤◌, pos, get_or, unsigned_abs}
use Rattle.fixed_num.specs.Sums.{sum_below}
use Rattle.refined_prices.specs.Caps.{most_taken}
use Rattle.refined_prices.specs.tables.CapTables.{AreByBand}
use Rattle.refined_prices.proofs.tables.cap_table.CapTable.make.Given as goal

abbrev pub invariant-loop-i : goal.invariant-loop-i
invariant-loop-i l = record {
  taken : AreByBand l.inst (λ c t. sum_below l.i (most_taken l.inst c t)) l.taken.items;
  small : (k : ℕ) → unsigned_abs (get_or l.taken.items k (pos 0)) ≤ l.i * 100_000_000_000_000_000_000;
}
