use Rattle.std.proofs.Common.{◌≡◌, ℕ, ◌<◌, ◌≤◌, pos, ◌+ℤ◌, length, get_or}
use Rattle.refined_prices.proofs.tables.cap_table.add_row.Given as goal

abbrev pub invariant-loop-k : goal.invariant-loop-k
invariant-loop-k l = record {
  each : length l.sums.items ≡ length l.initial.sums.items;
  done : (j : ℕ) → j < l.k → get_or l.sums.items j (pos 0)
      ≡ get_or l.initial.sums.items j (pos 0) +ℤ get_or l.row j (pos 0);
  rest : (j : ℕ) → l.k ≤ j → get_or l.sums.items j (pos 0) ≡ get_or l.initial.sums.items j (pos 0);
}
