use Rattle.std.proofs.Common.{◌≡◌, ℕ, ◌+◌, ◌<◌, ◌≤◌, length, get_or}
use Rattle.lagrange_bound.specs.ExSums.{sum_place}
use Rattle.refined_prices.proofs.TablesPaidLemmas.{value_so_far}
use Rattle.refined_prices.proofs.tables.paid_sums.add_clique.Given as goal

abbrev pub invariant-loop-i : goal.invariant-loop-i
invariant-loop-i l = record {
  each : length l.sums.items ≡ length l.initial.sums.items;
  added : (i t : ℕ) → i < length l.inst.names → 1 ≤ t → t ≤ l.inst.periods
      → get_or l.sums.items (sum_place l.inst i t) 0
      ≡ get_or l.initial.sums.items (sum_place l.inst i t) 0 + value_so_far l.x l.i-index i t;
}
