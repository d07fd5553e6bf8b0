use Rattle.std.proofs.Common.{◌^◌, ◌<◌, ◌≤◌, ◌≤ℤ◌, ℕ, pos, get_or, unsigned_abs}
use Rattle.quantile_index.proofs.ranks.least_of.Given as goal

abbrev pub invariant-loop-key : goal.invariant-loop-key
invariant-loop-key l = record {
  least : (k : ℕ) → k < l.key-index → l.least ≤ℤ get_or l.keys k (pos 0);
  small : unsigned_abs l.least ≤ 10 ^ 30;
}
