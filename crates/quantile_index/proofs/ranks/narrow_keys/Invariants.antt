use Rattle.std.proofs.Common.{◌≡◌, ◌<◌, ℕ, pos, length, get_or}
use Rattle.quantile_index.specs.SortKeys.{key_above}
use Rattle.quantile_index.proofs.ranks.narrow_keys.Given as goal

abbrev pub invariant-loop-i : goal.invariant-loop-i
invariant-loop-i l = record {
  each : length l.narrow ≡ length l.keys;
  done : (k : ℕ) → k < l.i → get_or l.keys k (pos 0) ≡ key_above l.least (get_or l.narrow k 0);
}
