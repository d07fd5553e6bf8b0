use Rattle.std.proofs.Common.{◌≡◌, ◌^◌, ◌<◌, ◌+◌, ℕ, pos, length, get_or, unsigned_abs}
use Rattle.quantile_index.specs.SortKeys.{key_of}
use Rattle.quantile_index.proofs.ranks.read_keys.Given as goal

abbrev pub invariant-loop-i : goal.invariant-loop-i
invariant-loop-i g l = record {
  each : length l.keys ≡ length l.from;
  done : (k : ℕ) → k < l.i → get_or l.keys k (pos 0) ≡ key_of (get_or l.from k (pos 0)) k;
  small : (k : ℕ) → k < l.i → unsigned_abs (get_or l.keys k (pos 0)) < 10 ^ 30;
  cost : l.steps ≡ l.fn.steps + l.i;
}
