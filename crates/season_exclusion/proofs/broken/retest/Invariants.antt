use Rattle.std.proofs.Common.{◌≡◌, ◌≢◌, ◌<◌, ℕ, false, length, get_or}
use Rattle.season_exclusion.specs.Broken.{is_broken, count_set}
use Rattle.season_exclusion.proofs.broken.retest.Given as goal

abbrev pub invariant-loop-e : goal.invariant-loop-e
invariant-loop-e l = record {
  each : length l.flags ≡ length l.fn.flags;
  named : (j : ℕ) → j < l.e-index
      → get_or l.flags (get_or l.named j 0) false ≡ is_broken l.inst l.starts (get_or l.named j 0);
  others : (e : ℕ) → ((j : ℕ) → j < length l.named → get_or l.named j 0 ≢ e)
      → get_or l.flags e false ≡ get_or l.fn.flags e false;
  count : l.count ≡ count_set l.flags;
}
