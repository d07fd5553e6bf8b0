use Rattle.std.proofs.Common.{◌≡◌, ◌<◌, ℕ, [], length, get_or}
use Rattle.season_exclusion.specs.Broken.{naming_to}
use Rattle.season_exclusion.proofs.named.named_lists.Given as goal

abbrev pub invariant-loop-e : goal.invariant-loop-e
invariant-loop-e l = record {
  each : length l.lists.items ≡ length l.inst.names;
  named : (i : ℕ) → i < length l.inst.names → get_or l.lists.items i [] ≡ naming_to l.inst l.e i;
}
