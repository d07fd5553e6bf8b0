use Rattle.std.proofs.Common.{◌≡◌, ◌≤◌, false, get_or}
use Rattle.instance_model.specs.Naturals.{count_sum}
use Rattle.season_exclusion.proofs.CountLemmas.{bit}
use Rattle.season_exclusion.proofs.broken.count_set.Given as goal

abbrev pub invariant-loop-flag : goal.invariant-loop-flag
invariant-loop-flag l = record {
  value : l.count ≡ count_sum l.flag-index (λ k. bit (get_or l.flags k false));
  small : l.count ≤ l.flag-index;
}
