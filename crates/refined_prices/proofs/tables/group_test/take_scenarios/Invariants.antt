use Rattle.std.proofs.Common.{◌≡◌, ℕ, false, ◌||◌, length, get_or, take}
use Rattle.refined_prices.specs.tables.GroupTests.{has_scenario}
use Rattle.refined_prices.proofs.tables.group_test.take_scenarios.Given as goal

abbrev pub invariant-loop-member : goal.invariant-loop-member
invariant-loop-member l = record {
  each : length l.taken.items ≡ length l.initial.taken.items;
  taken : (k : ℕ) → get_or l.taken.items k false
      ≡ (get_or l.initial.taken.items k false || has_scenario (take l.member-index l.group) k);
}
