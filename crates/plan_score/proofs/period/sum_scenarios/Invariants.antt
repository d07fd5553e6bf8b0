use Rattle.std.proofs.Common.{◌≡◌, ◌≤◌}
use Rattle.instance_model.specs.Naturals.{count_sum}
use Rattle.instance_model.specs.Plans.{sums_before, soft_at, start_of}
use Rattle.plan_score.proofs.period.sum_scenarios.Given as goal

abbrev pub invariant-loop-i : goal.invariant-loop-i
invariant-loop-i g l = record {
  sums : l.sums.items ≡ sums_before l.inst l.plan l.t l.i;
  soft : l.soft ≡ count_sum l.i (λ j. soft_at l.inst l.t j (start_of l.plan j));
  few : l.soft ≤ l.i;
}
