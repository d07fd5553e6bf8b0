use Rattle.std.proofs.Common.{◌≡◌, ◌≤◌, ◌*◌, unsigned_abs}
use Rattle.fixed_num.specs.Sums.{sum_below}
use Rattle.instance_model.specs.Plans.{load_at, start_of}
use Rattle.plan_score.proofs.bands.load_of_plan.Given as goal

abbrev pub invariant-loop-i : goal.invariant-loop-i
invariant-loop-i l = record {
  value : l.load ≡ sum_below l.i (λ j. load_at l.inst l.c l.t j (start_of l.plan j));
  small : unsigned_abs l.load ≤ l.i * 100_000_000_000_000_000_000;
}
