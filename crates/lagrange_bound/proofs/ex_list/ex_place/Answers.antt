use Rattle.std.proofs.Common.{arith, rules, ◌+◌, ◌-◌, ◌/◌}
use Rattle.lagrange_bound.proofs.ExListLemmas.{before_more, after_more}
use Rattle.lagrange_bound.proofs.ex_list.ex_place.Goals as goal

pub loop-low-preserved-then-is_before : goal.loop-low-preserved-then-is_before
loop-low-preserved-then-is_before c = record {
  order = omega arith;
  within = omega arith;
  before = before_more c.args.ex.now c.args.e c.args.t (c.loop-low.low + (c.loop-low.high - c.loop-low.low) / 2)
      (record { exclusion = 0; period = 0; value = 0 }) c.requires (omega arith) (search rules);
  after = c.loop-low.invariant.after;
}

pub loop-low-preserved : goal.loop-low-preserved
loop-low-preserved c = record {
  order = omega arith;
  within = omega arith;
  before = c.loop-low.invariant.before;
  after = after_more c.args.ex.now c.args.e c.args.t (c.loop-low.low + (c.loop-low.high - c.loop-low.low) / 2)
      (record { exclusion = 0; period = 0; value = 0 }) c.requires (omega arith) (search rules);
}
