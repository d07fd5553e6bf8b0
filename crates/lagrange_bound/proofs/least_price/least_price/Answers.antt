use Rattle.std.proofs.Common.{◌-◌, arith, None, get_or}
use Rattle.lagrange_bound.proofs.LeastLemmas.{least_loop_none, least_loop_more, least_loop_all, loop_end}
use Rattle.lagrange_bound.proofs.least_price.least_price.Goals as goal

pub loop-k-init : goal.loop-k-init
loop-k-init c = record {
  value = least_loop_none (λ k. get_or c.args.row.now k None) (c.args.span.from - 1);
  small = tt;
  start = λ h. omega arith;
}

pub loop-k-preserved : goal.loop-k-preserved
loop-k-preserved c = record {
  value = least_loop_more (λ k. get_or c.args.row.now k None) (c.args.span.from - 1) c.loop-k.k c.loop-k.best
      c.lesser-best.result (omega arith) c.loop-k.invariant.value c.lesser-best.ensures.value;
  small = c.lesser-best.ensures.small;
  start = λ h. omega arith;
}

pub returns-clause-value : goal.returns-clause-value
returns-clause-value c =
    least_loop_all (λ k. get_or c.args.row.now k None) (c.args.span.from - 1) c.loop-k.k c.args.span.to c.loop-k.best
    c.unwrap_or.result c.loop-k.invariant.value (loop_end (c.args.span.from - 1) c.loop-k.k c.args.span.to
    (omega arith) (omega arith) c.loop-k.invariant.start) c.loop-k.invariant.small c.unwrap_or.ensures
