use Rattle.std.proofs.Common.{◌≡◌, ◌∙◌, ◌+◌, ◌-◌, ◌*◌, ◌<◌, ◌^◌, sym, ap, arith, ℕ, ℤ, true, Some, to_z}
use Rattle.std.specs.Int.{w128}
use Rattle.duration_calendar.proofs.WindowLemmas.{in_window_from}
use Rattle.fixed_num.specs.Sums.{sum_below}
use Rattle.fixed_num.proofs.SumLemmas.{sum_step, sum_step_small}
use Rattle.instance_model.specs.Tables.{in_run}
use Rattle.instance_model.proofs.BoardLemmas.{in_run-before, in_run-behind}
use Rattle.lagrange_bound.specs.Prices.{tail_of}
use Rattle.lagrange_bound.specs.Bases.{base_of}
use Rattle.lagrange_bound.proofs.BaseLemmas.{seen, share_at, share_idle, share_running, sum_below-idle, sum_below_ends}
use Rattle.lagrange_bound.proofs.risk_goal.base_on.Goals as goal

pub loop-t-init : goal.loop-t-init
loop-t-init g c =
    let i = c.args.inst.now in
    let tails = tail_of c.args.prices.now in
    let from : c.run-window.result.from ≡ c.args.s = ap (λ w. w.from) c.run-window.ensures.value in
    record {
      value = sym (sum_below-idle (c.run-window.result.from - 1) (share_at i tails c.args.i c.args.s)
          (λ k l. share_idle i tails c.args.i c.args.s k
          (in_run-before i c.args.i c.args.s (k + 1) (omega (arith, l, from)))));
      small = omega arith;
    }

pub term-base-requires-clause-running : goal.term-base-requires-clause-running
term-base-requires-clause-running g c =
    sym (c.run-window.ensures.periods c.loop-t.t)
    ∙ in_window_from c.run-window.result c.loop-t.t (omega arith) (omega arith)

pub term-base-requires-clause-tail : goal.term-base-requires-clause-tail
term-base-requires-clause-tail g c = λ some e.
    let is : tail_of c.args.prices.now c.loop-t.t ≡ Some some.now = sym c.tail.ensures ∙ ap seen e in
    c.requires.prices.tails c.loop-t.t (omega arith) (omega arith) some.now is

pub loop-t-preserved : goal.loop-t-preserved
loop-t-preserved g c =
    let i = c.args.inst.now in
    let tails = tail_of c.args.prices.now in
    let f : ℕ → ℤ = share_at c.args.inst.now (tail_of c.args.prices.now) c.args.i c.args.s in
    let u = c.loop-t.t - 1 in
    let next : c.loop-t.t - 1 + 1 ≡ c.loop-t.t + 1 - 1 = omega arith in
    let running : in_run c.args.inst.now c.args.i c.args.s c.loop-t.t ≡ true =
    sym (c.run-window.ensures.periods c.loop-t.t)
    ∙ in_window_from c.run-window.result c.loop-t.t (omega arith) (omega arith) in
    let term = share_running i tails (seen c.tail.result) c.args.i c.args.s c.loop-t.t c.term-base.result (omega arith)
    running c.tail.ensures c.term-base.ensures.value in
    let few : (c.loop-t.t - 1 + 1) * 300_000_000_000_000_000_000_000_000 < 2 ^ 127 = omega arith in
    record {
      value = sum_step (to_z w128 c.loop-t.base-bits) c.term-base.result u 300_000_000_000_000_000_000_000_000 f
          c.loop-t.invariant.value c.loop-t.invariant.small term c.term-base.ensures.small few
          ∙ ap (λ (n : ℕ). sum_below n f) next;
      small = omega (
        arith,
        sum_step_small (to_z w128 c.loop-t.base-bits) c.term-base.result u 300_000_000_000_000_000_000_000_000
            c.loop-t.invariant.small c.term-base.ensures.small few,
      );
    }

pub returns-clause-value : goal.returns-clause-value
unfolding base_of
returns-clause-value g c =
    let i = c.args.inst.now in
    let tails = tail_of c.args.prices.now in
    let past = ap (λ w. w.past) c.run-window.ensures.value in
    c.loop-t.invariant.value ∙ sum_below_ends (c.loop-t.t - 1) i.periods (share_at i tails c.args.i c.args.s) (omega
    arith)
    (λ k l m. share_idle i tails c.args.i c.args.s k
    (in_run-behind i c.args.i c.args.s (k + 1) (omega (arith, l, past))))

pub returns-clause-small : goal.returns-clause-small
returns-clause-small g c = omega (arith, c.loop-t.invariant.small, c.fits.ensures.few_periods)
