use Rattle.std.proofs.Common.{◌≡◌, ◌∙◌, ◌+◌, ◌-◌, ◌*◌, ◌<◌, ◌≤◌, ◌^◌, refl, sym, ap, arith, ℕ, true, Some, to_z}
use Rattle.std.proofs.Common.{unsigned_abs}
use Rattle.std.specs.Int.{w128}
use Rattle.duration_calendar.proofs.WindowLemmas.{in_window_from}
use Rattle.fixed_num.specs.Sums.{sum_below}
use Rattle.fixed_num.proofs.SumLemmas.{sum_step, sum_step_small}
use Rattle.instance_model.specs.Tables.{in_run}
use Rattle.instance_model.proofs.BoardLemmas.{in_run-before, in_run-behind}
use Rattle.lagrange_bound.proofs.BaseLemmas.{sum_below-idle, sum_below_ends}
use Rattle.refined_prices.specs.Offsets.{group_tail_at, offset_of}
use Rattle.refined_prices.specs.GroupBases.{group_base_of, group_term_of}
use Rattle.refined_prices.proofs.GroupSizes.{offset_of_small, group_term_of_small}
use Rattle.refined_prices.proofs.TablesRiskTermLemmas.{seen_group}
use Rattle.refined_prices.proofs.TablesRowLemmas.{AreOffsetsFrom-row, term_by_row, group_share, group_share_running}
use Rattle.refined_prices.proofs.TablesRowLemmas.{group_share_idle}
use Rattle.refined_prices.proofs.tables.rows.group_base.Goals as goal

pub loop-t-init : goal.loop-t-init
loop-t-init g c =
    let from : c.run-window.result.from ≡ c.args.s = ap (λ w. w.from) c.run-window.ensures.value in
    record {
      value = sym (sum_below-idle (c.run-window.result.from - 1)
          (group_share c.args.inst.now c.args.list.now.tails c.args.list.now.offsets c.args.i c.args.s)
          (λ k l. group_share_idle c.args.inst.now c.args.list.now.tails c.args.list.now.offsets c.args.i c.args.s k
          (in_run-before c.args.inst.now c.args.i c.args.s (k + 1) (omega (arith, l, from)))));
      small = omega arith;
    }

pub group_term-base-requires-clause-running : goal.group_term-base-requires-clause-running
group_term-base-requires-clause-running g c =
    sym (c.run-window.ensures.periods c.loop-t.t)
    ∙ in_window_from c.run-window.result c.loop-t.t (omega arith) (omega arith)

pub group_term-base-requires-clause-tail : goal.group_term-base-requires-clause-tail
group_term-base-requires-clause-tail g c = λ some e.
    let is : group_tail_at c.args.list.now.tails c.loop-t.t ≡ Some some.now = sym c.tail.ensures ∙ ap seen_group e in
    c.requires.list.tails c.loop-t.t (omega arith) (omega arith) some.now is

pub group_term-base-requires-clause-offsets : goal.group_term-base-requires-clause-offsets
group_term-base-requires-clause-offsets g c =
    AreOffsetsFrom-row c.args.inst.now c.args.list.now.tails c.args.list.now.offsets c.args.width c.args.i c.loop-t.t
    ((c.loop-t.t - 1) * c.args.width) c.args.row.now (seen_group c.tail.result) c.requires.width c.requires.row
    (λ k. offset_of_small c.args.inst.now c.args.list.now.tails c.args.list.now.offsets c.loop-t.t c.args.i k
    c.requires.list.offsets) (omega arith) (omega arith) refl c.tail.ensures

pub loop-t-preserved : goal.loop-t-preserved
loop-t-preserved g c =
    let u = c.loop-t.t - 1 in
    let next : c.loop-t.t - 1 + 1 ≡ c.loop-t.t + 1 - 1 = omega arith in
    let running : in_run c.args.inst.now c.args.i c.args.s c.loop-t.t ≡ true =
    sym (c.run-window.ensures.periods c.loop-t.t)
    ∙ in_window_from c.run-window.result c.loop-t.t (omega arith) (omega arith) in
    let value : c.group_term-base.result ≡ group_term_of c.args.inst.now
    (group_tail_at c.args.list.now.tails c.loop-t.t) (offset_of c.args.list.now.offsets c.loop-t.t c.args.i) c.args.i
    c.args.s c.loop-t.t =
    term_by_row c.args.inst.now c.args.list.now.tails c.args.list.now.offsets c.args.width c.args.i c.args.s c.loop-t.t
    ((c.loop-t.t - 1) * c.args.width) c.args.row.now (seen_group c.tail.result) c.group_term-base.result
    c.requires.width c.requires.row (omega arith) (omega arith) refl c.tail.ensures c.group_term-base.ensures.value in
    let term = group_share_running c.args.inst.now c.args.list.now.tails c.args.list.now.offsets c.args.i c.args.s
    c.loop-t.t c.group_term-base.result (omega arith) running value in
    let size : unsigned_abs c.group_term-base.result ≤ 301_000_000_000_000_000_000_000_000 =
    rw value (group_term_of_small c.args.inst.now (group_tail_at c.args.list.now.tails c.loop-t.t)
    (offset_of c.args.list.now.offsets c.loop-t.t c.args.i) c.args.i c.args.s c.loop-t.t c.fits.ensures (omega arith)
    (omega arith)
    (λ k. offset_of_small c.args.inst.now c.args.list.now.tails c.args.list.now.offsets c.loop-t.t c.args.i k
    c.requires.list.offsets)
    (c.requires.list.tails c.loop-t.t (omega arith) (omega arith))) in
    let few : (c.loop-t.t - 1 + 1) * 301_000_000_000_000_000_000_000_000 < 2 ^ 127 = omega arith in
    record {
      value = sum_step (to_z w128 c.loop-t.base-bits) c.group_term-base.result u 301_000_000_000_000_000_000_000_000
          (group_share c.args.inst.now c.args.list.now.tails c.args.list.now.offsets c.args.i c.args.s)
          c.loop-t.invariant.value c.loop-t.invariant.small term size few
          ∙ ap (λ (n : ℕ). sum_below n
          (group_share c.args.inst.now c.args.list.now.tails c.args.list.now.offsets c.args.i c.args.s)) next;
      small = omega (
        arith,
        sum_step_small (to_z w128 c.loop-t.base-bits) c.group_term-base.result u 301_000_000_000_000_000_000_000_000
            c.loop-t.invariant.small size few,
      );
    }

pub returns-clause-value : goal.returns-clause-value
unfolding group_base_of
returns-clause-value g c =
    let past = ap (λ w. w.past) c.run-window.ensures.value in
    c.loop-t.invariant.value ∙ sum_below_ends (c.loop-t.t - 1) c.args.inst.now.periods
    (group_share c.args.inst.now c.args.list.now.tails c.args.list.now.offsets c.args.i c.args.s) (omega arith)
    (λ k l m. group_share_idle c.args.inst.now c.args.list.now.tails c.args.list.now.offsets c.args.i c.args.s k
    (in_run-behind c.args.inst.now c.args.i c.args.s (k + 1) (omega (arith, l, past))))
