use Rattle.std.proofs.Common.{◌≡◌, ◌∙◌, ◌+◌, ◌-◌, ◌*◌, ℕ, true, ap, arith, get_or, sym}
use Rattle.duration_calendar.proofs.WindowLemmas.{in_window_from}
use Rattle.instance_model.specs.Tables.{in_run}
use Rattle.instance_model.proofs.BoardLemmas.{in_run-before, in_run-behind}
use Rattle.lagrange_bound.proofs.ExCountLemmas.{ex_few}
use Rattle.refined_prices.proofs.TablesPaidLemmas.{paid_so_far, paid_in, paid_idle, paid_step, paid_small_all}
use Rattle.refined_prices.proofs.TablesPaidLemmas.{paid_over_run}
use Rattle.refined_prices.proofs.TablesPaidLemmas.{count_sum-idle, count_sum_ends}
use Rattle.refined_prices.proofs.tables.paid_sums.paid_over.Goals as goal

pub loop-t-init : goal.loop-t-init
loop-t-init c =
    let from : c.run-window.result.from ≡ c.args.s = ap (λ w. w.from) c.run-window.ensures.value in
    record {
      value = sym (count_sum-idle (c.run-window.result.from - 1)
          (paid_in c.args.inst.now c.args.list.now.prices.ex c.args.list.now.cliques c.args.i c.args.s)
          (λ k l. paid_idle c.args.inst.now c.args.list.now.prices.ex c.args.list.now.cliques c.args.i c.args.s k
          (in_run-before c.args.inst.now c.args.i c.args.s (k + 1) (omega (arith, l, from)))));
      small = omega arith;
    }

pub overflow_add-sum-in-loop-t : goal.overflow_add-sum-in-loop-t
overflow_add-sum-in-loop-t c =
    let read : get_or c.args.sums.now (c.args.i * c.periods-periods.result + (c.loop-t.t - 1)) 0
    ≡ paid_so_far c.args.inst.now c.args.list.now.prices.ex c.args.list.now.cliques c.args.i c.loop-t.t =
    ap (λ (w : ℕ). get_or c.args.sums.now (c.args.i * w + (c.loop-t.t - 1)) 0) c.periods-periods.ensures.value
    ∙ c.requires.sums.at c.args.i c.loop-t.t c.requires.number (omega arith) (omega arith) in
    let size = paid_small_all c.args.inst.now c.args.list.now.prices.ex c.args.list.now.cliques c.args.i c.loop-t.t
    c.requires.list.prices.ex (ex_few c.args.inst.now c.args.list.now.prices c.fits.ensures c.requires.list.prices)
    c.requires.list.cliques c.requires.list.few_cliques in
    omega (arith, read, size, c.loop-t.invariant.small, c.fits.ensures.few_periods)

pub loop-t-preserved : goal.loop-t-preserved
loop-t-preserved c =
    let read : get_or c.args.sums.now (c.args.i * c.periods-periods.result + (c.loop-t.t - 1)) 0
    ≡ paid_so_far c.args.inst.now c.args.list.now.prices.ex c.args.list.now.cliques c.args.i c.loop-t.t =
    ap (λ (w : ℕ). get_or c.args.sums.now (c.args.i * w + (c.loop-t.t - 1)) 0) c.periods-periods.ensures.value
    ∙ c.requires.sums.at c.args.i c.loop-t.t c.requires.number (omega arith) (omega arith) in
    let size = paid_small_all c.args.inst.now c.args.list.now.prices.ex c.args.list.now.cliques c.args.i c.loop-t.t
    c.requires.list.prices.ex (ex_few c.args.inst.now c.args.list.now.prices c.fits.ensures c.requires.list.prices)
    c.requires.list.cliques c.requires.list.few_cliques in
    let running : in_run c.args.inst.now c.args.i c.args.s c.loop-t.t ≡ true =
    sym (c.run-window.ensures.periods c.loop-t.t)
    ∙ in_window_from c.run-window.result c.loop-t.t (omega arith) (omega arith) in
    record {
      value = paid_step c.args.inst.now c.args.list.now.prices.ex c.args.list.now.cliques c.args.i c.args.s c.loop-t.t
          c.loop-t.sum (get_or c.args.sums.now (c.args.i * c.periods-periods.result + (c.loop-t.t - 1)) 0)
          (omega arith) running read c.loop-t.invariant.value;
      small = omega (arith, read, size, c.loop-t.invariant.small);
    }

pub returns-clause-value : goal.returns-clause-value
returns-clause-value c =
    let past = ap (λ w. w.past) c.run-window.ensures.value in
    c.loop-t.invariant.value
    ∙ count_sum_ends (c.loop-t.t - 1) c.args.inst.now.periods
    (paid_in c.args.inst.now c.args.list.now.prices.ex c.args.list.now.cliques c.args.i c.args.s) (omega arith)
    (λ k l m. paid_idle c.args.inst.now c.args.list.now.prices.ex c.args.list.now.cliques c.args.i c.args.s k
    (in_run-behind c.args.inst.now c.args.i c.args.s (k + 1) (omega (arith, l, past))))
    ∙ paid_over_run c.args.inst.now c.args.list.now.prices.ex c.args.list.now.cliques c.args.i c.args.s
    c.requires.list.prices.ex c.requires.list.cliques
