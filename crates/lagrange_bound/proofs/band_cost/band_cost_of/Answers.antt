use Rattle.std.proofs.Common.{◌∙◌, ◌+◌, ℕ, ℤ, sym, ap, arith}
use Rattle.duration_calendar.proofs.WindowLemmas.{in_window_from}
use Rattle.instance_model.specs.Tables.{Tables}
use Rattle.lagrange_bound.specs.Prices.{PriceList}
use Rattle.lagrange_bound.specs.Worth.{band_share}
use Rattle.lagrange_bound.proofs.PricingLemmas.{run_sum_none, run_sum_more, run_sum_fits, run_sum_all, band_share_idle}
use Rattle.lagrange_bound.proofs.PricingLemmas.{idle_outside}
use Rattle.lagrange_bound.proofs.band_cost.band_cost_of.Goals as goal

-- what is added in period u + 1
abbrev term : Tables → PriceList → ℕ → ℕ → ℕ → ℕ → ℤ
term inst prices i s d u = band_share inst prices i s d (u + 1)

pub loop-t-init : goal.loop-t-init
loop-t-init c =
    run_sum_none (term c.args.inst.now c.args.prices.now c.args.i c.args.s c.args.c) c.run-window.result.from
    (λ u l. band_share_idle c.args.inst.now c.args.prices.now c.args.i c.args.s c.args.c (u + 1)
    (idle_outside c.args.inst.now c.args.i c.args.s c.run-window.result (u + 1)
    c.run-window.ensures.periods (λ a b. omega arith)))

pub band_cost_in-cost-requires-clause-running : goal.band_cost_in-cost-requires-clause-running
band_cost_in-cost-requires-clause-running c = sym (c.run-window.ensures.periods c.loop-t.t)
    ∙ in_window_from c.run-window.result c.loop-t.t (omega arith) (omega arith)

pub overflow_add-cost : goal.overflow_add-cost
overflow_add-cost c =
    run_sum_fits (term c.args.inst.now c.args.prices.now c.args.i c.args.s c.args.c) c.loop-t.t _
    c.band_cost_in-cost.result (omega arith) (omega arith) c.loop-t.invariant c.band_cost_in-cost.ensures.small

pub loop-t-preserved : goal.loop-t-preserved
loop-t-preserved c =
    run_sum_more (term c.args.inst.now c.args.prices.now c.args.i c.args.s c.args.c) c.loop-t.t _
    c.band_cost_in-cost.result (omega arith) (omega arith) c.loop-t.invariant
    (c.band_cost_in-cost.ensures.value ∙ ap (λ (t : ℕ). band_share c.args.inst.now c.args.prices.now c.args.i
    c.args.s c.args.c t) (omega arith)) c.band_cost_in-cost.ensures.small

pub returns-clause-value : goal.returns-clause-value
returns-clause-value c =
    (run_sum_all (term c.args.inst.now c.args.prices.now c.args.i c.args.s c.args.c) c.loop-t.t c.args.inst.now.periods
    _ c.loop-t.invariant (omega arith) (omega arith) (omega arith)
    (λ u l w. band_share_idle c.args.inst.now c.args.prices.now c.args.i c.args.s c.args.c (u + 1)
    (idle_outside c.args.inst.now c.args.i c.args.s c.run-window.result (u + 1) c.run-window.ensures.periods
    (λ a b. omega arith)))).0

pub returns-clause-small : goal.returns-clause-small
returns-clause-small c =
    (run_sum_all (term c.args.inst.now c.args.prices.now c.args.i c.args.s c.args.c) c.loop-t.t c.args.inst.now.periods
    _ c.loop-t.invariant (omega arith) (omega arith) (omega arith)
    (λ u l w. band_share_idle c.args.inst.now c.args.prices.now c.args.i c.args.s c.args.c (u + 1)
    (idle_outside c.args.inst.now c.args.i c.args.s c.run-window.result (u + 1) c.run-window.ensures.periods
    (λ a b. omega arith)))).1
