use Rattle.std.proofs.Common.{◌≡◌, ◌∙◌, ◌+◌, ◌-◌, ◌≤◌, ℕ, ap, arith, get_or, length, pos, refl, subst, sym}
use Rattle.std.proofs.lemmas.List.{get_or_read}
use Rattle.fixed_num.proofs.Bits.{by_bits}
use Rattle.instance_model.specs.Tables.{tmax}
use Rattle.std.proofs.Common.{take, ℤ, ◌+ℤ◌, unsigned_abs}
use Rattle.refined_prices.specs.tables.LoadCosts.{load_share}
use Rattle.refined_prices.proofs.TablesReadLemmas.{read_as}
use Rattle.refined_prices.proofs.TablesCapTableLemmas.{cell_period}
use Rattle.refined_prices.proofs.TablesLoadCostLemmas.{AreCosts-none, AreCosts-more, few_cells, cell_start, cost_step}
use Rattle.refined_prices.proofs.TablesLoadCostLemmas.{cells_cost, cells_cost_all}
use Rattle.refined_prices.proofs.tables.load_costs.load_costs.Goals as goal

pub loop-cell-init : goal.loop-cell-init
loop-cell-init c = AreCosts-none (load_share c.args.inst.now c.args.list.now) (tmax c.args.inst.now c.args.i)
    c.tmax.result c.workloads-cell-items.result.now c.in_ok-costs.costs.items
    (c.in_ok-costs.ensures.items_if_clones_equal (λ y e. e)) c.tmax.ensures.value

pub load_cost-cost-requires-clause-from : goal.load_cost-cost-requires-clause-from
load_cost-cost-requires-clause-from c =
    subst (λ x. 1 ≤ x.period) (sym c.cell-item.is) (cell_period c.args.inst.now c.args.i c.loop-cell.cell-index
    c.workloads-cell-items.result.now c.cell-item.result c.workloads-cell-items.ensures.cells c.loop-cell-test.true).0

pub load_cost-cost-requires-clause-to : goal.load_cost-cost-requires-clause-to
load_cost-cost-requires-clause-to c =
    subst (λ x. x.period ≤ c.args.inst.now.periods) (sym c.cell-item.is) (cell_period c.args.inst.now c.args.i
    c.loop-cell.cell-index c.workloads-cell-items.result.now c.cell-item.result c.workloads-cell-items.ensures.cells
    c.loop-cell-test.true).1

pub overflow_sub-place : goal.overflow_sub-place
overflow_sub-place c = (cell_start c.args.inst.now c.args.i c.loop-cell.cell-index c.workloads-cell-items.result.now
    c.cell-item.result c.workloads-cell-items.ensures.cells c.loop-cell-test.true c.cell-item.is).0

pub index_mut-requires : goal.index_mut-requires
index_mut-requires c =
    let start = cell_start c.args.inst.now c.args.i c.loop-cell.cell-index c.workloads-cell-items.result.now
    c.cell-item.result c.workloads-cell-items.ensures.cells c.loop-cell-test.true c.cell-item.is in
    let each = c.loop-cell.invariant.each in
    omega (arith, start, each)

pub overflow_add-index_mut : goal.overflow_add-index_mut
overflow_add-index_mut c =
    let few = few_cells c.args.inst.now c.args.i c.fits.ensures c.requires.number in
    let same = ap length c.workloads-cell-items.ensures.value in
    let start = cell_start c.args.inst.now c.args.i c.loop-cell.cell-index c.workloads-cell-items.result.now
    c.cell-item.result c.workloads-cell-items.ensures.cells c.loop-cell-test.true c.cell-item.is in
    let each = c.loop-cell.invariant.each in
    let old = get_or_read c.loop-cell.costs.items (c.cell-item.result.start - 1) c.index_mut.result.now
    (omega (arith, start, each)) c.index_mut.ensures.value (pos 0) in
    (cost_step (load_share c.args.inst.now c.args.list.now) (tmax c.args.inst.now c.args.i) c.loop-cell.cell-index
    (c.cell-item.result.start - 1) c.workloads-cell-items.result.now c.loop-cell.costs.items c.index_mut.result.now
    c.load_cost-cost.result c.loop-cell.invariant (omega (arith, few, same)) old
    (omega (arith, c.load_cost-cost.ensures.small))).1

pub loop-cell-preserved : goal.loop-cell-preserved
loop-cell-preserved c =
    let few = few_cells c.args.inst.now c.args.i c.fits.ensures c.requires.number in
    let same = ap length c.workloads-cell-items.ensures.value in
    let start = cell_start c.args.inst.now c.args.i c.loop-cell.cell-index c.workloads-cell-items.result.now
    c.cell-item.result c.workloads-cell-items.ensures.cells c.loop-cell-test.true c.cell-item.is in
    let each = c.loop-cell.invariant.each in
    let old = get_or_read c.loop-cell.costs.items (c.cell-item.result.start - 1) c.index_mut.result.now
    (omega (arith, start, each)) c.index_mut.ensures.value (pos 0) in
    let is = c.load_cost-cost.ensures.value in
    let step = cost_step (load_share c.args.inst.now c.args.list.now) (tmax c.args.inst.now c.args.i)
    c.loop-cell.cell-index (c.cell-item.result.start - 1) c.workloads-cell-items.result.now c.loop-cell.costs.items
    c.index_mut.result.now c.load_cost-cost.result c.loop-cell.invariant (omega (arith, few, same))
    old (omega (arith, c.load_cost-cost.ensures.small)) in
    AreCosts-more (load_share c.args.inst.now c.args.list.now) (tmax c.args.inst.now c.args.i) c.loop-cell.cell-index
    (c.cell-item.result.start - 1) c.workloads-cell-items.result.now c.cell-item.result c.loop-cell.costs.items
    (by_bits (by_bits c.index_mut.result.now +ℤ by_bits c.load_cost-cost.result)) c.loop-cell.invariant
    c.loop-cell-test.true
    (read_as c.workloads-cell-items.result.now c.workloads-cell-items.result.now c.loop-cell.cell-index
    c.cell-item.result refl c.loop-cell-test.true c.cell-item.is) (omega (arith, start)) (omega (arith, start))
    (step.0 ∙ ap (λ (z : ℤ). get_or c.loop-cell.costs.items (c.cell-item.result.start - 1) (pos 0) +ℤ z) is)
    (subst (λ (z : ℤ). unsigned_abs z ≤ 200_000_000_000_000_000_000_000_000_000) is
    (omega (arith, c.load_cost-cost.ensures.small)))

pub returns : goal.returns
returns c =
    let few = few_cells c.args.inst.now c.args.i c.fits.ensures c.requires.number in
    let same = ap length c.workloads-cell-items.ensures.value in
    record {
      each = c.loop-cell.invariant.each;
      at = λ s one low.
          let back : s - 1 + 1 ≡ s = omega (arith, one) in
          cells_cost_all c.args.inst.now c.args.list.now c.args.i s c.loop-cell.cell-index
          c.workloads-cell-items.result.now (get_or c.loop-cell.costs.items (s - 1) (pos 0)) c.fits.ensures
          c.workloads-cell-items.ensures.cells (sym c.workloads-cell-items.ensures.value) (omega arith)
          (c.loop-cell.invariant.at (s - 1) (omega (arith, one, low))
          ∙ ap (λ (p : ℕ). cells_cost (load_share c.args.inst.now c.args.list.now) p
          (take c.loop-cell.cell-index c.workloads-cell-items.result.now)) back);
      small = λ k. omega (arith, c.loop-cell.invariant.small k, few, same);
    }
