use Rattle.std.proofs.Common.{◌≤◌, ◌<◌, ◌∙◌, sym, subst, arith, length, to_z, of_z, FitsSigned}
use Rattle.std.proofs.Common.{rules}
use Rattle.std.specs.Int.{w128}
use Rattle.std.proofs.lemmas.List.{length-set}
use Rattle.refined_prices.proofs.TablesCapTableLemmas.{cell_period, taken_step, AreByBand-taken}
use Rattle.refined_prices.proofs.tables.cap_table.taken_by.Goals as goal

pub place-k-requires-clause-from : goal.place-k-requires-clause-from
place-k-requires-clause-from c =
    subst (λ x. 1 ≤ x.period) (sym c.cell-item.is) (cell_period c.args.inst.now c.args.i c.loop-cell.cell-index
    c.workloads-cell-items.result.now c.cell-item.result c.workloads-cell-items.ensures.cells c.loop-cell-test.true).0

pub place-k-requires-clause-to : goal.place-k-requires-clause-to
place-k-requires-clause-to c =
    subst (λ x. x.period ≤ c.args.inst.now.periods) (sym c.cell-item.is) (cell_period c.args.inst.now c.args.i
    c.loop-cell.cell-index c.workloads-cell-items.result.now c.cell-item.result c.workloads-cell-items.ensures.cells
    c.loop-cell-test.true).1

pub loop-cell-preserved : goal.loop-cell-preserved
loop-cell-preserved c =
    let low : c.place-k.result < length c.loop-cell.row.items = omega (
      arith,
      c.place-k.ensures.within,
      c.loop-cell.invariant.each,
    ) in
    let x : FitsSigned w128 c.index.result.now = search rules in
    let y : FitsSigned w128 c.more.result = search rules in
    record {
      each = length-set c.loop-cell.row.items c.place-k.result (to_z w128 (of_z w128 c.more.result))
          ∙ c.loop-cell.invariant.each;
      taken = taken_step c.args.inst.now.periods c.workloads-cell-items.result.now c.loop-cell.cell-index
          c.place-k.result c.loop-cell.row.items c.index.result.now c.more.result c.cell-item.result c.cell-item.is
          c.loop-cell-test.true c.place-k.ensures.value low c.index.ensures c.more.ensures x y
          c.loop-cell.invariant.taken;
    }

pub returns-clause-taken : goal.returns-clause-taken
returns-clause-taken c = AreByBand-taken c.args.inst.now c.args.i c.loop-cell.cell-index
    c.workloads-cell-items.result.now c.loop-cell.row.items c.workloads-cell-items.ensures.cells
    (sym c.workloads-cell-items.ensures.value) (omega arith) c.loop-cell.invariant.each c.loop-cell.invariant.taken
