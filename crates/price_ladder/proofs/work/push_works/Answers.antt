use Rattle.std.proofs.Common.{arith, sym, subst, IsTrue}
use Rattle.instance_model.specs.declared.parts.LoadCell.{LoadCell}
use Rattle.instance_model.specs.Tables.{is_allowed}
use Rattle.lagrange_bound.specs.Changes.{IsBandPlace}
use Rattle.price_ladder.proofs.PhaseLemmas.{cell_band}
use Rattle.price_ladder.proofs.work.push_works.Goals as goal

pub new-requires-clause-allowed : goal.new-requires-clause-allowed
new-requires-clause-allowed c =
    subst (λ (x : LoadCell). IsTrue (is_allowed c.args.inst.now c.args.i x.start)) (sym c.cell-item.is)
    (c.workloads-cell-items.ensures.cells.allowed c.loop-cell.cell-index c.cell-item.result (omega arith))

pub new-requires-clause-place : goal.new-requires-clause-place
new-requires-clause-place c =
    subst (λ (x : LoadCell). IsBandPlace c.args.inst.now x.resource x.period) (sym c.cell-item.is)
    (cell_band c.args.inst.now c.args.i c.workloads-cell-items.result.now c.loop-cell.cell-index c.cell-item.result
    c.workloads-cell-items.ensures.cells (omega arith))
