use Rattle.std.proofs.Common.{arith, sym, subst}
use Rattle.instance_model.specs.declared.parts.LoadCell.{LoadCell}
use Rattle.lagrange_bound.specs.Changes.{IsBandPlace}
use Rattle.group_ladder.proofs.StartLemmas.{cell_band}
use Rattle.group_ladder.proofs.band.push_works.Goals as goal

pub new-requires-clause-place : goal.new-requires-clause-place
new-requires-clause-place c =
    subst (λ (x : LoadCell). IsBandPlace c.args.inst.now x.resource x.period) (sym c.cell-item.is)
    (cell_band c.args.inst.now c.args.i c.workloads-cell-items.result.now c.loop-cell.cell-index c.cell-item.result
    c.workloads-cell-items.ensures.cells (omega arith))
