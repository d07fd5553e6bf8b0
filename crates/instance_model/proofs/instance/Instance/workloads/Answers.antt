use Rattle.std.proofs.Common.{◌∙◌, sym, subst}
use Rattle.instance_model.specs.Tables.{Tables}
use Rattle.instance_model.specs.Fitting.{AreCells}
use Rattle.instance_model.proofs.CellLemmas.{cells_row}
use Rattle.instance_model.proofs.instance.Instance.workloads.Goals as goal

pub returns-clause-value : goal.returns-clause-value
returns-clause-value c =
    let w = cells_row c.self.inside.parts c.args.self.now c.args.i c.index.result.now c.self.view_is
    c.self.invariant.fits c.requires c.index.ensures in
    c.as_slice.ensures.value ∙ sym w.1

pub returns-clause-cells : goal.returns-clause-cells
returns-clause-cells c =
    let w = cells_row c.self.inside.parts c.args.self.now c.args.i c.index.result.now c.self.view_is
    c.self.invariant.fits c.requires c.index.ensures in
    rw c.as_slice.ensures.value
    (subst (λ (inst : Tables). AreCells inst c.args.i c.index.result.now.items) c.self.view_is w.0)
