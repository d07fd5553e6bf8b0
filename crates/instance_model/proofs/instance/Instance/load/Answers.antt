use Rattle.std.proofs.Common.{◌∙◌, sym}
use Rattle.instance_model.proofs.CellLemmas.{cells_row}
use Rattle.instance_model.proofs.CellLemmas.{load_found, load_missing}
use Rattle.instance_model.proofs.instance.Instance.load.Goals as goal

pub find_cell-requires : goal.find_cell-requires
find_cell-requires c =
    let w = cells_row c.self.inside.parts c.args.self.now c.args.i c.index.result.now c.self.view_is
    c.self.invariant.fits c.requires.number c.index.ensures in
    rw c.as_slice-cells.ensures.value w.0.ordered

pub returns-in-Some : goal.returns-in-Some
returns-in-Some c =
    let w = cells_row c.self.inside.parts c.args.self.now c.args.i c.index.result.now c.self.view_is
    c.self.invariant.fits c.requires.number c.index.ensures in
    load_found c.args.self.now c.args.i c.args.s c.args.c c.args.t c.in-Some.k c.as_slice-cells.result.now
    c.index-cells-k.result (w.1 ∙ sym c.as_slice-cells.ensures.value)
    (rw c.as_slice-cells.ensures.value w.0.ordered) c.in-Some.ensures.within c.in-Some.ensures.found

pub returns-in-None : goal.returns-in-None
returns-in-None c =
    let w = cells_row c.self.inside.parts c.args.self.now c.args.i c.index.result.now c.self.view_is
    c.self.invariant.fits c.requires.number c.index.ensures in
    c.zero.ensures ∙ load_missing c.args.self.now c.args.i c.args.s c.args.c c.args.t c.as_slice-cells.result.now (w.1
    ∙ sym c.as_slice-cells.ensures.value) c.in-None.ensures.none
