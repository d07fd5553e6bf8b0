use Rattle.std.proofs.Common.{◌∙◌, sym}
use Rattle.instance_writer.proofs.ViewLemmas.{no_cell, in_view}
use Rattle.instance_writer.proofs.loads.load_at.Goals as goal

pub returns-else-is_running : goal.returns-else-is_running
returns-else-is_running g c =
    let inst = g.V.InstanceView.base c.args.view.now in
    let view = g.V.InstanceView.tables c.args.view.now in
    sym (no_cell view c.args.i c.args.s c.args.t c.args.c
    (c.requires.shown.fits.cells c.args.i (in_view inst view c.requires.shown c.args.i c.requires.number))
    (sym c.is_running.ensures ∙ c.if-is_running.false))
