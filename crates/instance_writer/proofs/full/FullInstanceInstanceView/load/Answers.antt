use Rattle.std.proofs.Common.{◌∙◌, Some, ap, subst}
use Rattle.std.specs.Prelude.{ℤ}
use Rattle.instance_model.specs.Tables.{Tables, load_of}
use Rattle.instance_writer.specs.Views.{HasEachCell}
use Rattle.instance_writer.proofs.ViewLemmas.{cell_load_is}
use Rattle.instance_writer.proofs.full.FullInstanceInstanceView.load.Goals as goal

pub returns : goal.returns
returns c =
    let full : HasEachCell c.args.self.now = subst HasEachCell c.self.view_is c.self.invariant in
    ap (λ (z : ℤ). Some z)
    (c.load.ensures ∙ ap (λ (inst : Tables). load_of inst c.args.i c.args.s c.args.c c.args.t) c.self.view_is)
    ∙ cell_load_is c.args.self.now c.args.i c.args.s c.args.c c.args.t
    (full c.args.i c.args.s c.args.c c.args.t c.requires.number c.requires.resource c.requires.allowed
    c.requires.running)
