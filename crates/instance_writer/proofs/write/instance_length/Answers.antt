use Rattle.std.proofs.Common.{◌∙◌, arith}
use Rattle.instance_writer.proofs.WholeSize.{instance_short}
use Rattle.instance_writer.proofs.write.instance_length.Goals as goal

pub returns : goal.returns
returns g c =
    let view = g.V.InstanceView.tables c.args.view.now in
    let short = instance_short view c.requires.fits in
    let counted = c.put_instance.ensures.text (omega (arith, short, c.zero-count.ensures)) in
    c.count.ensures ∙ omega (arith, counted, c.zero-count.ensures)
