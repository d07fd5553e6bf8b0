use Rattle.std.proofs.Common.{◌+◌, is_some, ◌∙◌, sym, ap, arith}
use Rattle.instance_model.specs.Tables.{Tables, tmax}
use Rattle.instance_writer.specs.Steps.{start_load}
use Rattle.instance_writer.proofs.FilledLemmas.{some_at, none_more, none_below}
use Rattle.instance_writer.proofs.ViewLemmas.{start_load_some}
use Rattle.instance_writer.proofs.loads.has_load_in.Goals as goal

pub returns-then-is_some : goal.returns-then-is_some
returns-then-is_some g c style =
    let view = g.V.InstanceView.tables c.args.view.now in
    some_at (tmax view c.args.i) (start_load style view c.args.i c.args.c c.args.t) c.loop-k.k
    (omega (
      arith,
      ap (λ (inst : Tables). tmax inst c.args.i) c.instance.ensures,
      c.requires.shown.starts c.args.i c.requires.number,
    ))
    (start_load_some style view c.args.i c.args.c c.args.t (c.loop-k.k + 1) ∙ sym (ap is_some c.load_at.ensures)
    ∙ sym c.is_some.ensures ∙ c.if-is_some.true)

pub loop-k-preserved : goal.loop-k-preserved
loop-k-preserved g c style =
    let view = g.V.InstanceView.tables c.args.view.now in
    none_more c.loop-k.k (start_load style view c.args.i c.args.c c.args.t) (c.loop-k.invariant style)
    (start_load_some style view c.args.i c.args.c c.args.t (c.loop-k.k + 1) ∙ sym (ap is_some c.load_at.ensures)
    ∙ sym c.is_some.ensures ∙ c.if-is_some.false)

pub returns : goal.returns
returns g c style =
    let view = g.V.InstanceView.tables c.args.view.now in
    none_below (tmax view c.args.i) (start_load style view c.args.i c.args.c c.args.t) c.loop-k.k
    (omega (
      arith,
      ap (λ (inst : Tables). tmax inst c.args.i) c.instance.ensures,
      c.requires.shown.starts c.args.i c.requires.number,
    )) (c.loop-k.invariant style)
