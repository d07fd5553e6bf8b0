use Rattle.std.proofs.Common.{◌+◌, ◌∙◌, sym, ap, arith}
use Rattle.instance_model.specs.Tables.{Tables, tmax}
use Rattle.instance_writer.specs.text.Written.{risks_of}
use Rattle.instance_writer.proofs.FilledLemmas.{some_at, none_more, none_below}
use Rattle.instance_writer.proofs.ViewLemmas.{risks_some}
use Rattle.instance_writer.proofs.risks.has_risks_in.Goals as goal

pub returns-then-is_running : goal.returns-then-is_running
returns-then-is_running g c style =
    let view = g.V.InstanceView.tables c.args.view.now in
    some_at (tmax view c.args.i) (risks_of style view c.args.i c.args.t) c.loop-k.k
    (omega (
      arith,
      ap (λ (inst : Tables). tmax inst c.args.i) c.instance.ensures,
      c.requires.shown.starts c.args.i c.requires.number,
    ))
    (risks_some style view c.args.i c.args.t (c.loop-k.k + 1) ∙ sym c.is_running.ensures ∙ c.if-is_running.true)

pub loop-k-preserved : goal.loop-k-preserved
loop-k-preserved g c style =
    let view = g.V.InstanceView.tables c.args.view.now in
    none_more c.loop-k.k (risks_of style view c.args.i c.args.t) (c.loop-k.invariant style)
    (risks_some style view c.args.i c.args.t (c.loop-k.k + 1) ∙ sym c.is_running.ensures ∙ c.if-is_running.false)

pub returns : goal.returns
returns g c style =
    let view = g.V.InstanceView.tables c.args.view.now in
    none_below (tmax view c.args.i) (risks_of style view c.args.i c.args.t) c.loop-k.k
    (omega (
      arith,
      ap (λ (inst : Tables). tmax inst c.args.i) c.instance.ensures,
      c.requires.shown.starts c.args.i c.requires.number,
    )) (c.loop-k.invariant style)
