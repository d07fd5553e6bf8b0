use Rattle.std.proofs.Common.{◌∙◌, sym, ap, arith}
use Rattle.instance_model.specs.Tables.{Tables}
use Rattle.instance_writer.specs.Steps.{period_loads}
use Rattle.instance_writer.proofs.FilledLemmas.{some_at, none_more, none_below}
use Rattle.instance_writer.proofs.ViewLemmas.{same_periods}
use Rattle.instance_writer.proofs.loads.has_load.Goals as goal

pub returns-then-has_load_in : goal.returns-then-has_load_in
returns-then-has_load_in g c style =
    let view = g.V.InstanceView.tables c.args.view.now in
    some_at (view.periods) (period_loads style view c.args.i c.args.c) c.loop-k.k
    (omega (
      arith,
      ap (λ (inst : Tables). inst.periods) c.instance.ensures,
      same_periods (g.V.InstanceView.base c.args.view.now) view c.requires.shown,
    ))
    (sym (c.has_load_in.ensures style) ∙ c.if-has_load_in.true)

pub loop-k-preserved : goal.loop-k-preserved
loop-k-preserved g c style =
    let view = g.V.InstanceView.tables c.args.view.now in
    none_more c.loop-k.k (period_loads style view c.args.i c.args.c) (c.loop-k.invariant style)
    (sym (c.has_load_in.ensures style) ∙ c.if-has_load_in.false)

pub returns : goal.returns
returns g c style =
    let view = g.V.InstanceView.tables c.args.view.now in
    none_below (view.periods) (period_loads style view c.args.i c.args.c) c.loop-k.k
    (omega (
      arith,
      ap (λ (inst : Tables). inst.periods) c.instance.ensures,
      same_periods (g.V.InstanceView.base c.args.view.now) view c.requires.shown,
    )) (c.loop-k.invariant style)
