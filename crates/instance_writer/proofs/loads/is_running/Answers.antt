use Rattle.std.proofs.Common.{◌+◌, inl, inr, ap, arith}
use Rattle.instance_model.specs.Tables.{Tables}
use Rattle.instance_writer.proofs.ViewLemmas.{running_if, not_running, same_periods}
use Rattle.instance_writer.proofs.loads.is_running.Goals as goal
use Rattle.instance_writer.proofs.loads.is_running.Goals.{then-t-s-via-then-t-s, then-t-s-via-else-t-s+then-from-past}

pub returns-then-t-s : goal.returns-then-t-s
returns-then-t-s g c =
    let view = g.V.InstanceView.tables c.args.view.now in
    elim c.then-t-s.branch [
      | then-t-s-via-then-t-s w ↦ not_running view c.args.i c.args.s c.args.t (c.from.result + c.from-2.result)
          (omega arith)
          (inl (omega arith))
      | then-t-s-via-else-t-s+then-from-past w ↦
          not_running view c.args.i c.args.s c.args.t (c.from.result + c.from-2.result) (omega arith)
          (inr (omega (
            arith,
            same_periods (g.V.InstanceView.base c.args.view.now) view c.requires.shown,
            ap (λ (inst : Tables). inst.periods) w.instance.ensures,
          )))
    ]

pub returns : goal.returns
returns g c =
    let view = g.V.InstanceView.tables c.args.view.now in
    running_if view c.args.i c.args.s c.args.t _ _ c.requires.from
    (omega (arith, c.requires.shown.starts c.args.i c.requires.number))
    (omega (
      arith,
      same_periods (g.V.InstanceView.base c.args.view.now) view c.requires.shown,
      ap (λ (inst : Tables). inst.periods) c.instance.ensures,
    )) c.if-t-s.false c.from-3.ensures (omega arith)
