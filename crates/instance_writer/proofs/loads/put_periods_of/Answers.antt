use Rattle.std.proofs.Common.{ap, arith}
use Rattle.instance_model.specs.Tables.{Tables}
use Rattle.instance_writer.specs.Steps.{period_loads}
use Rattle.instance_writer.proofs.ViewLemmas.{same_periods}
use Rattle.instance_writer.proofs.LoopLemmas.{begin_fields, next_fields, end_fields}
use Rattle.instance_writer.proofs.Items.{numbered_item}
use Rattle.instance_writer.proofs.loads.put_periods_of.Goals as goal

pub loop-k-init : goal.loop-k-init
loop-k-init g c = record {
  ready = c.put.ensures.ready;
  fields = begin_fields g.S.Sink.Takes g.met.S.Sink.takes_more c.put.ensures.text;
}

pub loop-k-preserved : goal.loop-k-preserved
loop-k-preserved g c =
    let style = g.N.Numerals.style in
    let view = g.V.InstanceView.tables c.args.view.now in
    record {
      ready = c.put_period_loads-first.ensures.ready;
      fields = next_fields g.S.Sink.Takes g.met.S.Sink.takes_more
          (numbered_item (period_loads style view c.args.i c.args.c)) c.loop-k.k c.loop-k.invariant.fields
          c.put_period_loads-first.ensures.text c.put_period_loads-first.ensures.first;
    }

pub returns-clause-text : goal.returns-clause-text
returns-clause-text g c =
    let style = g.N.Numerals.style in
    let view = g.V.InstanceView.tables c.args.view.now in
    end_fields g.S.Sink.Takes g.met.S.Sink.takes_more (numbered_item (period_loads style view c.args.i c.args.c))
    c.loop-k.k view.periods
    (omega (
      arith,
      ap (λ (inst : Tables). inst.periods) c.instance.ensures,
      same_periods (g.V.InstanceView.base c.args.view.now) view c.requires.shown,
    ))
    c.loop-k.invariant.fields c.put-2.ensures.text
