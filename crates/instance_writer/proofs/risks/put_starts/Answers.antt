use Rattle.std.proofs.Common.{ap, arith}
use Rattle.instance_model.specs.Tables.{Tables, tmax}
use Rattle.instance_writer.specs.text.Written.{risks_of}
use Rattle.instance_writer.proofs.LoopLemmas.{begin_fields, next_fields, end_fields}
use Rattle.instance_writer.proofs.Items.{numbered_item}
use Rattle.instance_writer.proofs.risks.put_starts.Goals as goal

pub loop-k-init : goal.loop-k-init
loop-k-init g c = record {
  ready = c.put.ensures.ready;
  fields = begin_fields g.S.Sink.Takes g.met.S.Sink.takes_more c.put.ensures.text;
}

pub loop-k-preserved : goal.loop-k-preserved
loop-k-preserved g c =
    let style = g.N.Numerals.style in
    let view = g.V.InstanceView.tables c.args.view.now in
    record {
      ready = c.put_start_risks-first.ensures.ready;
      fields = next_fields g.S.Sink.Takes g.met.S.Sink.takes_more
          (numbered_item (risks_of style view c.args.i c.args.t)) c.loop-k.k c.loop-k.invariant.fields
          c.put_start_risks-first.ensures.text c.put_start_risks-first.ensures.first;
    }

pub returns-clause-text : goal.returns-clause-text
returns-clause-text g c =
    let style = g.N.Numerals.style in
    let view = g.V.InstanceView.tables c.args.view.now in
    end_fields g.S.Sink.Takes g.met.S.Sink.takes_more (numbered_item (risks_of style view c.args.i c.args.t))
    c.loop-k.k (tmax view c.args.i)
    (omega (
      arith,
      ap (λ (inst : Tables). tmax inst c.args.i) c.instance.ensures,
      c.requires.shown.starts c.args.i c.requires.number,
    ))
    c.loop-k.invariant.fields c.put-2.ensures.text
