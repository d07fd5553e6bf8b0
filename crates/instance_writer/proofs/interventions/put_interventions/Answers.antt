use Rattle.std.proofs.Common.{List, ℕ, length, Some, refl, ap, arith}
use Rattle.instance_model.specs.Tables.{Tables}
use Rattle.instance_writer.specs.text.Written.{intervention_value}
use Rattle.instance_writer.proofs.ViewLemmas.{same_names}
use Rattle.instance_writer.proofs.LoopLemmas.{begin_fields, next_fields, end_fields}
use Rattle.instance_writer.proofs.Items.{named_item}
use Rattle.instance_writer.proofs.interventions.put_interventions.Goals as goal

pub loop-i-init : goal.loop-i-init
loop-i-init g c = record {
  ready = c.put.ensures.ready;
  fields = begin_fields g.S.Sink.Takes g.met.S.Sink.takes_more c.put.ensures.text;
}

pub loop-i-preserved : goal.loop-i-preserved
loop-i-preserved g c =
    let style = g.N.Numerals.style in
    let view = g.V.InstanceView.tables c.args.view.now in
    record {
      ready = c.put_intervention.ensures.ready;
      fields = next_fields g.S.Sink.Takes g.met.S.Sink.takes_more
          (named_item view.names (λ k. Some (intervention_value style view k))) c.loop-i.i c.loop-i.invariant.fields
          c.put_intervention.ensures.text refl;
    }

pub returns-clause-text : goal.returns-clause-text
returns-clause-text g c =
    let style = g.N.Numerals.style in
    let view = g.V.InstanceView.tables c.args.view.now in
    end_fields g.S.Sink.Takes g.met.S.Sink.takes_more
    (named_item view.names (λ k. Some (intervention_value style view k))) c.loop-i.i (length view.names)
    (omega (
      arith,
      ap (λ (inst : Tables). length inst.names) c.instance.ensures,
      ap (λ (names : List (List ℕ)). length names)
          (same_names (g.V.InstanceView.base c.args.view.now) view c.requires.shown),
    )) c.loop-i.invariant.fields c.put-2.ensures.text
