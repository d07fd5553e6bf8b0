use Rattle.std.proofs.Common.{[], ◌∷◌, refl, sym, ap, arith}
use Rattle.instance_model.specs.Tables.{Tables, tmax}
use Rattle.instance_writer.specs.text.Written.{whole_number}
use Rattle.instance_writer.specs.Steps.{values_text}
use Rattle.instance_writer.proofs.ListLemmas.{map-durations}
use Rattle.instance_writer.proofs.LoopLemmas.{respelled, begin_values, next_values, end_values}
use Rattle.instance_writer.proofs.Items.{duration_item}
use Rattle.instance_writer.proofs.interventions.put_durations.Goals as goal

pub loop-k-init : goal.loop-k-init
loop-k-init g c = record {
  ready = c.put.ensures.ready;
  values = begin_values g.S.Sink.Takes g.met.S.Sink.takes_more c.put.ensures.text;
}

pub loop-k-preserved : goal.loop-k-preserved
loop-k-preserved g c =
    let view = g.V.InstanceView.tables c.args.view.now in
    record {
      ready = c.put_whole.ensures.ready;
      values = next_values g.S.Sink.Takes g.met.S.Sink.takes_more (duration_item view c.args.i) c.loop-k.k
          c.loop-k.invariant.values
          (respelled g.S.Sink.Takes (ap (λ n. values_text c.loop-k.first (whole_number n ∷ [])) c.delta.ensures)
          c.put_whole.ensures.text) refl;
    }

pub returns-clause-text : goal.returns-clause-text
returns-clause-text g c =
    let view = g.V.InstanceView.tables c.args.view.now in
    end_values g.S.Sink.Takes g.met.S.Sink.takes_more (duration_item view c.args.i) _ c.loop-k.k (tmax view c.args.i)
    (omega (
      arith,
      ap (λ (inst : Tables). tmax inst c.args.i) c.instance.ensures,
      c.requires.shown.starts c.args.i c.requires.number,
    )) (sym (map-durations view c.args.i)) c.loop-k.invariant.values c.put-2.ensures.text
