use Rattle.std.proofs.Common.{length, Some, refl, arith}
use Rattle.instance_writer.specs.text.Written.{season_value}
use Rattle.instance_writer.proofs.LoopLemmas.{begin_fields, next_fields, end_fields}
use Rattle.instance_writer.proofs.Items.{named_item}
use Rattle.instance_writer.proofs.seasons.put_seasons.Goals as goal

pub loop-q-init : goal.loop-q-init
loop-q-init g c = record {
  ready = c.put.ensures.ready;
  fields = begin_fields g.S.Sink.Takes g.met.S.Sink.takes_more c.put.ensures.text;
}

pub loop-q-preserved : goal.loop-q-preserved
loop-q-preserved g c =
    let inst = c.args.inst.now in
    record {
      ready = c.put_season.ensures.ready;
      fields = next_fields g.S.Sink.Takes g.met.S.Sink.takes_more
          (named_item inst.season_names (λ k. Some (season_value inst k)))
          c.loop-q.q c.loop-q.invariant.fields c.put_season.ensures.text refl;
    }

pub returns-clause-text : goal.returns-clause-text
returns-clause-text g c =
    let inst = c.args.inst.now in
    end_fields g.S.Sink.Takes g.met.S.Sink.takes_more (named_item inst.season_names (λ k. Some (season_value inst k)))
    c.loop-q.q
    (length inst.season_names) (omega arith) c.loop-q.invariant.fields c.put-2.ensures.text
