use Rattle.std.proofs.Common.{length, Some, refl, arith}
use Rattle.instance_writer.specs.text.Written.{exclusion_value}
use Rattle.instance_writer.proofs.LoopLemmas.{begin_fields, next_fields, end_fields}
use Rattle.instance_writer.proofs.Items.{named_item}
use Rattle.instance_writer.proofs.exclusions.put_exclusions.Goals as goal

pub loop-e-init : goal.loop-e-init
loop-e-init g c = record {
  ready = c.put.ensures.ready;
  fields = begin_fields g.S.Sink.Takes g.met.S.Sink.takes_more c.put.ensures.text;
}

pub loop-e-preserved : goal.loop-e-preserved
loop-e-preserved g c =
    let inst = c.args.inst.now in
    record {
      ready = c.put_exclusion.ensures.ready;
      fields = next_fields g.S.Sink.Takes g.met.S.Sink.takes_more
          (named_item inst.exclusion_names (λ k. Some (exclusion_value inst k)))
          c.loop-e.e c.loop-e.invariant.fields c.put_exclusion.ensures.text refl;
    }

pub returns-clause-text : goal.returns-clause-text
returns-clause-text g c =
    let inst = c.args.inst.now in
    end_fields g.S.Sink.Takes g.met.S.Sink.takes_more
    (named_item inst.exclusion_names (λ k. Some (exclusion_value inst k))) c.loop-e.e
    (length inst.exclusion_names) (omega arith) c.loop-e.invariant.fields c.put-2.ensures.text
