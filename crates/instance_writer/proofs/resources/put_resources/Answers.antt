use Rattle.std.proofs.Common.{length, Some, refl, arith}
use Rattle.instance_writer.specs.text.Written.{resource_value}
use Rattle.instance_writer.proofs.LoopLemmas.{begin_fields, next_fields, end_fields}
use Rattle.instance_writer.proofs.Items.{named_item}
use Rattle.instance_writer.proofs.resources.put_resources.Goals as goal

pub loop-c-init : goal.loop-c-init
loop-c-init g c = record {
  ready = c.put.ensures.ready;
  fields = begin_fields g.S.Sink.Takes g.met.S.Sink.takes_more c.put.ensures.text;
}

pub loop-c-preserved : goal.loop-c-preserved
loop-c-preserved g c =
    let style = g.N.Numerals.style in
    let inst = c.args.inst.now in
    record {
      ready = c.put_resource.ensures.ready;
      fields = next_fields g.S.Sink.Takes g.met.S.Sink.takes_more
          (named_item inst.resource_names (λ k. Some (resource_value style inst k)))
          c.loop-c.c c.loop-c.invariant.fields c.put_resource.ensures.text refl;
    }

pub returns-clause-text : goal.returns-clause-text
returns-clause-text g c =
    let style = g.N.Numerals.style in
    let inst = c.args.inst.now in
    end_fields g.S.Sink.Takes g.met.S.Sink.takes_more
    (named_item inst.resource_names (λ k. Some (resource_value style inst k))) c.loop-c.c
    (length inst.resource_names) (omega arith) c.loop-c.invariant.fields c.put-2.ensures.text
