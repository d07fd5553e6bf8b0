use Rattle.std.proofs.Common.{length, ap, arith}
use Rattle.instance_model.specs.Tables.{Tables}
use Rattle.std.specs.Prelude.{List, ℕ}
use Rattle.instance_writer.specs.text.Written.{workload_of}
use Rattle.instance_writer.proofs.ViewLemmas.{same_resources}
use Rattle.instance_writer.proofs.LoopLemmas.{begin_fields, next_fields, end_fields}
use Rattle.instance_writer.proofs.Items.{named_item}
use Rattle.instance_writer.proofs.loads.put_workload.Goals as goal

pub loop-c-init : goal.loop-c-init
loop-c-init g c = record {
  ready = c.put.ensures.ready;
  fields = begin_fields g.S.Sink.Takes g.met.S.Sink.takes_more c.put.ensures.text;
}

pub loop-c-preserved : goal.loop-c-preserved
loop-c-preserved g c =
    let style = g.N.Numerals.style in
    let view = g.V.InstanceView.tables c.args.view.now in
    record {
      ready = c.put_resource_loads-first.ensures.ready;
      fields = next_fields g.S.Sink.Takes g.met.S.Sink.takes_more
          (named_item view.resource_names (workload_of style view c.args.i)) c.loop-c.c c.loop-c.invariant.fields
          c.put_resource_loads-first.ensures.text c.put_resource_loads-first.ensures.first;
    }

pub returns-clause-text : goal.returns-clause-text
returns-clause-text g c =
    let style = g.N.Numerals.style in
    let view = g.V.InstanceView.tables c.args.view.now in
    end_fields g.S.Sink.Takes g.met.S.Sink.takes_more
    (named_item view.resource_names (workload_of style view c.args.i)) c.loop-c.c (length view.resource_names)
    (omega (
      arith,
      ap (λ (inst : Tables). length inst.resource_names) c.instance.ensures,
      ap (λ (names : List (List ℕ)). length names)
          (same_resources (g.V.InstanceView.base c.args.view.now) view c.requires.shown),
    ))
    c.loop-c.invariant.fields c.put-2.ensures.text
