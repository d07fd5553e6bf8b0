use Rattle.instance_writer.specs.text.Written.{workload_of}
use Rattle.instance_writer.proofs.LoopLemmas.{HasFields}
use Rattle.instance_writer.proofs.Items.{named_item}
use Rattle.instance_writer.proofs.loads.put_workload.Given as goal

abbrev pub invariant-loop-c : goal.invariant-loop-c
invariant-loop-c g l =
    let style = g.N.Numerals.style in
    let view = g.V.InstanceView.tables l.view in
    record {
      ready : g.S.Sink.IsReady l.sink;
      fields : HasFields g.S.Sink.Takes (named_item view.resource_names (workload_of style view l.i)) l.c l.first
          l.fn.sink l.sink;
    }
