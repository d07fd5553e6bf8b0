use Rattle.instance_writer.specs.Steps.{start_load}
use Rattle.instance_writer.proofs.LoopLemmas.{HasFields}
use Rattle.instance_writer.proofs.Items.{numbered_item}
use Rattle.instance_writer.proofs.loads.put_starts_of.Given as goal

abbrev pub invariant-loop-k : goal.invariant-loop-k
invariant-loop-k g l =
    let style = g.N.Numerals.style in
    let view = g.V.InstanceView.tables l.view in
    record {
      ready : g.S.Sink.IsReady l.sink;
      fields : HasFields g.S.Sink.Takes (numbered_item (start_load style view l.i l.c l.t)) l.k l.first l.fn.sink
          l.sink;
    }
