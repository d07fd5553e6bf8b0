use Rattle.instance_writer.proofs.LoopLemmas.{HasValues}
use Rattle.instance_writer.proofs.Items.{duration_item}
use Rattle.instance_writer.proofs.interventions.put_durations.Given as goal

abbrev pub invariant-loop-k : goal.invariant-loop-k
invariant-loop-k g l =
    record {
      ready : g.S.Sink.IsReady l.sink;
      values : HasValues g.S.Sink.Takes (duration_item (g.V.InstanceView.tables l.view) l.i) l.k l.first l.fn.sink
          l.sink;
    }
