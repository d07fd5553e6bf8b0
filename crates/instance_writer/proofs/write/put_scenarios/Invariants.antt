use Rattle.instance_writer.proofs.LoopLemmas.{HasValues}
use Rattle.instance_writer.proofs.Items.{scenarios_item}
use Rattle.instance_writer.proofs.write.put_scenarios.Given as goal

abbrev pub invariant-loop-k : goal.invariant-loop-k
invariant-loop-k g l =
    record {
      ready : g.S.Sink.IsReady l.sink;
      values : HasValues g.S.Sink.Takes (scenarios_item l.inst) l.k l.first l.fn.sink l.sink;
    }
