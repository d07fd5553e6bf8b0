use Rattle.instance_writer.proofs.LoopLemmas.{HasValues}
use Rattle.instance_writer.proofs.Items.{lower_item}
use Rattle.instance_writer.proofs.resources.put_lower.Given as goal

abbrev pub invariant-loop-k : goal.invariant-loop-k
invariant-loop-k g l =
    let style = g.N.Numerals.style in
    record {
      ready : g.S.Sink.IsReady l.sink;
      values : HasValues g.S.Sink.Takes (lower_item style l.inst l.c) l.k l.first l.fn.sink l.sink;
    }
