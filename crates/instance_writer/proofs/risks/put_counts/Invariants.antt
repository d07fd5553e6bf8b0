use Rattle.instance_model.specs.RiskNumbers.{numbers_of}
use Rattle.instance_writer.proofs.LoopLemmas.{HasValues}
use Rattle.instance_writer.proofs.Items.{count_item}
use Rattle.instance_writer.proofs.risks.put_counts.Given as goal

abbrev pub invariant-loop-k : goal.invariant-loop-k
invariant-loop-k g l =
    let style = g.N.Numerals.style in
    record {
      ready : g.S.Sink.IsReady l.sink;
      values : HasValues g.S.Sink.Takes (count_item style (numbers_of l.counts)) l.k l.first l.fn.sink l.sink;
    }
