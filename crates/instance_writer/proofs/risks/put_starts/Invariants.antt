use Rattle.instance_writer.specs.text.Written.{risks_of}
use Rattle.instance_writer.proofs.LoopLemmas.{HasFields}
use Rattle.instance_writer.proofs.Items.{numbered_item}
use Rattle.instance_writer.proofs.risks.put_starts.Given as goal

abbrev pub invariant-loop-k : goal.invariant-loop-k
invariant-loop-k g l =
    let style = g.N.Numerals.style in
    let view = g.V.InstanceView.tables l.view in
    record {
      ready : g.S.Sink.IsReady l.sink;
      fields : HasFields g.S.Sink.Takes (numbered_item (risks_of style view l.i l.t)) l.k l.first l.fn.sink l.sink;
    }
