use Rattle.std.proofs.Common.{Some}
use Rattle.instance_writer.specs.text.Written.{intervention_value}
use Rattle.instance_writer.proofs.LoopLemmas.{HasFields}
use Rattle.instance_writer.proofs.Items.{named_item}
use Rattle.instance_writer.proofs.interventions.put_interventions.Given as goal

abbrev pub invariant-loop-i : goal.invariant-loop-i
invariant-loop-i g l =
    let style = g.N.Numerals.style in
    let view = g.V.InstanceView.tables l.view in
    record {
      ready : g.S.Sink.IsReady l.sink;
      fields : HasFields g.S.Sink.Takes (named_item view.names (λ k. Some (intervention_value style view k))) l.i
          l.first
          l.fn.sink l.sink;
    }
