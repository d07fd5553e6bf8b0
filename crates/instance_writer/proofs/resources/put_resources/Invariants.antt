use Rattle.std.proofs.Common.{Some}
use Rattle.instance_writer.specs.text.Written.{resource_value}
use Rattle.instance_writer.proofs.LoopLemmas.{HasFields}
use Rattle.instance_writer.proofs.Items.{named_item}
use Rattle.instance_writer.proofs.resources.put_resources.Given as goal

abbrev pub invariant-loop-c : goal.invariant-loop-c
invariant-loop-c g l =
    let style = g.N.Numerals.style in
    record {
      ready : g.S.Sink.IsReady l.sink;
      fields : HasFields g.S.Sink.Takes
          (named_item l.inst.resource_names (λ k. Some (resource_value style l.inst k))) l.c l.first l.fn.sink
          l.sink;
    }
