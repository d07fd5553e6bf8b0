use Rattle.std.proofs.Common.{Some}
use Rattle.instance_writer.specs.text.Written.{exclusion_value}
use Rattle.instance_writer.proofs.LoopLemmas.{HasFields}
use Rattle.instance_writer.proofs.Items.{named_item}
use Rattle.instance_writer.proofs.exclusions.put_exclusions.Given as goal

abbrev pub invariant-loop-e : goal.invariant-loop-e
invariant-loop-e g l =
    record {
      ready : g.S.Sink.IsReady l.sink;
      fields : HasFields g.S.Sink.Takes (named_item l.inst.exclusion_names (λ k. Some (exclusion_value l.inst k))) l.e
          l.first l.fn.sink l.sink;
    }
