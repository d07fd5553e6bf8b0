use Rattle.std.proofs.Common.{Some}
use Rattle.instance_writer.specs.text.Written.{season_value}
use Rattle.instance_writer.proofs.LoopLemmas.{HasFields}
use Rattle.instance_writer.proofs.Items.{named_item}
use Rattle.instance_writer.proofs.seasons.put_seasons.Given as goal

abbrev pub invariant-loop-q : goal.invariant-loop-q
invariant-loop-q g l =
    record {
      ready : g.S.Sink.IsReady l.sink;
      fields : HasFields g.S.Sink.Takes (named_item l.inst.season_names (λ k. Some (season_value l.inst k))) l.q
          l.first l.fn.sink l.sink;
    }
