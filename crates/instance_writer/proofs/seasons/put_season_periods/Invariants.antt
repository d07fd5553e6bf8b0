use Rattle.instance_writer.proofs.LoopLemmas.{HasValues}
use Rattle.instance_writer.proofs.Items.{season_item}
use Rattle.instance_writer.proofs.seasons.put_season_periods.Given as goal

abbrev pub invariant-loop-k : goal.invariant-loop-k
invariant-loop-k g l =
    record {
      ready : g.S.Sink.IsReady l.sink;
      values : HasValues g.S.Sink.Takes (season_item l.inst l.q) l.k l.first l.fn.sink l.sink;
    }
