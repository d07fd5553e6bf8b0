use Rattle.local_search.specs.Progress.{NoStartLowers}
use Rattle.local_search.proofs.SweepLemmas.{SweptTo-more}
use Rattle.local_search.proofs.rounds.try_best_starts.Goals as goal

pub loop-i-preserved : goal.loop-i-preserved
loop-i-preserved g c =
    SweptTo-more NoStartLowers c.args.kept.now c.loop-i.kept c.try_best_start.new.kept c.args.progress.now
    c.loop-i.progress c.try_best_start.new.progress 0 c.loop-i.i
    c.loop-i.invariant c.try_best_start.ensures.leads c.try_best_start.ensures.none
