use Rattle.local_search.specs.Progress.{NoSwapLowers}
use Rattle.local_search.proofs.SweepLemmas.{SweptTo-more}
use Rattle.local_search.proofs.rounds.try_all_swaps.Goals as goal

pub loop-i-preserved : goal.loop-i-preserved
loop-i-preserved g c =
    SweptTo-more NoSwapLowers c.args.kept.now c.loop-i.kept c.try_swaps.new.kept c.args.progress.now c.loop-i.progress
    c.try_swaps.new.progress 0 c.loop-i.i
    c.loop-i.invariant c.try_swaps.ensures.leads c.try_swaps.ensures.none
