use Rattle.std.proofs.Common.{◌+◌}
use Rattle.plan_moves.specs.declared.change.Change.TheVariants.{Swap}
use Rattle.plan_moves.specs.KeptPlans.{KeptPlans, present}
use Rattle.local_search.specs.Progress.{LowersNot}
use Rattle.local_search.proofs.SweepLemmas.{SweptTo-more}
use Rattle.local_search.proofs.exchange.try_swaps.Goals as goal

pub loop-j-preserved : goal.loop-j-preserved
loop-j-preserved g c =
    SweptTo-more (λ (kept : KeptPlans) j. LowersNot kept.instance (present kept.plans) (Swap c.args.i j))
    c.args.kept.now c.loop-j.kept c.try_swap.new.kept c.args.progress.now c.loop-j.progress c.try_swap.new.progress
    (c.args.i + 1) c.loop-j.j
    c.loop-j.invariant c.try_swap.ensures.leads c.try_swap.ensures.none
