use Rattle.local_search.proofs.LeadsLemmas.{LeadsTo-more}
use Rattle.local_search.proofs.walk.walk_once.Goals as goal

pub loop-i-preserved : goal.loop-i-preserved
loop-i-preserved g c =
    LeadsTo-more c.args.kept.now c.loop-i.kept c.try_start.new.kept c.args.progress.now c.loop-i.progress
    c.try_start.new.progress c.loop-i.invariant c.try_start.ensures
