use Rattle.local_search.proofs.LeadsLemmas.{LeadsTo-more}
use Rattle.local_search.proofs.walk.walk.Goals as goal

pub loop-preserved : goal.loop-preserved
loop-preserved g c =
    LeadsTo-more c.args.kept.now c.loop.kept c.walk_once.new.kept c.args.progress.now c.loop.progress
    c.walk_once.new.progress c.loop.invariant c.walk_once.ensures.leads

pub returns : goal.returns
returns g c =
    LeadsTo-more c.args.kept.now c.loop.kept c.walk_once.new.kept c.args.progress.now c.loop.progress
    c.walk_once.new.progress c.loop.invariant c.walk_once.ensures.leads
