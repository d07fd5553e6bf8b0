use Rattle.local_search.proofs.LeadsLemmas.{LeadsTo-more}
use Rattle.local_search.proofs.rounds.settle.Goals as goal

pub loop-preserved : goal.loop-preserved
loop-preserved g c =
    LeadsTo-more c.args.kept.now c.loop.kept c.round.new.kept c.args.progress.now c.loop.progress c.round.new.progress
    c.loop.invariant c.round.ensures.leads

pub returns-clause-leads : goal.returns-clause-leads
returns-clause-leads g c =
    LeadsTo-more c.args.kept.now c.loop.kept c.round.new.kept c.args.progress.now c.loop.progress c.round.new.progress
    c.loop.invariant c.round.ensures.leads
