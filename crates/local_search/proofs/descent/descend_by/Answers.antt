use Rattle.local_search.proofs.LeadsLemmas.{LeadsTo-more}
use Rattle.local_search.proofs.descent.descend_by.Goals as goal

pub returns-clause-leads : goal.returns-clause-leads
returns-clause-leads g c =
    LeadsTo-more c.args.kept.now c.walk.new.kept c.settle.new.kept c.args.progress.now c.walk.new.progress
    c.settle.new.progress c.walk.ensures c.settle.ensures.leads
