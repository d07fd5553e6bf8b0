use Rattle.branch_search.proofs.NodeStateBoxLemmas.{no_band_by, holding_if, none_if}
use Rattle.branch_search.proofs.node_state.loads.BoxLoads.holding_band_by.Goals as goal

pub returns-clause-holds : goal.returns-clause-holds
returns-clause-holds c =
    holding_if c.args.inst.now c.args.self.now.spans c.band_in.result c.requires.starts c.band_in.ensures.off

pub returns-clause-none : goal.returns-clause-none
returns-clause-none c = none_if c.band_in.result (no_band_by c.args.inst.now c.args.self.now.spans c.args.i c.args.whole
    c.periods_of.result.from c.periods_of.result.past c.requires.over.each c.requires.number c.requires.starts
    c.requires.part c.requires.before c.periods_of.ensures.runs) c.band_in.ensures.none
