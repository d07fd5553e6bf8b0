use Rattle.branch_search.proofs.NodeStateExclusionLemmas.{index_is}
use Rattle.branch_search.proofs.node_state.exclusions.ExclusionIndex.make.Goals as goal

pub returns : goal.returns
returns c = index_is c.args.inst.now c.in_ok-named.named.items c.in_ok-named.ensures.each c.in_ok-named.ensures.named
