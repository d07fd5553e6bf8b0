use Rattle.branch_search.proofs.NodeStateExclusionLemmas.{others_kept, no_others}
use Rattle.branch_search.proofs.node_state.laws.others_are_kept.Goals as goal

pub returns : goal.returns
returns c = record { kept = others_kept; none = no_others }
