use Rattle.branch_search.proofs.JoinLemmas.{parts_join}
use Rattle.branch_search.proofs.laws.parts_join.Goals as goal

pub returns : goal.returns
returns c = parts_join
