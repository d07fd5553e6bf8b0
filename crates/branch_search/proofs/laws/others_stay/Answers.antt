use Rattle.branch_search.proofs.JoinLemmas.{others_stay}
use Rattle.branch_search.proofs.laws.others_stay.Goals as goal

pub returns : goal.returns
returns c = others_stay
