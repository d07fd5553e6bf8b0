use Rattle.certificate_tree.proofs.RootLemmas.{parts_hold_plans as law}
use Rattle.certificate_tree.proofs.laws.parts_hold_plans.Goals as goal

pub returns : goal.returns
returns c = law
