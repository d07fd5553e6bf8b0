use Rattle.certificate_tree.proofs.Soundness.{proved_bounds_plans as law}
use Rattle.certificate_tree.proofs.laws.proved_bounds_plans.Goals as goal

pub returns : goal.returns
returns c = law
