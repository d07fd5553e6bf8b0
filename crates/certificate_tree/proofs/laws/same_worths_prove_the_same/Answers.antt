use Rattle.certificate_tree.proofs.SameWorths.{same_worths_prove_the_same as law}
use Rattle.certificate_tree.proofs.laws.same_worths_prove_the_same.Goals as goal

pub returns : goal.returns
returns c = law
