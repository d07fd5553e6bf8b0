use Rattle.certificate_tree.proofs.OneTree.{nodes_are_one_tree as law}
use Rattle.certificate_tree.proofs.laws.nodes_are_one_tree.Goals as goal

pub returns : goal.returns
returns c = law
