use Rattle.certificate_tree.proofs.RootLemmas.{parts_are_boxes as law}
use Rattle.certificate_tree.proofs.laws.parts_are_boxes.Goals as goal

pub returns : goal.returns
returns c = law
