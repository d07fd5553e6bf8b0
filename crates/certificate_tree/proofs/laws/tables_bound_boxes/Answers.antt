use Rattle.certificate_tree.proofs.Soundness.{tables_bound_boxes as law}
use Rattle.certificate_tree.proofs.laws.tables_bound_boxes.Goals as goal

pub returns : goal.returns
returns c = law
