use Rattle.certificate_tree.proofs.LeafLemmas.{parts_hold_starts as law}
use Rattle.certificate_tree.proofs.laws.parts_hold_starts.Goals as goal

pub returns : goal.returns
returns c = law
