use Rattle.certificate_tree.proofs.LeafLemmas.{leaves_hold_starts as law, root_holds_starts}
use Rattle.certificate_tree.proofs.laws.leaves_hold_starts.Goals as goal

pub returns-clause-leaves : goal.returns-clause-leaves
returns-clause-leaves c = law

pub returns-clause-root : goal.returns-clause-root
returns-clause-root c = root_holds_starts
