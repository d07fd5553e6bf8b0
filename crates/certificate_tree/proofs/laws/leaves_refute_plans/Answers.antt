use Rattle.certificate_tree.proofs.LeafLemmas.{empty_refutes}
use Rattle.certificate_tree.proofs.Refuting.{band_refutes, excl_refutes}
use Rattle.certificate_tree.proofs.laws.leaves_refute_plans.Goals as goal

pub returns-clause-band : goal.returns-clause-band
returns-clause-band c = λ inst box k t side l one few h starts p. band_refutes inst box starts k t side p l one few h

pub returns-clause-excl : goal.returns-clause-excl
returns-clause-excl c = λ inst box e fit l h starts p. excl_refutes inst box starts e fit p l h

pub returns-clause-empty : goal.returns-clause-empty
returns-clause-empty c = empty_refutes
