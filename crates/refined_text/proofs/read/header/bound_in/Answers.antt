use Rattle.refined_text.proofs.ReadHeaderLemmas.{bound_found, bound_refused}
use Rattle.refined_text.proofs.read.header.bound_in.Goals as goal

pub returns-in-Plain-clause-ok : goal.returns-in-Plain-clause-ok
returns-in-Plain-clause-ok c =
    bound_found c.args.line.now c.in-Plain.plain c.bound_of.result c.in-Plain.is c.bound_of.ensures.ok

pub returns-in-Plain-clause-err : goal.returns-in-Plain-clause-err
returns-in-Plain-clause-err c = λ inst.
    bound_refused inst c.args.line.now c.in-Plain.plain c.bound_of.result c.in-Plain.is (c.bound_of.ensures.err inst)
