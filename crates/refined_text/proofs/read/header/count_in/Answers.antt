use Rattle.refined_text.proofs.ReadHeaderLemmas.{count_found, count_refused}
use Rattle.refined_text.proofs.read.header.count_in.Goals as goal

pub returns-in-Plain-clause-ok : goal.returns-in-Plain-clause-ok
returns-in-Plain-clause-ok c =
    count_found c.args.line.now c.in-Plain.plain c.count_of.result c.in-Plain.is c.count_of.ensures.ok

pub returns-in-Plain-clause-err : goal.returns-in-Plain-clause-err
returns-in-Plain-clause-err c = λ inst.
    count_refused inst c.args.line.now c.in-Plain.plain c.count_of.result c.in-Plain.is (c.count_of.ensures.err inst)
