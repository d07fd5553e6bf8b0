use Rattle.certificate_text.proofs.read.node.node_of.Goals as goal

pub returns-in-Split-clause-err : goal.returns-in-Split-clause-err
returns-in-Split-clause-err c = λ boxes. rw c.in-Split.is (c.split_of.ensures.err c.args.lists boxes)

pub returns-in-Cost-clause-err : goal.returns-in-Cost-clause-err
returns-in-Cost-clause-err c = λ boxes. rw c.in-Cost.is (c.cost_of.ensures.err c.args.inst.now c.args.spans.now boxes)

pub returns-in-Band-clause-err : goal.returns-in-Band-clause-err
returns-in-Band-clause-err c = λ boxes. rw c.in-Band.is (c.band_of.ensures.err c.args.lists c.args.spans.now boxes)

pub returns-in-Excl-clause-err : goal.returns-in-Excl-clause-err
returns-in-Excl-clause-err c = λ boxes. rw c.in-Excl.is (c.excl_of.ensures.err c.args.lists c.args.spans.now boxes)

pub returns-in-Empty-clause-err : goal.returns-in-Empty-clause-err
returns-in-Empty-clause-err c = λ boxes. rw c.in-Empty.is (c.empty_of.ensures.err c.args.lists c.args.spans.now boxes)
