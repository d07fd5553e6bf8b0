use Rattle.std.proofs.Common.{arith}
use Rattle.refined_text.proofs.ReadGroupLemmas.{weight_more, weight_all}
use Rattle.refined_text.proofs.read.groups.weight_to.Goals as goal

pub returns-then-sum-gt1000 : goal.returns-then-sum-gt1000
returns-then-sum-gt1000 c =
    let e = weight_more c.loop-member.sum c.loop-member.member-index c.args.group.now
    (record { scenario = 0; weight = 0 }) c.loop-member-test.true c.loop-member.invariant.rest in
    omega (arith, e, c.from-sum.ensures)

pub loop-member-preserved : goal.loop-member-preserved
loop-member-preserved c =
    let e = weight_more c.loop-member.sum c.loop-member.member-index c.args.group.now
    (record { scenario = 0; weight = 0 }) c.loop-member-test.true c.loop-member.invariant.rest in
    record { few = omega arith; rest = omega (arith, e, c.from-sum.ensures) }

pub returns : goal.returns
returns c =
    let e = weight_all c.loop-member.sum c.loop-member.member-index c.args.group.now (omega arith)
    c.loop-member.invariant.rest in
    omega (arith, e, c.loop-member.invariant.few)
