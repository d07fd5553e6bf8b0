use Rattle.refined_text.proofs.ReadGroupLemmas.{member_small}
use Rattle.refined_text.proofs.read.groups.members_in.Goals as goal

pub returns-in_default-clause-none : goal.returns-in_default-clause-none
returns-in_default-clause-none c = λ total is.
    let small = member_small c.args.n total c.loop-member.member-index c.args.members.now
    (record { scenario = 0; weight = 0 }) is c.loop-member-test.true in
    c.in_default.ensures.none small.0 small.1
