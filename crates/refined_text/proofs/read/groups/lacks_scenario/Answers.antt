use Rattle.std.proofs.Common.{refl, arith}
use Rattle.std.proofs.lemmas.Bool.{false≢true}
use Rattle.refined_text.proofs.ReadGroupLemmas.{lacks_all, has_one}
use Rattle.refined_text.proofs.read.groups.lacks_scenario.Goals as goal

pub returns-then-member-scenario : goal.returns-then-member-scenario
returns-then-member-scenario c = (
  λ t. absurd (false≢true t),
  λ all. absurd (has_one c.args.scenario c.loop-member.member-index c.args.group.now
      (record { scenario = 0; weight = 0 }) c.loop-member-test.true c.if-member-scenario.true all),
)

pub returns : goal.returns
returns c = (
  λ _. lacks_all c.args.scenario c.loop-member.member-index c.args.group.now (omega arith) c.loop-member.invariant,
  λ _. refl,
)
