use Rattle.std.proofs.Common.{◌∙◌, refl, sym, arith}
use Rattle.std.proofs.lemmas.Bool.{false≢true}
use Rattle.refined_text.proofs.ReadGroupLemmas.{disjoint_all, disjoint_at}
use Rattle.refined_text.proofs.read.groups.are_disjoint.Goals as goal

pub returns-then-not-lacks_scenario : goal.returns-then-not-lacks_scenario
returns-then-not-lacks_scenario c = (
  λ t. absurd (false≢true t),
  λ apart. absurd (false≢true (sym c.if-not-lacks_scenario.true ∙ c.lacks_scenario.ensures.1
      (disjoint_at c.loop-member.member-index c.args.a.now c.args.b.now (record { scenario = 0; weight = 0 })
      c.loop-member-test.true apart))),
)

pub returns : goal.returns
returns c = (
  λ _. disjoint_all c.loop-member.member-index c.args.a.now c.args.b.now (omega arith) c.loop-member.invariant,
  λ _. refl,
)
