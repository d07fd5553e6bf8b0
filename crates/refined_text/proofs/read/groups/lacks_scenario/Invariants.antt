use Rattle.std.proofs.Common.{◌≢◌, ℕ, ◌<◌, get_or}
use Rattle.refined_prices.specs.declared.member.Member.{Member}
use Rattle.refined_text.proofs.read.groups.lacks_scenario.Given as goal

abbrev pub invariant-loop-member : goal.invariant-loop-member
invariant-loop-member l = (j : ℕ) (d : Member) → j < l.member-index → l.scenario ≢ (get_or l.group j d).scenario
