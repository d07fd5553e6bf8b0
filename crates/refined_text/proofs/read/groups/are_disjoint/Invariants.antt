use Rattle.std.proofs.Common.{◌≢◌, ℕ, ◌<◌, get_or, All}
use Rattle.refined_prices.specs.declared.member.Member.{Member}
use Rattle.refined_prices.specs.Groups.{scenarios_in}
use Rattle.refined_text.proofs.read.groups.are_disjoint.Given as goal

abbrev pub invariant-loop-member : goal.invariant-loop-member
invariant-loop-member l = (j : ℕ) (d : Member) → j < l.member-index
    → All (λ k. (get_or l.a j d).scenario ≢ k) (scenarios_in l.b)
