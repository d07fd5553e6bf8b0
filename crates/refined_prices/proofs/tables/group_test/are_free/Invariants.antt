use Rattle.std.proofs.Common.{◌≡◌, ℕ, ◌<◌, false, get_or}
use Rattle.refined_prices.specs.declared.member.Member.{Member}
use Rattle.refined_prices.proofs.tables.group_test.are_free.Given as goal

abbrev pub invariant-loop-member : goal.invariant-loop-member
invariant-loop-member l =
    (j : ℕ) (d : Member) → j < l.member-index → get_or l.taken (get_or l.group j d).scenario false ≡ false
