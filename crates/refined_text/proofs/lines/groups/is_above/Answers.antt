use Rattle.std.proofs.Common.{ℕ, ◌<◌, IsTrue, nat_lt, arith}
use Rattle.std.proofs.lemmas.Bool.Decides.{nat_tests}
use Rattle.refined_text.proofs.LinesMemberLemmas.{last_above, above_last}
use Rattle.refined_text.proofs.lines.groups.is_above.Goals as goal

tested : (a b : ℕ) → IsTrue (nat_lt a b) → a < b
tested a b h = grind (arith, nat_tests)

testing : (a b : ℕ) → a < b → IsTrue (nat_lt a b)
testing a b h = grind (arith, nat_tests)

pub returns-in-Some : goal.returns-in-Some
returns-in-Some c =
    let xs = c.args.list.now in
    let last = c.in-Some.last.now in
    let s = c.args.scenario in (
      λ h. last_above xs last s c.in-Some.ensures.value c.requires (tested last.scenario s h),
      λ above. testing last.scenario s (above_last xs last s c.in-Some.ensures.value above),
    )
