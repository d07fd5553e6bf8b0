-- A violation of 0 as the code tests it.
use Rattle.std.proofs.Common.{◌≡◌, ◌↔◌, ℤ, pos, IsTrue, eqb, sym, ◌∙◌, ap, arith, rules}
use Rattle.std.proofs.lemmas.Bool.Decides.{nat_tests}
use Rattle.std.proofs.lemmas.Int.{to_z-of_z}
use mir.Syntax.{w128}
use mir.Val.{SFits, of_z, to_z}
use Rattle.local_search.proofs.EndLemmas.{present_feasible}
use Rattle.local_search.proofs.ending.is_feasible.Goals as goal

zero_is : (z : ℤ) → SFits w128 z → IsTrue (eqb (of_z w128 z) 0) ↔ (z ≡ pos 0)
zero_is z fits = (
  λ e. let n : of_z w128 z ≡ 0 = grind (arith, nat_tests) in sym (to_z-of_z w128 z fits) ∙ ap (to_z w128) n,
  λ e. ap (λ (x : ℤ). eqb (of_z w128 x) 0) e,
)

pub returns : goal.returns
returns g c =
    let kept = c.args.kept.now in
    let violation = c.key.result.violation in
    let fits : SFits w128 violation = search rules in
    let zero = zero_is violation fits in
    let feasible = present_feasible c.args.inst.now kept c.requires c.allowed.ensures
    c.no_violation_means_feasible.ensures violation
    (ap (λ (key : _). key.violation) c.key.ensures.value) in
    (λ is. feasible.0 (zero.0 is), λ is. zero.1 (feasible.1 is))
