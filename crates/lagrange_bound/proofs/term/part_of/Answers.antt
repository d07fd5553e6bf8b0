use Rattle.std.proofs.Common.{◌≡◌, ◌∙◌, ◌<◌, ◌≤◌, refl, sym, ap, subst, arith, ℕ, List, length, get_or, Some}
use Rattle.fixed_num.proofs.Bits.{by_bits}
use Rattle.fixed_num.proofs.SignedLemmas.{back_from_abs}
use Rattle.instance_model.specs.Tables.{risk_of, scenarios_of}
use Rattle.lagrange_bound.specs.Least.{least_over}
use Rattle.lagrange_bound.proofs.BaseLemmas.{tail_part-none, tail_part-some, above_each, seen}
use Rattle.lagrange_bound.proofs.term.part_of.Goals as goal

pub returns-in_default-clause-value : goal.returns-in_default-clause-value
returns-in_default-clause-value g c = tail_part-none (scenarios_of c.args.inst.now c.args.t)
    (risk_of c.args.inst.now c.args.i c.args.s c.args.t) _ (rw c.in_default.is refl)

pub least_of-least-requires-clause-from : goal.least_of-least-requires-clause-from
least_of-least-requires-clause-from g c = λ k d l.
    let w = c.requires.tail c.in-Some.tail c.in-Some.is in
    subst (λ (xs : List ℕ). k < length xs → 1 ≤ get_or xs k d) (sym c.as_slice.ensures)
    (λ m. omega (arith, above_each 0 c.in-Some.tail.now.places w.ascend k d m)) l

pub returns-clause-value : goal.returns-clause-value
returns-clause-value g c =
    let n = scenarios_of c.args.inst.now c.args.t in
    let f = risk_of c.args.inst.now c.args.i c.args.s c.args.t in
    let tail = c.in-Some.tail.now in
    let some : seen c.args.tail ≡ Some c.in-Some.tail.now = rw c.in-Some.is refl in
    let bl = back_from_abs c.least_of-least.result (omega (arith, c.least_of-least.ensures.small)) in
    let bs = back_from_abs c.args.sum (omega (arith, c.requires.small)) in
    let b = back_from_abs c.weighted_gap.result (omega (arith, c.weighted_gap.ensures.small)) in
    b ∙ tail_part-some c.scenarios.result n f (seen c.args.tail) tail (by_bits c.least_of-least.result) (by_bits
    c.args.sum) c.weighted_gap.result some c.scenarios.ensures.value
    (bl ∙ c.least_of-least.ensures.value ∙ ap (least_over f) c.as_slice.ensures) (bs ∙ c.requires.sum)
    c.weighted_gap.ensures.value
