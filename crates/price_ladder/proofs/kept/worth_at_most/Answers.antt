use Rattle.std.proofs.Common.{◌∙◌, sym, subst, ap, arith, ℤ, pos, ◌+ℤ◌, ◌-ℤ◌, ◌*ℤ◌, ◌≤ℤ◌, ℕ, List, to_z}
use Rattle.std.specs.Int.{w128}
use Rattle.price_ladder.specs.Places.{value_at}
use Rattle.price_ladder.specs.Raised.{root_worth}
use Rattle.price_ladder.specs.Kept.{slope_of}
use Rattle.price_ladder.proofs.ChoiceLemmas.{times_is, more_is}
use Rattle.price_ladder.proofs.KeptWorthLemmas.{worth_bounded}
use Rattle.price_ladder.proofs.kept.worth_at_most.Goals as goal

pub overflow_mul-result : goal.overflow_mul-result
overflow_mul-result c = (more_is c.args.beside.now.worth (to_z w128 c.args.v -ℤ to_z w128 c.value_at.result)
    c.slope.result (omega (arith, c.requires.kept.small))
    (times_is c.args.v c.value_at.result c.requires.small c.value_at.ensures.small).small
    (omega (arith, c.slope.ensures.small))).fits_product

pub overflow_add-result : goal.overflow_add-result
overflow_add-result c = (more_is c.args.beside.now.worth (to_z w128 c.args.v -ℤ to_z w128 c.value_at.result)
    c.slope.result (omega (arith, c.requires.kept.small))
    (times_is c.args.v c.value_at.result c.requires.small c.value_at.ensures.small).small
    (omega (arith, c.slope.ensures.small))).fits_sum

pub returns-clause-bound : goal.returns-clause-bound
returns-clause-bound c = λ new k e.
    let t = times_is c.args.v c.value_at.result c.requires.small c.value_at.ensures.small in
    let m = more_is c.args.beside.now.worth (to_z w128 c.args.v -ℤ to_z w128 c.value_at.result)
    c.slope.result (omega (arith, c.requires.kept.small)) t.small (omega (arith, c.slope.ensures.small)) in
    let change = pos c.args.v -ℤ pos (value_at c.args.inst.now c.args.prices.now c.args.place) in
    subst (λ (z : ℤ). root_worth c.args.inst.now new ≤ℤ z)
    (sym (m.value ∙ ap (λ (x : ℤ). c.args.beside.now.worth +ℤ x *ℤ c.slope.result) t.value
    ∙ ap (λ (n : ℕ). c.args.beside.now.worth +ℤ (pos c.args.v -ℤ pos n) *ℤ c.slope.result) c.value_at.ensures.value
    ∙ ap (λ (x : ℤ). c.args.beside.now.worth +ℤ change *ℤ x) c.slope.ensures.value
    ∙ ap (λ (xs : List ℕ). c.args.beside.now.worth +ℤ change *ℤ slope_of c.args.inst.now c.args.place xs)
    c.as_slice.ensures.value))
    (worth_bounded c.args.inst.now c.args.prices.now new c.args.place c.args.v c.args.beside.now.choice.items
    c.args.beside.now.worth c.requires.prices k c.requires.place e c.requires.kept.starts c.requires.kept.picked)

pub returns-clause-small : goal.returns-clause-small
returns-clause-small c =
    let t = times_is c.args.v c.value_at.result c.requires.small c.value_at.ensures.small in
    let m = more_is c.args.beside.now.worth (to_z w128 c.args.v -ℤ to_z w128 c.value_at.result)
    c.slope.result (omega (arith, c.requires.kept.small)) t.small (omega (arith, c.slope.ensures.small)) in
    omega (arith, m.gap, c.requires.kept.small)
