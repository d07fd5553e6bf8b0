use Rattle.std.proofs.Common.{◌∙◌, ◌≤◌, ◌^◌, ap, arith, pos, ℤ, ◌-ℤ◌, unsigned_abs}
use Rattle.std.specs.Int.{int_max}
use Rattle.fixed_num.proofs.SignedLemmas.{back_from_abs}
use Rattle.plan_score.proofs.EnclosureLemmas.{floor_is, difference_is, floor_no_larger, above_zero_small}
use Rattle.plan_score.proofs.enclosure.floor_above_zero.Goals as goal

pub returns-clause-value : goal.returns-clause-value
returns-clause-value c =
    let small : unsigned_abs c.floor_div.result ≤ 10 ^ 32 = omega (
      arith,
      floor_no_larger c.floor_div.result c.args.value c.args.n c.requires.some
          (floor_is c.floor_div.result c.args.value c.args.n (omega arith) (omega (arith, c.requires.value))
          c.floor_div.ensures),
      c.requires.value,
    ) in
    let lowered =
    difference_is c.floor_div.result c.args.margin (omega (arith, small)) (omega (arith, c.requires.few)) in
    let few = above_zero_small c.max.result c.floor_div.result c.args.margin
    (c.max.ensures.value ∙ ap (λ (x : ℤ). int_max (pos 0) x) lowered) small c.requires.few in
    back_from_abs c.max.result (omega (arith, few)) ∙ c.max.ensures.value
    ∙ ap (λ (x : ℤ). int_max (pos 0) x)
    (lowered ∙ ap (λ (x : ℤ). x -ℤ pos c.args.margin) (floor_is c.floor_div.result c.args.value c.args.n
    (omega arith) (omega (arith, c.requires.value)) c.floor_div.ensures))

pub returns-clause-small : goal.returns-clause-small
returns-clause-small c =
    let small : unsigned_abs c.floor_div.result ≤ 10 ^ 32 = omega (
      arith,
      floor_no_larger c.floor_div.result c.args.value c.args.n c.requires.some
          (floor_is c.floor_div.result c.args.value c.args.n (omega arith) (omega (arith, c.requires.value))
          c.floor_div.ensures),
      c.requires.value,
    ) in
    let lowered =
    difference_is c.floor_div.result c.args.margin (omega (arith, small)) (omega (arith, c.requires.few)) in
    let few = above_zero_small c.max.result c.floor_div.result c.args.margin
    (c.max.ensures.value ∙ ap (λ (x : ℤ). int_max (pos 0) x) lowered) small c.requires.few in
    rw (back_from_abs c.max.result (omega (arith, few))) few
