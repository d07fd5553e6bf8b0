use Rattle.std.proofs.Common.{rules, ◌≡◌, ◌+◌, ◌<◌, ◌≤◌, ℕ, List, take, get_or, sym, ◌∙◌, ap, subst, arith, pos}
use Rattle.std.specs.Prelude.{◌-◌, ◌*◌, ◌^◌}
use Rattle.decimal_numbers.specs.Decimal.{number_from}
use Rattle.json_machine.proofs.PlainNumbers.{behind}
use Rattle.json_events.specs.CountedNumbers.{IsCountedRun}
use Rattle.json_events.proofs.NumberLanes.{IsFraction, size_fits, fraction_counted}
use Rattle.json_events.proofs.number_lanes.fraction_by_lanes.Goals as goal

-- the digits behind the point, as the lanes tell them
fraction : (c : goal.After-power_of_ten)
    → IsFraction c.args.bytes.now c.args.whole c.args.value c.digits_from-places.result c.eight_digits-fraction.result
fraction c =
    let bs = c.args.bytes.now in
    let n = c.args.whole in
    let m = c.digits_from-places.result in
    let whole = c.requires.whole in
    let few : m ≤ 8 = search rules in
    let some : 0 < m = search rules in
    record {
      whole = whole;
      some = some;
      few = few;
      within = omega (arith, whole.few, c.requires.room);
      digits = c.digits_from-places.ensures bs c.requires.mask (omega arith);
      value_is = c.eight_digits-fraction.ensures ∙ ap (λ (z : List ℕ). number_from 0 (take m z)) (behind (n + 1) bs);
    }

-- the power comes from a table
scaled : (c : goal.After-power_of_ten) → c.eight_digits-fraction.result * c.power_of_ten.result
    ≡ c.eight_digits-fraction.result * 10 ^ (12 - c.digits_from-places.result)
scaled c = ap (λ z. c.eight_digits-fraction.result * z) c.power_of_ten.ensures

-- the count fits a word
fits : (c : goal.After-power_of_ten)
    → c.args.value * 1000000000000 + c.eight_digits-fraction.result * c.power_of_ten.result < 2 ^ 64
fits c = subst (λ z. c.args.value * 1000000000000 + z < 2 ^ 64) (sym (scaled c))
    (size_fits c.args.bytes.now c.args.whole c.args.value c.digits_from-places.result c.eight_digits-fraction.result
    (fraction c))

pub overflow_mul-result-2 : goal.overflow_mul-result-2
overflow_mul-result-2 c = omega (arith, fits c)

pub overflow_add-result : goal.overflow_add-result
overflow_add-result c = omega (arith, fits c)

pub returns : goal.returns
returns c =
    let bs = c.args.bytes.now in
    let n = c.args.whole in
    let m = c.digits_from-places.result in
    let comma : get_or bs (n + 1 + m) 0 ≡ 44 = search rules in
    subst (λ z. IsCountedRun bs (n + 1 + m) (pos (c.args.value * 1000000000000 + z))) (sym (scaled c))
    (fraction_counted bs n c.args.value m c.eight_digits-fraction.result (fraction c) comma)
