use Rattle.std.proofs.Common.{◌≡◌, ◌∙◌, sym, subst, ap, ◌<◌, ◌++◌, length, arith}
use Rattle.std.specs.Prelude.{◌-◌, ◌*◌, ◌^◌}
use Rattle.decimal_numbers.specs.Decimal.{number, number_from}
use Rattle.json_grammar.specs.Split.{parts_view}
use Rattle.decimal_numbers.proofs.Rounding.{from_append}
use Rattle.decimal_numbers.proofs.Capped.{fewer}
use Rattle.decimal_numbers.proofs.OneWord.{whole_room, fraction_room, number_below, size_small}
use Rattle.decimal_numbers.proofs.one_word.one_word_size.Goals as goal

pub with_digits-whole-requires-clause-few : goal.with_digits-whole-requires-clause-few
with_digits-whole-requires-clause-few c = let f = c.requires.fits.fits in
    whole_room (length c.args.parts.now.whole.now) (omega arith)

pub with_digits-digits-requires-clause-few : goal.with_digits-digits-requires-clause-few
with_digits-digits-requires-clause-few c =
    let p = c.args.parts.now in
    let f = c.requires.fits.fits in
    let g = c.requires.fits.exact in
    let e = c.with_digits-whole.ensures in
    fraction_room c.with_digits-whole.result (length p.whole.now) (length p.fraction.now)
    (subst (λ z. z < 10 ^ length p.whole.now) (sym e) (number_below p.whole.now c.requires.digits.whole))
    (omega arith)

size : goal.returns-clause-size
size c =
    let p = c.args.parts.now in
    let n : c.with_digits-digits.result ≡ number (p.whole.now ++ p.fraction.now) = c.with_digits-digits.ensures
    ∙ ap (λ z. number_from z p.fraction.now) c.with_digits-whole.ensures
    ∙ sym (from_append 0 p.whole.now p.fraction.now) in
    ap (λ z. z * c.power_of_ten.result) n ∙ ap (λ z. number (p.whole.now ++ p.fraction.now) * z) c.power_of_ten.ensures

pub overflow_mul-result : goal.overflow_mul-result
overflow_mul-result c =
    let p = c.args.parts.now in
    let n : c.with_digits-digits.result ≡ number (p.whole.now ++ p.fraction.now) = c.with_digits-digits.ensures
    ∙ ap (λ z. number_from z p.fraction.now) c.with_digits-whole.ensures
    ∙ sym (from_append 0 p.whole.now p.fraction.now) in
    let e : c.with_digits-digits.result * c.power_of_ten.result ≡ number (p.whole.now
    ++ p.fraction.now) * 10 ^ (c.args.places - length p.fraction.now) = ap (λ z. z * c.power_of_ten.result) n
    ∙ ap (λ z. number (p.whole.now ++ p.fraction.now) * z) c.power_of_ten.ensures in
    let f = size_small (number (p.whole.now ++ p.fraction.now)) (length p.whole.now) (length p.fraction.now)
    c.args.places (fewer (parts_view p) c.requires.digits) c.requires.fits.exact c.requires.fits.fits in
    omega arith

pub returns-clause-size : goal.returns-clause-size
returns-clause-size c = size c

pub returns-clause-small : goal.returns-clause-small
returns-clause-small c =
    let p = c.args.parts.now in
    let f = size_small (number (p.whole.now ++ p.fraction.now)) (length p.whole.now) (length p.fraction.now)
    c.args.places (fewer (parts_view p) c.requires.digits) c.requires.fits.exact c.requires.fits.fits in
    omega (arith, size c, f)
