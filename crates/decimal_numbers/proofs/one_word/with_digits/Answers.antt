use Rattle.std.proofs.Common.{◌≡◌, ◌∙◌, sym, subst, ◌+◌, ◌<◌, ◌≤◌, ℕ, List, length, get_or, arith}
use Rattle.std.specs.Prelude.{◌-◌, ◌*◌, ◌^◌}
use Rattle.std.proofs.lemmas.List.{get_or_default}
use Rattle.json_grammar.specs.Grammar.{IsDigit}
use Rattle.decimal_numbers.specs.Scaling.{AreAllDigits}
use Rattle.decimal_numbers.proofs.Rounding.{one_digit}
use Rattle.decimal_numbers.proofs.OneWord.{room_more, room_fits}
use Rattle.decimal_numbers.proofs.one_word.with_digits.Goals as goal

digit : (ds : List ℕ) (i : ℕ) → AreAllDigits ds → i < length ds → IsDigit (get_or ds i 0)
digit ds i h l = subst IsDigit (get_or_default ds i 48 0 l) (h i l)

-- the room behind the next digit
room : (v i : ℕ) (ds : List ℕ) → AreAllDigits ds → i < length ds → (v + 1) * 10 ^ (length ds - i) ≤ 2 ^ 64
    → (v * 10 + (get_or ds i 0 - 48) + 1) * 10 ^ (length ds - (i + 1)) ≤ 2 ^ 64
room v i ds h l r =
    let d = digit ds i h l in
    let low = d.low in
    let high = d.high in
    let e : length ds - i - 1 ≡ length ds - (i + 1) = omega arith in
    subst (λ z. (v * 10 + (get_or ds i 0 - 48) + 1) * 10 ^ z ≤ 2 ^ 64) e
    (room_more v (get_or ds i 0 - 48) (length ds - i) (omega arith) (omega arith) r)

fits : (v i : ℕ) (ds : List ℕ) → AreAllDigits ds → i < length ds → (v + 1) * 10 ^ (length ds - i) ≤ 2 ^ 64
    → v * 10 + (get_or ds i 0 - 48) < 2 ^ 64
fits v i ds h l r = room_fits (v * 10 + (get_or ds i 0 - 48)) (length ds - (i + 1)) (room v i ds h l r)

pub overflow_mul-value : goal.overflow_mul-value
overflow_mul-value c =
    let f = fits c.loop-digit.value c.loop-digit.digit-index c.args.digits.now c.requires.digits c.loop-digit-test.true
    c.loop-digit.invariant.room in
    omega arith

pub overflow_sub-value : goal.overflow_sub-value
overflow_sub-value c = (digit c.args.digits.now c.loop-digit.digit-index c.requires.digits c.loop-digit-test.true).low

pub overflow_add-value : goal.overflow_add-value
overflow_add-value c =
    let f = fits c.loop-digit.value c.loop-digit.digit-index c.args.digits.now c.requires.digits c.loop-digit-test.true
    c.loop-digit.invariant.room in
    omega arith

pub loop-digit-preserved : goal.loop-digit-preserved
loop-digit-preserved c = record {
  same = sym (one_digit c.loop-digit.value c.loop-digit.digit-index c.args.digits.now c.loop-digit-test.true)
      ∙ c.loop-digit.invariant.same;
  room = room c.loop-digit.value c.loop-digit.digit-index c.args.digits.now c.requires.digits c.loop-digit-test.true
      c.loop-digit.invariant.room;
}
