use Rattle.std.proofs.Common.{rules, ◌≡◌, ◌<◌, ◌≤◌, ℕ, ◌+◌, get_or, true, arith, subst}
use Rattle.std.specs.Prelude.{◌-◌, ◌*◌, ◌^◌}
use Rattle.json_grammar.specs.Bytes.{is_digit}
use Rattle.json_grammar.specs.Grammar.{IsDigit}
use Rattle.json_grammar.proofs.Digits.{digit}
use Rattle.decimal_numbers.proofs.OneWord.{room_more, room_fits}
use Rattle.json_events.proofs.CountedNumbers.{count_more, value_more}
use Rattle.json_events.proofs.counted_number.digits_behind.Goals as goal

-- the room behind the next digit
room : (v i most b : ℕ) → IsDigit b → i < most → (v + 1) * 10 ^ (most - i) ≤ 2 ^ 64
    → (v * 10 + (b - 48) + 1) * 10 ^ (most - (i + 1)) ≤ 2 ^ 64
room v i most b d l r =
    let low = d.low in
    let high = d.high in
    let e : most - i - 1 ≡ most - (i + 1) = omega arith in
    subst (λ z. (v * 10 + (b - 48) + 1) * 10 ^ z ≤ 2 ^ 64) e
    (room_more v (b - 48) (most - i) (omega arith) (omega arith) r)

fits : (v i most b : ℕ) → IsDigit b → i < most → (v + 1) * 10 ^ (most - i) ≤ 2 ^ 64 → v * 10 + (b - 48) < 2 ^ 64
fits v i most b d l r = room_fits (v * 10 + (b - 48)) (most - (i + 1)) (room v i most b d l r)

pub overflow_mul-value : goal.overflow_mul-value
overflow_mul-value c =
    let i = c.loop-length.length in
    let b = get_or c.args.bytes.now i 0 in
    let t : is_digit b ≡ true = search rules in
    let f = fits c.loop-length.value i c.args.most b (digit b t) c.loop-length-test.true c.loop-length.invariant.room in
    omega arith

pub overflow_add-value : goal.overflow_add-value
overflow_add-value c =
    let i = c.loop-length.length in
    let b = get_or c.args.bytes.now i 0 in
    let t : is_digit b ≡ true = search rules in
    let f = fits c.loop-length.value i c.args.most b (digit b t) c.loop-length-test.true c.loop-length.invariant.room in
    omega arith

pub loop-length-preserved : goal.loop-length-preserved
loop-length-preserved c =
    let i = c.loop-length.length in
    let b = get_or c.args.bytes.now i 0 in
    let t : is_digit b ≡ true = search rules in
    record {
      counted = count_more i c.args.bytes.now c.if-length-bytes.true t c.loop-length.invariant.counted;
      within = omega (arith, c.if-length-bytes.true);
      most = omega (arith, c.loop-length-test.true);
      value_is = value_more c.args.front i c.args.bytes.now c.loop-length.value c.if-length-bytes.true
          c.loop-length.invariant.value_is;
      room = room c.loop-length.value i c.args.most b (digit b t) c.loop-length-test.true c.loop-length.invariant.room;
    }
