-- Keys of few digits are whole keys, and their digits write their numbers.
use Rattle.std.specs.Prelude.{◌^◌}
use Rattle.std.specs.List.{prefix_len}
use Rattle.std.proofs.Common.{◌≡◌, ℕ, zero, suc, ◌+◌, ◌<◌, ◌≤◌, List, [], ◌∷◌, length, take, drop, get_or, Bool}
use Rattle.std.proofs.Common.{true, false, cond, refl, sym, ◌∙◌, ap, arith, length-drop}
use Rattle.std.proofs.Math.Nat.{pow-le-pow_right}
use Rattle.std.proofs.lemmas.Bool.Decides.{nat_tests}
use Rattle.std.proofs.lemmas.List.{get_or-drop, length-take-le}
use Rattle.json_grammar.specs.Bytes.{is_digit}
use Rattle.json_grammar.specs.Token.{digit_count}
use Rattle.json_grammar.specs.laws.Machine.{is_plain}
use Rattle.json_events.specs.CountedNumbers.{WritesDigits}
use Rattle.json_events.specs.NumberKeys.{IsKeyRun}
use Rattle.json_events.proofs.CountedNumbers.{whole_below}

digit_plain : (b : ℕ) → is_digit b ≡ true → is_plain b ≡ true
digit_plain b h = grind (arith, nat_tests)

-- digits before a quote are all plain characters there are
plain_digits : (n : ℕ) (bs : List ℕ) → n ≤ digit_count bs → n < length bs → get_or bs n 0 ≡ 34
    → n ≡ prefix_len is_plain bs
plain_digits n [] h l e = absurd (omega arith)
plain_digits zero (b ∷ bs) h l e = rw e refl
plain_digits (suc n) (b ∷ bs) h l e = by (is_digit b) refl h (λ m. plain_digits n bs m (omega arith) e)
  where
    by : (t : Bool) → is_digit b ≡ t → suc n ≤ cond t (suc (digit_count bs)) 0
        → (n ≤ digit_count bs → n ≡ prefix_len is_plain bs) → suc n ≡ prefix_len is_plain (b ∷ bs)
    by true f m more =
        let next : suc n ≡ 1 + prefix_len is_plain bs = omega (arith, more (omega arith)) in
        next ∙ ap (λ t. cond t (1 + prefix_len is_plain bs) 0) (sym (digit_plain b f))
    by false f m more = absurd (omega arith)

-- the first digits are digits alone
digits_alone : (n : ℕ) (bs : List ℕ) → n ≤ digit_count bs → digit_count (take n bs) ≡ length (take n bs)
digits_alone zero bs h = refl
digits_alone (suc n) [] h = refl
digits_alone (suc n) (b ∷ bs) h = by (is_digit b) h (digits_alone n bs)
  where
    by : (t : Bool) → suc n ≤ cond t (suc (digit_count bs)) 0
        → (n ≤ digit_count bs → digit_count (take n bs) ≡ length (take n bs))
        → cond t (suc (digit_count (take n bs))) 0 ≡ suc (length (take n bs))
    by true m more = ap suc (more (omega arith))
    by false m more = absurd (omega arith)

-- nine digits fit
pub nine_fit : (bs : List ℕ) (n v : ℕ) → WritesDigits 0 bs n v → n ≤ 9 → v < 2 ^ 32
nine_fit bs n v w h =
    let ten : 0 < 10 = omega arith in
    let below = whole_below bs n v w in
    let power = pow-le-pow_right ten h in
    omega (arith, below, power)

pub key_run : (bs : List ℕ) (n v : ℕ) → get_or bs 0 0 ≡ 34 → WritesDigits 0 (drop 1 bs) n v → 0 < n → n ≤ 9
    → 1 + n < length bs → get_or bs (1 + n) 0 ≡ 34 → IsKeyRun bs n v
key_run bs n v o w s f l q =
    let rest = drop 1 bs in
    let size : length (take n rest) ≡ n = length-take-le n rest w.within in
    record {
      key = record {
        opens = o;
        plain = plain_digits n rest w.digits (omega (arith, length-drop 1 bs, l)) (get_or-drop 1 bs n 0 ∙ q);
        within = l;
        closes = q;
      };
      text = record {
        some = omega (arith, size, s);
        few = omega (arith, size, f);
        digits = digits_alone n rest w.digits;
        value = w.value_is;
      };
    }
