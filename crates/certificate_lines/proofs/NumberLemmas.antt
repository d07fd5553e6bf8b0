-- Numbers of up to 37 digits.
use Rattle.std.proofs.Common.{◌≡◌, ◌≢◌, ⊎_elim, ℕ, zero, suc, ◌+◌, ◌-◌, ◌*◌, ◌/◌, ◌%◌, ◌^◌, ◌<◌, ◌≤◌, List, [], ◌∷◌}
use Rattle.std.proofs.Common.{◌++◌, Option, Some, None, IfSome, IfNone, length, take, get_or, sym, ◌∙◌, ap, subst}
use Rattle.std.proofs.Common.{arith, decimal, add-one, ℤ, pos, negsuc, neg_ℤ, unsigned_abs, refl, rules}
use Rattle.std.specs.List.{All}
use Rattle.std.specs.Fmt.{signed_decimal}
use Rattle.std.specs.Char.{digit_value}
use Rattle.std.specs.Str.Parse.{AllDigits, IsNumeral, digits_value}
use Rattle.std.proofs.lemmas.Bool.{cases_lt}
use Rattle.std.proofs.lemmas.Fmt.{decimal_digit, decimal_step_wide, decimal_by_steps_wide, decimal_is_IsNumeral_wide}
use Rattle.std.proofs.lemmas.Fmt.{length-decimal-le_wide}
use Rattle.std.proofs.lemmas.List.{take_more, take_all, length_push, get_or_append_left}
use Rattle.std.proofs.lemmas.List.Elements.{All-head}
use Rattle.text_lines.proofs.DigitLemmas.{IsDigit, digit_bytes, digits-each, each-digits, next_value}
use Rattle.certificate_lines.proofs.WordLemmas.{decimal_digits}

-- a number from 1 on begins with no zero
AsFirst : ℕ → List ℕ → Type 0
AsFirst n ds = 0 < n → (0 < length ds) × (48 < get_or ds 0 0)

first_one : (n : ℕ) → n < 10 → AsFirst n ((48 + n) ∷ [])
unfolding AsFirst
first_one n l = λ some. (omega arith, omega (arith, some))

first_more : (n : ℕ) (ds : List ℕ) → 10 ≤ n → AsFirst (n / 10) ds → AsFirst n (ds ++ (48 + n % 10) ∷ [])
unfolding AsFirst
first_more n ds l h = λ some.
    let front = h (omega (arith, l)) in (
      omega (arith, front.0, length_push ds (48 + n % 10)),
      rw (get_or_append_left ds ((48 + n % 10) ∷ []) 0 0 front.0) front.1,
    )

first_wide : (n : ℕ) → 0 < n → n < 10 ^ 64 → 48 < get_or (decimal n) 0 0
unfolding AsFirst
first_wide n some small = (decimal_by_steps_wide AsFirst first_one first_more n small some).1

-- the text has 1 to 37 digits, the first of them no needless zero
record IsDigitText (text : List ℕ) : Type 0 where
  some : 0 < length text
  few : length text ≤ 37
  front : 1 < length text → get_or text 0 0 ≢ 48
  digits : All (λ b. digit_value b < 10) text

-- the text of a number
digit_text_of : (n : ℕ) → n < 10 ^ 37 → IsDigitText (decimal n)
digit_text_of n small =
    let wide : n < 10 ^ 64 = omega (arith, small) in
    let numeral = (decimal_is_IsNumeral_wide n wide).0 in
    record {
      some = numeral.0;
      few = length-decimal-le_wide 37 n (omega arith) small wide;
      front = λ long zero_first. ⊎_elim
          (λ digit. omega (arith, ap length (decimal_digit n digit), long))
          (λ large. omega (arith, first_wide n (omega (arith, large)) wide, zero_first))
          (cases_lt n 10);
      digits = digits-each (decimal n) numeral.1;
    }

-- the first digits are the text of their number, which is not 0
record IsText (ds : List ℕ) (m : ℕ) : Type 0 where
  text : decimal (digits_value 10 (take m ds)) ≡ take m ds
  some : 0 < digits_value 10 (take m ds)

text_one : (ds : List ℕ) → 0 < length ds → length ds ≤ 37 → AllDigits 10 ds
    → decimal (digits_value 10 (take 1 ds)) ≡ take 1 ds
text_one ds some few h =
    let b : ℕ = get_or ds 0 0 in
    let next = next_value 37 ds 0 0 some few h refl in
    let digit : IsDigit b = digit_bytes b (digits-each ds h 0 0 some) in
    let is : digits_value 10 (take 1 ds) ≡ b - 48 = omega (arith, next.is) in
    let byte : 48 + (b - 48) ≡ b = omega (arith, digit.from) in
    ap decimal is ∙ decimal_digit (b - 48) (omega (arith, digit.to)) ∙ ap (λ x. x ∷ []) byte
    ∙ sym (take_more ds 0 0 some)

text_more : (ds : List ℕ) (i : ℕ) → i < length ds → length ds ≤ 37 → AllDigits 10 ds → IsText ds i → IsText ds (i + 1)
text_more ds i l few h t =
    let b : ℕ = get_or ds i 0 in
    let v : ℕ = digits_value 10 (take i ds) in
    let n : ℕ = v * 10 + (b - 48) in
    let next = next_value 37 ds i v l few h refl in
    let digit : IsDigit b = digit_bytes b (digits-each ds h i 0 l) in
    let large : 10 ≤ n = omega (arith, t.some) in
    let small : n < 10 ^ 64 = omega (arith, next.small) in
    let front : n / 10 ≡ v = omega (arith, digit.to) in
    let byte : 48 + n % 10 ≡ b = omega (arith, digit.to, digit.from) in
    record {
      text = ap decimal next.is ∙ decimal_step_wide n large small ∙ ap (λ x. decimal (n / 10) ++ x ∷ []) byte
          ∙ ap (λ x. decimal x ++ b ∷ []) front ∙ ap (λ xs. xs ++ b ∷ []) t.text ∙ sym (take_more ds i 0 l);
      some = omega (arith, next.is, large);
    }

text_grows : (ds : List ℕ) (m : ℕ) → 0 < m → m ≤ length ds → length ds ≤ 37 → AllDigits 10 ds
    → get_or ds 0 0 ≢ 48 → IsText ds m
text_grows ds zero some l few h front = absurd (omega (arith, some))
text_grows ds (suc zero) some l few h front =
    let within : 0 < length ds = omega (arith, l) in
    let next = next_value 37 ds 0 0 within few h refl in
    let digit : IsDigit (get_or ds 0 0) = digit_bytes (get_or ds 0 0) (digits-each ds h 0 0 within) in
    record {
      text = text_one ds within few h;
      some = ⊎_elim
          (λ zero_first. absurd (front (omega (arith, zero_first, digit.from))))
          (λ above. omega (arith, next.is, above))
          (cases_lt (get_or ds 0 0) 49);
    }
text_grows ds (suc (suc k)) some l few h front =
    subst (IsText ds) (add-one (suc k))
    (text_more ds (suc k) (omega (arith, l)) few h
    (text_grows ds (suc k) (omega arith) (omega (arith, l)) few h front))

-- such digits are the text of their number
text_of_digits : (ds : List ℕ) → IsDigitText ds → ds ≡ decimal (digits_value 10 ds)
text_of_digits ds t =
    let h : AllDigits 10 ds = each-digits ds t.digits in
    let whole : (m : ℕ) → length ds ≤ m → decimal (digits_value 10 (take m ds)) ≡ take m ds
    → ds ≡ decimal (digits_value 10 ds) = λ m l e.
    sym (ap (λ xs. decimal (digits_value 10 xs)) (sym (take_all m ds l)) ∙ e ∙ take_all m ds l) in
    ⊎_elim
    (λ long. whole (length ds) (omega arith)
    (text_grows ds (length ds) t.some (omega arith) t.few h (t.front long)).text)
    (λ short. whole 1 (omega (arith, short)) (text_one ds t.some t.few h))
    (cases_lt 1 (length ds))

-- a text that begins with a needless zero is that of no number
pub no_wide_zero_in_front : (bytes : List ℕ) (n : ℕ) → n < 10 ^ 37 → bytes ≡ decimal n → 1 < length bytes →
    get_or bytes 0 0 ≡ 48 → ⊥
no_wide_zero_in_front bytes n small e = (subst IsDigitText (sym e) (digit_text_of n small)).front

-- what the digits say, said of the text of a number
pub wide_found : (bytes : List ℕ) (value : Option ℕ) → (get_or bytes 0 0 ≡ 48 → length bytes ≤ 1) →
    IfSome value (λ n. digits_value 10 bytes ≡ n) → IfSome value (λ n. IsNumeral 10 bytes) →
    IfSome value (λ n. length bytes ≤ 37) → IfSome value (λ n. bytes ≡ decimal n)
wide_found bytes None front e h l = search rules
wide_found bytes (Some n) front e h l =
    let text : IsDigitText bytes = record {
      some = h.0;
      few = l;
      front = λ long zero_first. omega (arith, front zero_first, long);
      digits = digits-each bytes h.1;
    } in
    text_of_digits bytes text ∙ ap decimal e

pub wide_none : (bytes : List ℕ) (value : Option ℕ) → IfNone value (IsNumeral 10 bytes → length bytes ≤ 37 → ⊥) →
    IfNone value ((n : ℕ) → n < 10 ^ 37 → bytes ≡ decimal n → ⊥)
wide_none bytes None none = λ n small e.
    let text : IsDigitText bytes = subst IsDigitText (sym e) (digit_text_of n small) in
    none (text.some, each-digits bytes text.digits) text.few
wide_none bytes (Some n) none = search rules

-- a number has one text
pub decimal_once : (n m : ℕ) → n < 10 ^ 37 → m < 10 ^ 37 → decimal n ≡ decimal m → n ≡ m
decimal_once n m small less e =
    sym (decimal_is_IsNumeral_wide n (omega (arith, small))).1 ∙ ap (digits_value 10) e
    ∙ (decimal_is_IsNumeral_wide m (omega (arith, less))).1

-- a number from 0 on begins with a digit, and so with no minus and no letter
pub decimal_no_minus : (n : ℕ) (bytes : List ℕ) → n < 10 ^ 37 → 45 ∷ bytes ≡ decimal n → ⊥
decimal_no_minus n bytes small e =
    let first : 48 ≤ 45 =
    All-head (λ b. 48 ≤ b) 45 bytes (subst (All (λ b. 48 ≤ b)) (sym e) (decimal_digits n (omega (arith, small)))) in
    omega (arith, first)

pub decimal_no_letter : (n b : ℕ) (bytes : List ℕ) → n < 10 ^ 37 → 58 ≤ b → b ∷ bytes ≡ decimal n → ⊥
decimal_no_letter n b bytes small letter e =
    let text : IsDigitText (b ∷ bytes) = subst IsDigitText (sym e) (digit_text_of n small) in
    let digit : IsDigit b = digit_bytes b (text.digits 0 0 (omega arith)) in
    omega (arith, digit.to, letter)

-- a number below 0
pub negative_text : (n : ℕ) → 0 < n → signed_decimal (neg_ℤ (pos n)) ≡ 45 ∷ decimal n
negative_text zero some = absurd (omega (arith, some))
negative_text (suc n) some = refl

pub no_negative : (digits : List ℕ) → ((n : ℕ) → 0 < n → n < 10 ^ 37 → digits ≡ decimal n → ⊥) → (z : ℤ)
    → unsigned_abs z < 10 ^ 37 → 45 ∷ digits ≡ signed_decimal z → ⊥
no_negative digits none (pos n) small e = decimal_no_minus n digits small e
no_negative digits none (negsuc n) small e = none (suc n) (omega arith) small (cc)

pub no_natural : (text : List ℕ) → ((rest : List ℕ) → text ≢ 45 ∷ rest) → ((n : ℕ) → n < 10 ^ 37 → text ≡ decimal n → ⊥)
    → (z : ℤ) → unsigned_abs z < 10 ^ 37 → text ≡ signed_decimal z → ⊥
no_natural text front none (pos n) small e = none n small e
no_natural text front none (negsuc n) small e = front (decimal (suc n)) e
