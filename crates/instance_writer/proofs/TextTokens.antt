-- Decimal digits as number tokens: what whole numbers, counts and millionths are read as.
use Rattle.std.proofs.Common.{◌≡◌, ℕ, zero, suc, ◌+◌, ◌-◌, ◌*◌, ◌/◌, ◌%◌, ◌^◌, ◌<◌, ◌≤◌, Bool, true, false, not}
use Rattle.std.proofs.Common.{List, [], ◌∷◌, ◌++◌, length, Some, refl, sym, ◌∙◌, ap, subst, arith}
use Rattle.std.proofs.Common.{ℤ, pos, negsuc, unsigned_abs, append_assoc, length-append, decimal, replicate, codes}
use Rattle.std.proofs.lemmas.Bool.{eq-eqb, cond-true, lt-ltb}
use Rattle.std.proofs.lemmas.Fmt.{decimal_by_steps_wide, length-decimal-le_wide}
use Rattle.std.proofs.lemmas.List.{append-nil, length-replicate}
use Rattle.json_grammar.specs.Grammar.{IsDigit, AreDigits, IsInt, IsFrac, IsExp, Parts, parts, HasParts, IsNumber}
use Rattle.json_grammar.specs.Tree.{Node}
use Rattle.json_grammar.proofs.Tokens.{parts_found}
use Rattle.decimal_numbers.specs.Decimal.{number, numerator, denominator, signed}
use Rattle.decimal_numbers.specs.Decimal.{of_number}
use Rattle.decimal_numbers.specs.Exact.{nearest, fixed, fixed_parts, fixed_size, whole}
use Rattle.decimal_numbers.proofs.Rounding.{number_append, ten_positive}
use Rattle.decimal_numbers.proofs.ExactLaws.{nearest_is, whole_found, millionths_found}
use Rattle.decimal_numbers.proofs.Tallying.{exact_rounds}
use Rattle.fixed_num.specs.Texts.{padded, fixed_text}
use Rattle.instance_writer.specs.text.Conditions.{SpellsCount, SpellsPart}
use Rattle.instance_writer.specs.text.Styles.{decimals, part_text}

-- ---- the digits of a number

-- digits without a needless zero in front, and their number
pub record IsDecimal (n : ℕ) (ds : List ℕ) : Type 0 where
  pub int : IsInt ds
  pub value : number ds ≡ n

digit_of : (k : ℕ) → k < 10 → IsDigit (48 + k)
digit_of k h = record { low = omega arith; high = omega arith }

pub one_more : {ds : List ℕ} (b : ℕ) → AreDigits ds → IsDigit b → AreDigits (ds ++ b ∷ [])
one_more b AreDigits.none h = AreDigits.more h AreDigits.none
one_more b (AreDigits.more g gs) h = AreDigits.more g (one_more b gs h)

one_digit : (n : ℕ) → n < 10 → IsDecimal n ((48 + n) ∷ [])
one_digit zero h = record { int = IsInt.zero; value = refl }
one_digit (suc n) h = record {
  int = IsInt.nonzero (λ e. omega (arith, e)) (digit_of (suc n) h) AreDigits.none;
  value = omega arith;
}

int_more : {ds : List ℕ} (b : ℕ) → IsInt ds → 0 < number ds → IsDigit b → IsInt (ds ++ b ∷ [])
int_more b IsInt.zero l h = absurd (omega arith)
int_more b (IsInt.nonzero n g gs) l h = IsInt.nonzero n g (one_more b gs h)

more_digits : (n : ℕ) (ds : List ℕ) → 10 ≤ n → IsDecimal (n / 10) ds → IsDecimal n (ds ++ ((48 + n % 10) ∷ []))
more_digits n ds h d =
    let last : number ((48 + n % 10) ∷ []) ≡ n % 10 = omega arith in
    record {
      int = int_more (48 + n % 10) d.int (omega (arith, d.value)) (digit_of (n % 10) (omega arith));
      value = number_append ds ((48 + n % 10) ∷ []) ∙ omega (arith, d.value, last);
    }

pub decimal_is : (n : ℕ) → n < 10 ^ 64 → IsDecimal n (decimal n)
decimal_is n h = decimal_by_steps_wide IsDecimal one_digit more_digits n h

pub digits_of_int : {ds : List ℕ} → IsInt ds → AreDigits ds
digits_of_int IsInt.zero = AreDigits.more (record { low = omega arith; high = omega arith }) AreDigits.none
digits_of_int (IsInt.nonzero n h hs) = AreDigits.more h hs

-- ---- zeros in front

zeros_digits : {ds : List ℕ} (k : ℕ) → AreDigits ds → AreDigits (replicate k 48 ++ ds)
zeros_digits zero h = h
zeros_digits (suc k) h = AreDigits.more (record { low = omega arith; high = omega arith }) (zeros_digits k h)

zeros_value : (k : ℕ) (ds : List ℕ) → number (replicate k 48 ++ ds) ≡ number ds
zeros_value zero ds = refl
zeros_value (suc k) ds = zeros_value k ds

-- a number in exactly k digits
record IsPadded (k n : ℕ) (ds : List ℕ) : Type 0 where
  digits : AreDigits ds
  long : length ds ≡ k
  value : number ds ≡ n

padded_is : (k n : ℕ) → 0 < k → k ≤ 64 → n < 10 ^ k → n < 10 ^ 64 → IsPadded k n (padded k n)
padded_is k n some few small wide =
    let d = decimal_is n wide in
    let short : length (decimal n) ≤ k = length-decimal-le_wide k n some small wide in
    record {
      digits = zeros_digits (k - length (decimal n)) (digits_of_int d.int);
      long = length-append (replicate (k - length (decimal n)) 48) (decimal n)
          ∙ omega (arith, length-replicate {A = ℕ} (k - length (decimal n)) 48, short);
      value = zeros_value (k - length (decimal n)) (decimal n) ∙ d.value;
    }

-- ---- tokens

whole_parts : (n : ℕ) → n < 10 ^ 64 → HasParts (decimal n) (parts false (decimal n) [] false [])
whole_parts n h =
    subst (λ (bs : List ℕ). HasParts bs (parts false (decimal n) [] false [])) (append-nil (decimal n))
    (HasParts.positive (decimal_is n h).int IsFrac.none IsExp.none)

-- digits behind a point
frac_of : {ds : List ℕ} → AreDigits ds → 0 < length ds → IsFrac (46 ∷ ds) ds
frac_of AreDigits.none l = absurd (omega arith)
frac_of (AreDigits.more h hs) l = IsFrac.digits h hs

point_parts : {w ds : List ℕ} → IsInt w → AreDigits ds → 0 < length ds
    → HasParts (w ++ 46 ∷ ds) (parts false w ds false [])
point_parts {w} {ds} i d l =
    subst (λ (bs : List ℕ). HasParts (w ++ bs) (parts false w ds false [])) (append-nil (46 ∷ ds))
    (HasParts.positive i (frac_of d l) IsExp.none)

minus_parts : {w ds : List ℕ} → IsInt w → AreDigits ds → 0 < length ds
    → HasParts (45 ∷ (w ++ 46 ∷ ds)) (parts true w ds false [])
minus_parts {w} {ds} i d l =
    subst (λ (bs : List ℕ). HasParts (45 ∷ (w ++ bs)) (parts true w ds false [])) (append-nil (46 ∷ ds))
    (HasParts.negative i (frac_of d l) IsExp.none)

-- ---- whole numbers

pub whole_token : (n : ℕ) → n < 10 ^ 64 → IsNumber (decimal n)
whole_token n h = (parts false (decimal n) [] false [], whole_parts n h)

pub whole_read : (n : ℕ) → n < 1_000_000_000 → whole (Node.number (decimal n)) ≡ Some n
whole_read n h =
    let small : n < 10 ^ 64 = omega arith in
    let d = decimal_is n small in
    let p = parts false (decimal n) [] false [] in
    let value : number (decimal n ++ []) ≡ n = ap number (append-nil (decimal n)) ∙ d.value in
    whole_found (Node.number (decimal n)) n (of_number
    (record {
      parts = p;
      token_parts = whole_parts n small;
      exact = omega (arith, value);
      sign = λ e. cc;
    }) (omega arith))

-- ---- numbers with decimals

-- a size over 10^k, in digits before and behind a point
record IsSplit (k size : ℕ) (w ds : List ℕ) : Type 0 where
  int : IsInt w
  digits : AreDigits ds
  long : length ds ≡ k
  value : number (w ++ ds) ≡ size

split_is : (k size : ℕ) → 0 < k → k ≤ 64 → size % 10 ^ k < 10 ^ 64 → size / 10 ^ k < 10 ^ 64
    → IsSplit k size (decimal (size / 10 ^ k)) (padded k (size % 10 ^ k))
split_is k size some few low high =
    let ten : 0 < 10 ^ k = ten_positive k in
    let w = decimal_is (size / 10 ^ k) high in
    let p = padded_is k (size % 10 ^ k) some few (omega (arith, ten)) low in
    let power : 10 ^ length (padded k (size % 10 ^ k)) ≡ 10 ^ k = ap (λ n. 10 ^ n) p.long in
    let scaled : number (decimal (size / 10 ^ k)) * 10 ^ length (padded k (size % 10 ^ k)) ≡ size / 10 ^ k * 10 ^ k =
    ap (λ n. n * 10 ^ length (padded k (size % 10 ^ k))) w.value ∙ ap (λ n. size / 10 ^ k * n) power in
    let whole : 10 ^ k * (size / 10 ^ k) + size % 10 ^ k ≡ size = omega (arith, ten) in
    let turned : size / 10 ^ k * 10 ^ k ≡ 10 ^ k * (size / 10 ^ k) = grind arith in
    record {
      int = w.int;
      digits = p.digits;
      long = p.long;
      value = number_append (decimal (size / 10 ^ k)) (padded k (size % 10 ^ k))
          ∙ omega (arith, scaled, p.value, whole, turned);
    }

exact_parts : (negative : Bool) (k size : ℕ) (w ds : List ℕ) → IsSplit k size w ds
    → size * denominator (parts negative w ds false []) ≡ numerator (parts negative w ds false []) k
exact_parts negative k size w ds h =
    let den : 10 ^ (0 + length ds) ≡ 10 ^ (0 + k) = ap (λ n. 10 ^ (0 + n)) h.long in
    ap (λ n. size * n) den ∙ ap (λ n. n * 10 ^ (0 + k)) (sym h.value)

nearest_exact : (a d : ℕ) → 0 < d → nearest (a * d) d ≡ a
nearest_exact a d h = nearest_is (a * d) d a (exact_rounds a d h)

fixed_exact : (token : List ℕ) (p : Parts) (size : ℕ) → HasParts token p → size * denominator p ≡ numerator p 12
    → size < 10 ^ 20 → 0 < denominator p → fixed token ≡ Some (signed p.negative size, false)
unfolding fixed
fixed_exact token p size h e small some =
    let near : nearest (numerator p 12) (denominator p) ≡ size =
    ap (λ n. nearest n (denominator p)) (sym e) ∙ nearest_exact size (denominator p) some in
    ap fixed_parts (parts_found h) ∙ ap (fixed_size p) near
    ∙ cond-true _ _ _ (lt-ltb size (10 ^ 20) small)
    ∙ ap (λ b. Some (signed p.negative size, not b)) (eq-eqb (size * denominator p) (numerator p 12) e)

-- a count with 12 decimals
pub count_spelled : (z : ℤ) → unsigned_abs z < 10 ^ 20 → SpellsCount decimals z
count_spelled (pos n) h =
    let size : n < 10 ^ 20 = h in
    let s = split_is 12 n (omega arith) (omega arith) (omega arith) (omega arith) in
    let w = decimal (n / 10 ^ 12) in
    let ds = padded 12 (n % 10 ^ 12) in
    let p = parts false w ds false [] in
    let text : [] ++ w ++ codes "." ++ ds ≡ w ++ 46 ∷ ds = append_assoc w (codes ".") ds in
    let token : HasParts (fixed_text (pos n)) p = subst (λ (bs : List ℕ). HasParts bs p) (sym text)
    (point_parts s.int s.digits (omega (arith, s.long))) in
    record {
      token = (p, token);
      exact = fixed_exact (fixed_text (pos n)) p n token (exact_parts false 12 n w ds s) size (ten_positive _);
    }
count_spelled (negsuc n) h =
    let size : suc n < 10 ^ 20 = h in
    let s = split_is 12 (suc n) (omega arith) (omega arith) (omega arith) (omega arith) in
    let w = decimal (suc n / 10 ^ 12) in
    let ds = padded 12 (suc n % 10 ^ 12) in
    let p = parts true w ds false [] in
    let text : codes "-" ++ w ++ codes "." ++ ds ≡ 45 ∷ (w ++ 46 ∷ ds) =
    ap (λ bs. 45 ∷ bs) (append_assoc w (codes ".") ds) in
    let token : HasParts (fixed_text (negsuc n)) p = subst (λ (bs : List ℕ). HasParts bs p) (sym text)
    (minus_parts s.int s.digits (omega (arith, s.long))) in
    record {
      token = (p, token);
      exact = fixed_exact (fixed_text (negsuc n)) p (suc n) token (exact_parts true 12 (suc n) w ds s) size
          (ten_positive _);
    }

-- millionths with 6 decimals
pub part_spelled : (m : ℕ) → m ≤ 1_000_000 → SpellsPart decimals m
part_spelled m h =
    let s = split_is 6 m (omega arith) (omega arith) (omega arith) (omega arith) in
    let w = decimal (m / 10 ^ 6) in
    let ds = padded 6 (m % 10 ^ 6) in
    let p = parts false w ds false [] in
    let text : w ++ codes "." ++ ds ≡ w ++ 46 ∷ ds = append_assoc w (codes ".") ds in
    let token : HasParts (part_text m) p = subst (λ (bs : List ℕ). HasParts bs p) (sym text)
    (point_parts s.int s.digits (omega (arith, s.long))) in
    record {
      token = (p, token);
      exact = millionths_found (part_text m) m
          (record {
            exactly = record {
              parts = p;
              token_parts = token;
              exact = exact_parts false 6 m w ds s;
              sign = λ e. cc;
            };
            most = h;
          });
    }
