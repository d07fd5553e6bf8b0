-- Numbers that are told by their counts are what the machine reads of their bytes, and their counts are exact.
use Rattle.std.specs.Prelude.{◌-◌, ◌*◌, ◌^◌, ◌==◌, ◌⊎◌, ℤ, pos}
use Rattle.std.proofs.Common.{◌≡◌, ℕ, zero, suc, ◌+◌, ◌<◌, ◌≤◌, List, [], ◌∷◌, ◌++◌, length, take, drop, get_or, Bool}
use Rattle.std.proofs.Common.{true, false, cond, Some, refl, sym, ◌∙◌, ap, subst, append_assoc, append-nil}
use Rattle.std.proofs.Common.{inl, inr, length-append, length-drop, add-one, arith}
use Rattle.std.proofs.Math.Seq.{take-add, drop-cons}
use Rattle.std.proofs.lemmas.List.{get_or-drop, drop-drop, length-take-le}
use Rattle.std.proofs.lemmas.Bool.Decides.{nat_tests}
use Rattle.decimal_numbers.specs.Decimal.{number, number_from}
use Rattle.decimal_numbers.specs.Exact.{fixed, fixed_parts}
use Rattle.json_machine.specs.NumberRuns.{BeginsNumber}
use Rattle.decimal_numbers.specs.Scaling.{FitsOneWord}
use Rattle.json_events.specs.CountedNumbers.{WritesDigits, IsWhole, IsEndedRun, IsCountedRun}
use Rattle.decimal_numbers.proofs.Capped.{joined}
use Rattle.decimal_numbers.proofs.ExactLaws.{counted_is}
use Rattle.decimal_numbers.proofs.OneWord.{short_rounds, fraction_room, size_small}
use Rattle.json_machine.proofs.PlainNumbers.{whole_begins, zero_begins, fraction_ends, number_then}
use Rattle.decimal_numbers.proofs.Rounding.{below, from_append}
use Rattle.json_grammar.specs.Grammar.{AreDigits, IsInt, IsFrac, IsExp, parts, HasParts}
use Rattle.json_grammar.specs.Bytes.{is_digit}
use Rattle.json_grammar.specs.laws.Machine.{Phase}
use Rattle.json_grammar.specs.Token.{digit_count}
use Rattle.json_grammar.proofs.LawsForward.{AfterWhole}
use Rattle.json_grammar.proofs.Digits.{digit}
use Rattle.json_grammar.proofs.Tokens.{parts_found}

-- the first digits are digits
digits_are : (n : ℕ) (bs : List ℕ) → n ≤ digit_count bs → AreDigits (take n bs)
digits_are zero bs h = AreDigits.none
digits_are (suc n) [] h = absurd (omega arith)
digits_are (suc n) (b ∷ bs) h = by_test (is_digit b) refl h (digits_are n bs)
  where
    by_test : (t : Bool) → is_digit b ≡ t → suc n ≤ cond t (suc (digit_count bs)) 0
        → (n ≤ digit_count bs → AreDigits (take n bs)) → AreDigits (b ∷ take n bs)
    by_test true e h more = AreDigits.more (digit b e) (more (omega arith))
    by_test false e h more = absurd (omega arith)

-- before a byte that is none they are all of them
ends_here : (n : ℕ) (bs : List ℕ) → n ≤ digit_count bs → n < length bs
    → is_digit (get_or bs n 0) ≡ false → n ≡ digit_count bs
ends_here n [] h l e = absurd (omega arith)
ends_here zero (b ∷ bs) h l e = rw e refl
ends_here (suc n) (b ∷ bs) h l e = by_test (is_digit b) h (λ m. ends_here n bs m (omega arith) e)
  where
    by_test : (t : Bool) → suc n ≤ cond t (suc (digit_count bs)) 0 → (n ≤ digit_count bs → n ≡ digit_count bs)
        → suc n ≡ cond t (suc (digit_count bs)) 0
    by_test true h more = ap suc (more (omega arith))
    by_test false h more = absurd (omega arith)

-- one digit more
pub count_more : (i : ℕ) (bs : List ℕ) → i < length bs → is_digit (get_or bs i 0) ≡ true
    → i + digit_count (drop i bs) ≡ digit_count bs → i + 1 + digit_count (drop (i + 1) bs) ≡ digit_count bs
count_more i bs l e h =
    let d : digit_count (drop i bs) ≡ cond (is_digit (get_or bs i 0)) (suc (digit_count (drop (suc i) bs))) 0 =
    ap digit_count (drop-cons bs i 0 l) in
    let f : digit_count (drop i bs) ≡ suc (digit_count (drop (suc i) bs)) =
    d ∙ ap (λ t. cond t (suc (digit_count (drop (suc i) bs))) 0) e in
    let g : digit_count (drop (i + 1) bs) ≡ digit_count (drop (suc i) bs) =
    ap (λ z. digit_count (drop z bs)) (add-one i) in
    omega arith

one_taken : (i : ℕ) (bs : List ℕ) → i < length bs → take 1 (drop i bs) ≡ get_or bs i 0 ∷ []
one_taken i bs l = ap (take 1) (drop-cons bs i 0 l)

one_more : (i : ℕ) (bs : List ℕ) → i < length bs → take (i + 1) bs ≡ take i bs ++ get_or bs i 0 ∷ []
one_more i bs l = take-add i 1 bs ∙ ap (λ z. take i bs ++ z) (one_taken i bs l)

pub value_more : (front i : ℕ) (bs : List ℕ) (value : ℕ) → i < length bs → value ≡ number_from front (take i bs)
    → value * 10 + (get_or bs i 0 - 48) ≡ number_from front (take (i + 1) bs)
value_more front i bs value l e = ap (λ z. number_from z (get_or bs i 0 ∷ [])) e
    ∙ sym (from_append front (take i bs) (get_or bs i 0 ∷ [])) ∙ ap (number_from front) (sym (one_more i bs l))

-- the value of the digits before a point
pub whole_below : (bs : List ℕ) (n v : ℕ) → WritesDigits 0 bs n v → v < 10 ^ n
whole_below bs n v w =
    let l = length-take-le n bs w.within in
    subst (λ z. v < 10 ^ z) l
    (subst (λ z. z < 10 ^ length (take n bs)) (sym w.value_is) (below (digits_are n bs w.digits)))

pub whole_fits : (bs : List ℕ) (n v : ℕ) → WritesDigits 0 bs n v → n ≤ 7 → v * 10 ^ 12 < 2 ^ 64
whole_fits bs n v w h =
    let e : n ≡ n + 0 = omega arith in
    size_small v n 0 12 (subst (λ z. v < 10 ^ z) e (whole_below bs n v w)) (omega arith) (omega arith)

pub behind_fits : (bs : List ℕ) (n v : ℕ) → WritesDigits 0 bs n v → n ≤ 7 → (v + 1) * 10 ^ 12 ≤ 2 ^ 64
behind_fits bs n v w h = fraction_room v n 12 (whole_below bs n v w) (omega arith)

-- the digits of a number before its point
record Begins (bs : List ℕ) (n : ℕ) : Type 0 where
  to : Phase
  after : AfterWhole to
  begins : BeginsNumber bs n to

begins_whole : (bs : List ℕ) (n : ℕ) → n ≤ length bs → 0 < n → (get_or bs 0 0 ≡ 48 → n ≡ 1)
    → n ≡ digit_count bs → Begins bs n
begins_whole bs n l s z e = by_test (get_or bs 0 0 == 48) refl
  where
    by_test : (t : Bool) → (get_or bs 0 0 == 48) ≡ t → Begins bs n
    by_test true f =
        let i : get_or bs 0 0 ≡ 48 = grind (arith, nat_tests) in
        record {
          to = Phase.lone_zero;
          after = AfterWhole.zero;
          begins = subst (λ k. BeginsNumber bs k Phase.lone_zero) (sym (z i)) (zero_begins bs n e s i);
        }
    by_test false f = record {
      to = Phase.whole;
      after = AfterWhole.whole;
      begins = whole_begins bs n e l s (grind (arith, nat_tests));
    }

int_of : (bs : List ℕ) (n : ℕ) → 0 < n → (get_or bs 0 0 ≡ 48 → n ≡ 1) → n ≤ digit_count bs → IsInt (take n bs)
int_of [] n s z h = absurd (omega arith)
int_of (b ∷ bs) zero s z h = absurd (omega arith)
int_of (b ∷ bs) (suc n) s z h = by_test (b == 48) refl (digits_are (suc n) (b ∷ bs) h)
  where
    by_test : (t : Bool) → (b == 48) ≡ t → AreDigits (b ∷ take n bs) → IsInt (b ∷ take n bs)
    by_test true f g =
        let i : b ≡ 48 = grind (arith, nat_tests) in
        let j : suc n ≡ 1 = z i in
        let k : n ≡ 0 = omega arith in
        rw (i, k) IsInt.zero
    by_test false f (AreDigits.more d ds) = IsInt.nonzero (grind (arith, nat_tests)) d ds

frac_of : (ds : List ℕ) → AreDigits ds → 0 < length ds → IsFrac (46 ∷ ds) ds
frac_of [] h l = absurd (omega arith)
frac_of (d ∷ ds) (AreDigits.more h hs) l = IsFrac.digits h hs

-- a number without an exponent that has few digits is exactly a count
fixed_plain : (w f ds : List ℕ) (size : ℕ) → IsInt w → IsFrac f ds → length w ≤ 7 → length ds ≤ 12
    → size ≡ number (w ++ ds) * 10 ^ (12 - length ds) → size < 2 ^ 64 → fixed (w ++ (f ++ [])) ≡ Some (pos size, false)
unfolding fixed
fixed_plain w f ds size i g l m e s =
    let p = parts false w ds false [] in
    let short : FitsOneWord p 12 = record { plain = refl; exact = m; fits = omega arith } in
    ap fixed_parts (parts_found (HasParts.positive i g IsExp.none))
    ∙ sym (counted_is p (Some size) false (short_rounds p 12 size short e (omega arith)))

no_digit : (b c : ℕ) → b ≡ c → (c < 48) → is_digit b ≡ false
no_digit b c e l = grind (arith, nat_tests)

end_no_digit : (b : ℕ) → (b ≡ 44) ⊎ (b ≡ 93) → is_digit b ≡ false
end_no_digit b (inl e) = no_digit b 44 e (omega arith)
end_no_digit b (inr e) = grind (arith, nat_tests)

-- where the byte behind it is a comma
pub counted_run : {bs : List ℕ} {n : ℕ} {count : ℤ} → IsEndedRun bs n count → get_or bs n 0 ≡ 44
    → IsCountedRun bs n count
counted_run is comma =
    record { to = is.to; begins = is.begins; within = is.within; comma = comma; exact = is.exact }

-- digits and an end
pub ended_whole : (bs : List ℕ) (n v size : ℕ) → WritesDigits 0 bs n v → 0 < n → n ≤ 7
    → (get_or bs 0 0 ≡ 48 → n ≡ 1) → n < length bs → (get_or bs n 0 ≡ 44) ⊎ (get_or bs n 0 ≡ 93) → size ≡ v * 10 ^ 12
    → IsEndedRun bs n (pos size)
ended_whole bs n v size w s few z within end e =
    let all = ends_here n bs w.digits within (end_no_digit (get_or bs n 0) end) in
    let b = begins_whole bs n w.within s z all in
    let t = take n bs in
    let l : length t ≡ n = length-take-le n bs w.within in
    let size_is : size ≡ number (t ++ []) * 10 ^ 12 =
    e ∙ ap (λ y. y * 10 ^ 12) (w.value_is ∙ ap number (sym (append-nil t))) in
    let fits = whole_fits bs n v w few in
    record {
      to = b.to;
      begins = b.begins;
      within = within;
      end = end;
      exact = ap fixed (sym (append-nil t)) ∙ fixed_plain t [] [] size (int_of bs n s z w.digits) IsFrac.none (omega
          arith) (omega arith) size_is (omega arith);
    }

pub run_whole : (bs : List ℕ) (n v size : ℕ) → WritesDigits 0 bs n v → 0 < n → n ≤ 7 → (get_or bs 0 0 ≡ 48 → n ≡ 1)
    → n < length bs → get_or bs n 0 ≡ 44 → size ≡ v * 10 ^ 12 → IsCountedRun bs n (pos size)
run_whole bs n v size w s few z within comma e =
    counted_run (ended_whole bs n v size w s few z within (inl comma) e) comma

-- and with a fraction
written : (bs : List ℕ) (n v m x : ℕ) → IsWhole bs n v → WritesDigits v (drop (n + 1) bs) m x
    → x ≡ number (take n bs ++ take m (drop (n + 1) bs))
written bs n v m x w f = f.value_is ∙ ap (λ z. number_from z (take m (drop (n + 1) bs))) w.writes.value_is
    ∙ sym (from_append 0 (take n bs) (take m (drop (n + 1) bs)))

pub fraction_fits : (bs : List ℕ) (n v m x : ℕ) → IsWhole bs n v → WritesDigits v (drop (n + 1) bs) m x → m ≤ 12
    → x * 10 ^ (12 - m) < 2 ^ 64
fraction_fits bs n v m x w f l =
    let a = take n bs in
    let ds = take m (drop (n + 1) bs) in
    let i : length a ≡ n = length-take-le n bs w.writes.within in
    let j : length ds ≡ m = length-take-le m (drop (n + 1) bs) f.within in
    let k : length (a ++ ds) ≡ n + m = length-append a ds ∙ omega arith in
    let small : number (a ++ ds) < 10 ^ length (a ++ ds) =
    below (joined (digits_are n bs w.writes.digits) (digits_are m (drop (n + 1) bs) f.digits)) in
    let under : x < 10 ^ (n + m) =
    subst (λ z. x < 10 ^ z) k (subst (λ z. z < 10 ^ length (a ++ ds)) (sym (written bs n v m x w f)) small) in
    size_small x n m 12 under l (omega (arith, w.few))

-- the bytes of such a number
fraction_token : (bs : List ℕ) (n m : ℕ) → n < length bs → get_or bs n 0 ≡ 46
    → take (n + 1 + m) bs ≡ take n bs ++ ((46 ∷ take m (drop (n + 1) bs)) ++ [])
fraction_token bs n m l p =
    let ds = take m (drop (n + 1) bs) in
    take-add (n + 1) m bs ∙ ap (λ z. z ++ ds) (one_more n bs l ∙ ap (λ z. take n bs ++ z ∷ []) p)
    ∙ append_assoc (take n bs) (46 ∷ []) ds ∙ ap (λ z. take n bs ++ z) (sym (append-nil (46 ∷ ds)))

pub ended_fraction : (bs : List ℕ) (n v m x size : ℕ) → IsWhole bs n v → WritesDigits v (drop (n + 1) bs) m x → 0 < m
    → m ≤ 12 → n + 1 + m < length bs → (get_or bs (n + 1 + m) 0 ≡ 44) ⊎ (get_or bs (n + 1 + m) 0 ≡ 93)
    → size ≡ x * 10 ^ (12 - m) → IsEndedRun bs (n + 1 + m) (pos size)
ended_fraction bs n v m x size w f some few within end e =
    let rest = drop (n + 1) bs in
    let a = take n bs in
    let ds = take m rest in
    let digits : n ≡ digit_count bs =
    ends_here n bs w.writes.digits w.within (no_digit (get_or bs n 0) 46 w.point (omega arith)) in
    let b = begins_whole bs n w.writes.within w.some w.zero digits in
    let behind : drop 1 (drop n bs) ≡ rest = drop-drop 1 n bs in
    let last : is_digit (get_or rest m 0) ≡ false = subst (λ z. is_digit z ≡ false)
    (sym (get_or-drop (n + 1) bs m 0)) (end_no_digit (get_or bs (n + 1 + m) 0) end) in
    let fraction_digits : m ≡ digit_count rest =
    ends_here m rest f.digits (omega (arith, length-drop (n + 1) bs)) last in
    let point : get_or (drop n bs) 0 0 ≡ 46 =
    get_or-drop n bs 0 0 ∙ ap (λ z. get_or bs z 0) (let i : n + 0 ≡ n = omega arith in i) ∙ w.point in
    let ends = fraction_ends b.to (drop n bs) m b.after (omega (arith, length-drop n bs, w.within)) point
    (fraction_digits ∙ ap digit_count (sym behind)) (subst (λ z. m ≤ length z) (sym behind) f.within) some in
    let all : n + (1 + m) ≡ n + 1 + m = omega arith in
    let l : length a ≡ n = length-take-le n bs w.writes.within in
    let k : length ds ≡ m = length-take-le m rest f.within in
    let size_is : size ≡ number (a ++ ds) * 10 ^ (12 - length ds) =
    e ∙ ap (λ z. z * 10 ^ (12 - m)) (written bs n v m x w f) ∙ ap (λ z. number (a ++ ds) * 10 ^ (12 - z)) (sym k) in
    let fits = fraction_fits bs n v m x w f few in
    record {
      to = Phase.fraction;
      begins =
          subst (λ z. BeginsNumber bs z Phase.fraction) all
          (number_then b.to Phase.fraction bs n (1 + m) b.begins ends);
      within = within;
      end = end;
      exact = ap fixed (fraction_token bs n m w.within w.point)
          ∙ fixed_plain a (46 ∷ ds) ds size (int_of bs n w.some w.zero w.writes.digits)
          (frac_of ds (digits_are m rest f.digits) (omega arith)) (omega (arith, w.few))
          (omega arith) size_is (omega arith);
    }

pub run_fraction : (bs : List ℕ) (n v m x size : ℕ) → IsWhole bs n v → WritesDigits v (drop (n + 1) bs) m x → 0 < m
    → m ≤ 12 → n + 1 + m < length bs → get_or bs (n + 1 + m) 0 ≡ 44 → size ≡ x * 10 ^ (12 - m)
    → IsCountedRun bs (n + 1 + m) (pos size)
run_fraction bs n v m x size w f some few within comma e =
    counted_run (ended_fraction bs n v m x size w f some few within (inl comma) e) comma
