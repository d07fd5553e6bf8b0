-- A tally of digits, one digit further, and what it rounds to.
use Rattle.std.specs.Prelude.{nat_lt, ◌-◌, ◌*◌, ◌^◌, ◌==◌, not, ◌⊎◌}
use Rattle.std.proofs.Common.{◌≡◌, ◌≢◌, ℕ, zero, suc, ◌+◌, ◌<◌, ◌≤◌, Option, true, false, inl, inr, refl, sym, ◌∙◌, ap}
use Rattle.std.proofs.Common.{subst, arith, pow-add, List, [], ◌∷◌, ◌++◌, length, take, get_or}
use Rattle.std.proofs.Math.Nat.{pow-suc, mul-pos, mul-lt-mul_of_pos_right}
use Rattle.std.proofs.lemmas.Bool.Decides.{nat_tests}
use Rattle.decimal_numbers.specs.Scaling.{IsRounded, SizeIs, Rounds}
use Rattle.decimal_numbers.specs.Tallies.{IsTally, TailIs}
use Rattle.decimal_numbers.specs.declared.tally.Tail.{Tail}
use Rattle.decimal_numbers.specs.declared.tally.Tail.TheVariants.{Empty, Zero, Low, High}
use Rattle.decimal_numbers.specs.declared.tally.Tally.{Tally}
use Rattle.std.proofs.lemmas.List.{take_more}
use Rattle.decimal_numbers.specs.Decimal.{number, number_from}
use Rattle.decimal_numbers.proofs.Rounding.{scaled, ten_positive, from_append}

-- a dropped digit more, behind each kind of tail
pub low_more : (w r d : ℕ) → d ≤ 9 → TailIs Low w r → TailIs Low (w * 10) (r * 10 + d)
low_more w r d h t = let e = t.1 in let f = t.2 in let g = t.3 in (w, omega arith, omega arith, omega arith)

pub high_more : (w r d : ℕ) → d ≤ 9 → TailIs High w r → TailIs High (w * 10) (r * 10 + d)
high_more w r d h t = let e = t.1 in let f = t.2 in let g = t.3 in (w, omega arith, omega arith, omega arith)

pub zero_more : (w r d : ℕ) → d ≡ 0 → TailIs Zero w r → TailIs Zero (w * 10) (r * 10 + d)
zero_more w r d h t = let e = t.1 in let f = t.2 in (w, omega arith, omega arith)

pub zero_ends : (w r d : ℕ) → 0 < w → d ≤ 9 → d ≢ 0 → TailIs Zero w r → TailIs Low (w * 10) (r * 10 + d)
zero_ends w r d p h n t = let e = t.1 in let f = t.2 in (w, omega arith, omega arith, omega arith)

regroup : (c w : ℕ) → c * (w * 10) ≡ c * w * 10
regroup c w = grind arith

split_more : (n c w r d : ℕ) → n ≡ c * w + r → n * 10 + d ≡ c * (w * 10) + (r * 10 + d)
split_more n c w r d e = let f = regroup c w in omega arith

-- no digit is left to keep: the next one is dropped
pub drop_digit : (old new : Tally) (d keep n count : ℕ) → old.left ≡ 0 → new.left ≡ 0 → new.kept ≡ old.kept
    → ((w r : ℕ) → 0 < w → TailIs old.tail w r → TailIs new.tail (w * 10) (r * 10 + d)) → IsTally old keep n count
    → IsTally new keep (n * 10 + d) (count + 1)
drop_digit old new d keep n count e f k more t =
    let places = t.places in
    record {
      c = t.c;
      r = t.r * 10 + d;
      dropped = suc t.dropped;
      splits = split_more n t.c (10 ^ t.dropped) t.r d t.splits
          ∙ ap (λ z. t.c * z + (t.r * 10 + d)) (sym (pow-suc 10 t.dropped));
      tail = subst (λ z. TailIs new.tail z (t.r * 10 + d)) (sym (pow-suc 10 t.dropped))
          (more (10 ^ t.dropped) t.r (ten_positive t.dropped) t.tail);
      kept = subst (λ z. SizeIs z t.c) (sym k) t.kept;
      places = omega arith;
      order = λ h. absurd (omega arith);
    }

-- where digits are left to keep, none was dropped
pub undropped : (tail : Tail) (j r : ℕ) → j ≡ 0 → TailIs tail (10 ^ j) r → (tail ≡ Empty) × (r ≡ 0)
undropped Empty j r e t = (refl, t.1)
undropped Zero j r e t = let w : 10 ^ j ≡ 1 = ap (λ z. 10 ^ z) e in let f = t.1 in absurd (omega arith)
undropped Low j r e t = let w : 10 ^ j ≡ 1 = ap (λ z. 10 ^ z) e in let f = t.1 in absurd (omega arith)
undropped High j r e t = let w : 10 ^ j ≡ 1 = ap (λ z. 10 ^ z) e in let f = t.1 in absurd (omega arith)

kept_all : (n c j r : ℕ) → j ≡ 0 → r ≡ 0 → n ≡ c * 10 ^ j + r → n ≡ c
kept_all n c j r e f h = let w : 10 ^ j ≡ 1 = ap (λ z. 10 ^ z) e in let g : c * 10 ^ j ≡ c * 1 = ap (λ z. c * z) w in
    omega arith

pub keep_digit : (old new : Tally) (d keep n count : ℕ) → old.left ≡ new.left + 1 → new.tail ≡ old.tail
    → ((c : ℕ) → SizeIs old.kept c → SizeIs new.kept (c * 10 + d)) → IsTally old keep n count
    → IsTally new keep (n * 10 + d) (count + 1)
keep_digit old new d keep n count e f more t =
    let places = t.places in
    let none : t.dropped ≡ 0 = t.order (omega arith) in
    let clear = undropped old.tail t.dropped t.r none t.tail in
    let all : n ≡ t.c = kept_all n t.c t.dropped t.r none clear.1 t.splits in
    record {
      c = t.c * 10 + d;
      r = 0;
      dropped = 0;
      splits = omega arith;
      tail = subst (λ z. TailIs z 1 0) (sym (f ∙ clear.0)) (refl, refl);
      kept = more t.c t.kept;
      places = omega arith;
      order = λ _. refl;
    }

-- what the tails come to, against half of the weight
pub exact_rounds : (c b : ℕ) → 0 < b → IsRounded (c * b) b c
exact_rounds c b h = record { low = omega arith; high = grind arith }

low_rounds : (c w r t : ℕ) → w ≡ 10 * t → r < 5 * t → IsRounded (c * w + r) w c
low_rounds c w r t e h = record { low = omega arith; high = grind arith }

high_rounds : (c w r t : ℕ) → w ≡ 10 * t → 5 * t ≤ r → r < w → IsRounded (c * w + r) w (c + 1)
high_rounds c w r t e h g = record { low = grind arith; high = grind arith }

pub same_false : (x a : ℕ) → x ≡ a → false ≡ not (x == a)
same_false x a e = grind (arith, nat_tests)

pub other_true : (x a : ℕ) → x ≢ a → true ≡ not (x == a)
other_true x a n = grind (arith, nat_tests)

moved : (c a b : ℕ) → c * 10 ^ a * 10 ^ b ≡ c * 10 ^ (a + b)
moved c a b = rw (pow-add 10 a b) (grind arith)

-- nothing but zeros was dropped: the kept number, with the powers of ten that it lacks, is exact
exact_here : (n c j left r keep count p q : ℕ) → r ≡ 0 → n ≡ c * 10 ^ j + r → count + left ≡ keep + j
    → keep + q ≡ count + p → n * 10 ^ p ≡ c * 10 ^ left * 10 ^ q
exact_here n c j left r keep count p q z s e k =
    let plain : n ≡ c * 10 ^ j = omega arith in
    let sums : j + p ≡ left + q = omega arith in
    ap (λ x. x * 10 ^ p) plain ∙ moved c j p ∙ ap (λ x. c * 10 ^ x) sums ∙ sym (moved c left q)

pub finish_exact : (tally : Tally) (size : Option ℕ) (keep n count p q : ℕ)
    → ((c : ℕ) → SizeIs tally.kept c → SizeIs size (c * 10 ^ tally.left)) → keep + q ≡ count + p
    → (t : IsTally tally keep n count) → t.r ≡ 0 → Rounds (n * 10 ^ p) (10 ^ q) size false
finish_exact tally size keep n count p q f k t z =
    let e : n * 10 ^ p ≡ t.c * 10 ^ tally.left * 10 ^ q =
    exact_here n t.c t.dropped tally.left t.r keep count p q z t.splits t.places k in
    record {
      c = t.c * 10 ^ tally.left;
      rounded = subst (λ a. IsRounded a (10 ^ q) (t.c * 10 ^ tally.left)) (sym e)
          (exact_rounds (t.c * 10 ^ tally.left) (10 ^ q) (ten_positive q));
      size_is = f t.c t.kept;
      differs_is = same_false (t.c * 10 ^ tally.left * 10 ^ q) (n * 10 ^ p) (sym e);
    }

pub no_rest : (tail : Tail) (w r : ℕ) → (tail ≡ Empty) ⊎ (tail ≡ Zero) → TailIs tail w r → r ≡ 0
no_rest Empty w r o t = t.1
no_rest Zero w r o t = t.2
no_rest Low w r o t = absurd (elim o [ inl e ↦ cc | inr e ↦ cc ])
no_rest High w r o t = absurd (elim o [ inl e ↦ cc | inr e ↦ cc ])

no_left : (left j x : ℕ) → (0 < left → j ≡ 0) → 10 ^ j ≡ 10 * x → left ≡ 0
no_left zero j x o e = refl
no_left (suc left) j x o e = let w : 10 ^ j ≡ 1 = ap (λ z. 10 ^ z) (o (omega arith)) in absurd (omega arith)

same_size : (c left : ℕ) → left ≡ 0 → c * 10 ^ left ≡ c
same_size c left e = let w : 10 ^ left ≡ 1 = ap (λ z. 10 ^ z) e in let g : c * 10 ^ left ≡ c * 1 = ap (λ z. c * z) w in
    omega arith

low_differs : (c w r t : ℕ) → 0 < r → 0 < t → c * (w * t) ≢ (c * w + r) * t
low_differs c w r t h g e =
    let m : 0 < r * t = mul-pos h g in
    let a : (c * w + r) * t ≡ c * (w * t) + r * t = grind arith in
    omega arith

high_differs : (c w r t : ℕ) → r < w → 0 < t → (c + 1) * (w * t) ≢ (c * w + r) * t
high_differs c w r t h g e =
    let m : r * t < w * t = mul-lt-mul_of_pos_right h g in
    let a : (c * w + r) * t ≡ c * (w * t) + r * t = grind arith in
    let b : (c + 1) * (w * t) ≡ c * (w * t) + w * t = grind arith in
    omega arith

-- digits that are dropped weigh 10^p with the rest
weighs : (keep count left j p q : ℕ) → left ≡ 0 → count + left ≡ keep + j → keep + q ≡ count + p
    → 10 ^ q ≡ 10 ^ j * 10 ^ p
weighs keep count left j p q z e k = let f : q ≡ j + p = omega arith in ap (λ x. 10 ^ x) f ∙ pow-add 10 j p

rounds_at : (size : Option ℕ) (a w c p b m : ℕ) → b ≡ w * 10 ^ p → m ≡ a * 10 ^ p → IsRounded a w c
    → c * (w * 10 ^ p) ≢ a * 10 ^ p → SizeIs size c → Rounds m b size true
rounds_at size a w c p b m e f r n s = record {
  c = c;
  rounded = subst (λ x. IsRounded m x c) (sym e)
      (subst (λ x. IsRounded x (w * 10 ^ p) c) (sym f) (scaled a w c (10 ^ p) (ten_positive p) r));
  size_is = s;
  differs_is = other_true (c * b) m (λ g. n (ap (λ x. c * x) (sym e) ∙ g ∙ f));
}

pub finish_low : (tally : Tally) (size : Option ℕ) (keep n count p q : ℕ)
    → ((c : ℕ) → SizeIs tally.kept c → SizeIs size (c * 10 ^ tally.left)) → keep + q ≡ count + p → tally.tail ≡ Low
    → IsTally tally keep n count → Rounds (n * 10 ^ p) (10 ^ q) size true
finish_low tally size keep n count p q f k l t =
    let tail : TailIs Low (10 ^ t.dropped) t.r = subst (λ z. TailIs z (10 ^ t.dropped) t.r) l t.tail in
    let left : tally.left ≡ 0 = no_left tally.left t.dropped tail.0 t.order tail.1 in
    rounds_at size (t.c * 10 ^ t.dropped + t.r) (10 ^ t.dropped) t.c p (10 ^ q) (n * 10 ^ p)
    (weighs keep count tally.left t.dropped p q left t.places k) (ap (λ x. x * 10 ^ p) t.splits)
    (low_rounds t.c (10 ^ t.dropped) t.r tail.0 tail.1 tail.3)
    (low_differs t.c (10 ^ t.dropped) t.r (10 ^ p) tail.2 (ten_positive p))
    (subst (SizeIs size) (same_size t.c tally.left left) (f t.c t.kept))

pub finish_high : (tally : Tally) (size : Option ℕ) (keep n count p q : ℕ)
    → ((c : ℕ) → SizeIs tally.kept c → SizeIs size (c + 1)) → keep + q ≡ count + p → tally.tail ≡ High
    → IsTally tally keep n count → Rounds (n * 10 ^ p) (10 ^ q) size true
finish_high tally size keep n count p q f k l t =
    let tail : TailIs High (10 ^ t.dropped) t.r = subst (λ z. TailIs z (10 ^ t.dropped) t.r) l t.tail in
    let left : tally.left ≡ 0 = no_left tally.left t.dropped tail.0 t.order tail.1 in
    rounds_at size (t.c * 10 ^ t.dropped + t.r) (10 ^ t.dropped) (t.c + 1) p (10 ^ q) (n * 10 ^ p)
    (weighs keep count tally.left t.dropped p q left t.places k) (ap (λ x. x * 10 ^ p) t.splits)
    (high_rounds t.c (10 ^ t.dropped) t.r tail.0 tail.1 tail.2 tail.3)
    (high_differs t.c (10 ^ t.dropped) t.r (10 ^ p) tail.3 (ten_positive p))
    (f t.c t.kept)

from_more : (n i : ℕ) (ds : List ℕ) → i < length ds
    → number_from n (take (i + 1) ds) ≡ number_from n (take i ds) * 10 + (get_or ds i 0 - 48)
from_more n i ds h = ap (number_from n) (take_more ds i 0 h) ∙ from_append n (take i ds) (get_or ds i 0 ∷ [])

-- a digit further in a list of them
pub took_more : (old new : Tally) (ds : List ℕ) (i keep n count : ℕ) → i < length ds
    → ((keep n count : ℕ) → IsTally old keep n count → IsTally new keep (n * 10 + (get_or ds i 0 - 48)) (count + 1))
    → IsTally old keep (number_from n (take i ds)) (count + i)
    → IsTally new keep (number_from n (take (i + 1) ds)) (count + (i + 1))
took_more old new ds i keep n count h f t =
    let g : count + i + 1 ≡ count + (i + 1) = omega arith in
    subst (λ z. IsTally new keep (number_from n (take (i + 1) ds)) z) g
    (subst (λ z. IsTally new keep z (count + i + 1)) (sym (from_more n i ds h))
    (f keep (number_from n (take i ds)) (count + i) t))

-- the digits before a point, and then those behind it
pub both : (tally : Tally) (keep : ℕ) (whole fraction : List ℕ)
    → IsTally tally keep (number_from (number_from 0 whole) fraction) (0 + length whole + length fraction)
    → IsTally tally keep (number (whole ++ fraction)) (length whole + length fraction)
both tally keep whole fraction t =
    let g : 0 + length whole + length fraction ≡ length whole + length fraction = omega arith in
    subst (λ z. IsTally tally keep (number (whole ++ fraction)) z) g
    (subst (λ z. IsTally tally keep z (0 + length whole + length fraction)) (sym (from_append 0 whole fraction)) t)

-- where no digit is kept, the dropped ones are all
no_whole : (c w r : ℕ) → c * w + r < w → c ≡ 0
no_whole zero w r h = refl
no_whole (suc c) w r h = let e : suc c * w ≡ c * w + w = grind arith in absurd (omega arith)

all_dropped : (left count j : ℕ) → (0 < left → j ≡ 0) → count + left ≡ 0 + j → j ≡ count
all_dropped zero count j o e = omega arith
all_dropped (suc left) count j o e = let f = o (omega arith) in absurd (omega arith)

vanished : (tally : Tally) (keep n count : ℕ) (t : IsTally tally keep n count) → keep ≡ 0 → n < 10 ^ count → n ≡ t.r
vanished tally keep n count t z h =
    let j : t.dropped ≡ count = all_dropped tally.left count t.dropped t.order (t.places ∙ ap (λ x. x + t.dropped) z) in
    let w : 10 ^ t.dropped ≡ 10 ^ count = ap (λ x. 10 ^ x) j in
    let s = t.splits in
    let c : t.c ≡ 0 = no_whole t.c (10 ^ t.dropped) t.r (omega arith) in
    let m : t.c * 10 ^ t.dropped ≡ 0 * 10 ^ t.dropped = ap (λ x. x * 10 ^ t.dropped) c in
    omega arith

test_false : (n : ℕ) → n ≡ 0 → false ≡ nat_lt 0 n
test_false n h = grind (arith, nat_tests)

test_true : (n : ℕ) → 0 < n → true ≡ nat_lt 0 n
test_true n h = grind (arith, nat_tests)

pub vanish_low : (tally : Tally) (keep n count : ℕ) → tally.tail ≡ Low → IsTally tally keep n count → keep ≡ 0
    → n < 10 ^ count → true ≡ nat_lt 0 n
vanish_low tally keep n count l t z h =
    let tail : TailIs Low (10 ^ t.dropped) t.r = subst (λ y. TailIs y (10 ^ t.dropped) t.r) l t.tail in
    let e = vanished tally keep n count t z h in let f = tail.2 in test_true n (omega arith)

pub vanish_high : (tally : Tally) (keep n count : ℕ) → tally.tail ≡ High → IsTally tally keep n count → keep ≡ 0
    → n < 10 ^ count → true ≡ nat_lt 0 n
vanish_high tally keep n count l t z h =
    let tail : TailIs High (10 ^ t.dropped) t.r = subst (λ y. TailIs y (10 ^ t.dropped) t.r) l t.tail in
    let e = vanished tally keep n count t z h in let f = tail.1 in let g = tail.2 in let i = tail.3 in
    test_true n (omega arith)

other_rest : (tail : Tail) (w r : ℕ) → tail ≢ Low → tail ≢ High → TailIs tail w r → r ≡ 0
other_rest Empty w r a b t = t.1
other_rest Zero w r a b t = t.2
other_rest Low w r a b t = absurd (a refl)
other_rest High w r a b t = absurd (b refl)

pub vanish_zero : (tally : Tally) (keep n count : ℕ) → tally.tail ≢ Low → tally.tail ≢ High → IsTally tally keep n count
    → keep ≡ 0 → n < 10 ^ count → false ≡ nat_lt 0 n
vanish_zero tally keep n count a b t z h = let e = vanished tally keep n count t z h in
    let f = other_rest tally.tail (10 ^ t.dropped) t.r a b t.tail in test_false n (omega arith)
