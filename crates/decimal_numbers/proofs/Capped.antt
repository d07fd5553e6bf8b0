-- An exponent that is capped at 10^20, and a number that vanishes before the last place.
use Rattle.std.specs.Prelude.{◌-◌, ◌*◌, ◌^◌, ◌==◌, not, nat_lt, min, ◌⊎◌}
use Rattle.std.proofs.Common.{◌≡◌, ℕ, zero, suc, ◌+◌, ◌<◌, ◌≤◌, List, [], ◌∷◌, ◌++◌, length, Option, Some, None, Bool}
use Rattle.std.proofs.Common.{true, false, inl, inr, refl, sym, ◌∙◌, ap, subst, arith, pow-add, length-append}
use Rattle.std.proofs.Math.Nat.{mul-pos, mul-le-mul_right, mul-lt-mul_of_pos_right}
use Rattle.std.proofs.lemmas.Bool.Decides.{nat_tests}
use Rattle.json_grammar.specs.Grammar.{AreDigits, IsInt, IsFrac, IsExp, Parts, HasParts}
use Rattle.decimal_numbers.specs.Decimal.{number, numerator, denominator}
use Rattle.decimal_numbers.specs.Scaling.{AreAllDigits, HasDigits, IsRounded, SizeIs, Rounds}
use Rattle.decimal_numbers.proofs.Rounding.{only, below, ten_positive}
use Rattle.decimal_numbers.proofs.Tallying.{exact_rounds, same_false, other_true}

-- digits by place, and one after another
pub listed : (ds : List ℕ) → AreAllDigits ds → AreDigits ds
listed [] h = AreDigits.none
listed (d ∷ ds) h = AreDigits.more (h 0 (omega arith)) (listed ds (λ i l. h (suc i) (omega arith)))

pub by_place : {ds : List ℕ} → AreDigits ds → AreAllDigits ds
by_place AreDigits.none i l = absurd (omega arith)
by_place (AreDigits.more h hs) zero l = h
by_place (AreDigits.more h hs) (suc i) l = by_place hs i (omega arith)

pub joined : {a b : List ℕ} → AreDigits a → AreDigits b → AreDigits (a ++ b)
joined AreDigits.none g = g
joined (AreDigits.more h hs) g = AreDigits.more h (joined hs g)

-- where zeros are added, nothing is rounded
pub whole_power : (n p q : ℕ) → q ≤ p → n * 10 ^ p ≡ n * 10 ^ (p - q) * 10 ^ q
whole_power n p q h =
    let s : p ≡ (p - q) + q = omega arith in
    ap (λ z. n * 10 ^ z) s ∙ ap (λ z. n * z) (pow-add 10 (p - q) q) ∙ regroup n (10 ^ (p - q)) (10 ^ q)
  where
    regroup : (n a b : ℕ) → n * (a * b) ≡ n * a * b
    regroup n a b = grind arith

twenty : (n k : ℕ) → 0 < n → 20 ≤ k → 10 ^ 20 ≤ n * 10 ^ k
twenty n k h l =
    let e : 10 ^ k ≡ 10 ^ (k - 20) * 10 ^ 20 =
    ap (λ z. 10 ^ z) (let f : k ≡ (k - 20) + 20 = omega arith in f) ∙ pow-add 10 (k - 20) 20 in
    let a : 1 * 10 ^ 20 ≤ 10 ^ (k - 20) * 10 ^ 20 = mul-le-mul_right (10 ^ 20) (ten_positive (k - 20)) in
    let b : 1 * 10 ^ k ≤ n * 10 ^ k = mul-le-mul_right (10 ^ k) h in
    omega arith

large_size : (size : Option ℕ) (c c' : ℕ) → SizeIs size c → 10 ^ 20 ≤ c → 10 ^ 20 ≤ c' → SizeIs size c'
large_size None c d s h g = g
large_size (Some v) c d s h g = let e = s.0 in let f = s.1 in absurd (omega arith)

scaled_alike : (n i j : ℕ) (size : Option ℕ) → 20 ≤ i → 20 ≤ j → SizeIs size (n * 10 ^ i) → SizeIs size (n * 10 ^ j)
scaled_alike zero i j size h g s = subst (SizeIs size) (nothing (10 ^ i) (10 ^ j)) s
  where
    nothing : (a b : ℕ) → 0 * a ≡ 0 * b
    nothing a b = grind arith
scaled_alike (suc n) i j size h g s = large_size size (suc n * 10 ^ i) (suc n * 10 ^ j) s
    (twenty (suc n) i (omega arith) h) (twenty (suc n) j (omega arith) g)

-- twenty zeros more than there are places make a number too large, and so do more of them
pub capped : (n p q more : ℕ) (size : Option ℕ) (differs : Bool) → q + 20 ≤ p
    → Rounds (n * 10 ^ p) (10 ^ q) size differs → Rounds (n * 10 ^ (p + more)) (10 ^ q) size differs
capped n p q more size differs h r =
    let e : n * 10 ^ p ≡ n * 10 ^ (p - q) * 10 ^ q = whole_power n p q (omega arith) in
    let f : n * 10 ^ (p + more) ≡ n * 10 ^ (p + more - q) * 10 ^ q = whole_power n (p + more) q (omega arith) in
    let exact : IsRounded (n * 10 ^ p) (10 ^ q) (n * 10 ^ (p - q)) = subst
    (λ a. IsRounded a (10 ^ q) (n * 10 ^ (p - q))) (sym e)
    (exact_rounds (n * 10 ^ (p - q)) (10 ^ q) (ten_positive q)) in
    let c : r.c ≡ n * 10 ^ (p - q) = only (n * 10 ^ p) (10 ^ q) r.c (n * 10 ^ (p - q)) r.rounded exact in
    let was : false ≡ not (r.c * 10 ^ q == n * 10 ^ p) =
    same_false (r.c * 10 ^ q) (n * 10 ^ p) (ap (λ z. z * 10 ^ q) c ∙ sym e) in
    record {
      c = n * 10 ^ (p + more - q);
      rounded = subst (λ a. IsRounded a (10 ^ q) (n * 10 ^ (p + more - q))) (sym f)
          (exact_rounds (n * 10 ^ (p + more - q)) (10 ^ q) (ten_positive q));
      size_is =
          scaled_alike n (p - q) (p + more - q) size (omega arith) (omega arith) (subst (SizeIs size) c r.size_is);
      differs_is = r.differs_is ∙ sym was ∙ same_false (n * 10 ^ (p + more - q) * 10 ^ q) (n * 10 ^ (p + more)) (sym f);
    }

min_low : (x m : ℕ) → x ≤ m → min x m ≡ x
min_low x m h = omega arith

-- an exponent that is capped rounds alike
pub raised : (n x places q : ℕ) (size : Option ℕ) (differs : Bool) → q < 2 ^ 64
    → Rounds (n * 10 ^ (min x (10 ^ 20) + places)) (10 ^ q) size differs
    → Rounds (n * 10 ^ (x + places)) (10 ^ q) size differs
raised n x places q size differs h r =
    elim (cases x) [
      | inl l ↦ subst (λ z. Rounds (n * 10 ^ (z + places)) (10 ^ q) size differs) (min_low x (10 ^ 20) l) r
      | inr l ↦
          let m : min x (10 ^ 20) ≡ 10 ^ 20 = omega arith in
          let e : 10 ^ 20 + places + (x - 10 ^ 20) ≡ x + places = omega arith in
          subst (λ z. Rounds (n * 10 ^ z) (10 ^ q) size differs) e
          (capped n (10 ^ 20 + places) q (x - 10 ^ 20) size differs (omega arith)
          (subst (λ z. Rounds (n * 10 ^ (z + places)) (10 ^ q) size differs) m r))
    ]
  where
    cases : (x : ℕ) → (x ≤ 10 ^ 20) ⊎ (10 ^ 20 < x)
    cases x = grind arith

times : (n a b c d m : ℕ) → n < a → d ≡ a * b * 10 * c → 0 < c → 0 < b → 2 * (n * b) < d
times n a b c d m h e k l =
    let f : n * b < a * b = mul-lt-mul_of_pos_right h l in
    let g : a * b * 10 * 1 ≤ a * b * 10 * c = larger (a * b * 10) c k in
    omega arith
  where
    larger : (x c : ℕ) → 0 < c → x * 1 ≤ x * c
    larger x zero k = absurd (omega arith)
    larger x (suc c) k = let e : x * suc c ≡ x * c + x = grind arith in omega arith

-- a number of so many digits before a point that lies further to the left rounds to 0
pub vanishes : (n count places q : ℕ) (differs : Bool) → n < 10 ^ count → count + places < q → differs ≡ nat_lt 0 n
    → Rounds (n * 10 ^ (0 + places)) (10 ^ q) (Some 0) differs
vanishes n count places q differs h l e =
    let s : q ≡ count + places + 1 + (q - (count + places + 1)) = omega arith in
    let d : 10 ^ q ≡ 10 ^ count * 10 ^ places * 10 * 10 ^ (q - (count + places + 1)) = ap (λ z. 10 ^ z) s
    ∙ pow-add 10 (count + places + 1) (q - (count + places + 1))
    ∙ ap (λ z. z * 10 ^ (q - (count + places + 1)))
    (pow-add 10 (count + places) 1 ∙ ap (λ z. z * 10) (pow-add 10 count places)) in
    let p : 0 + places ≡ places = omega arith in
    let t : 2 * (n * 10 ^ places) < 10 ^ q = times n (10 ^ count) (10 ^ places) (10 ^ (q - (count + places + 1)))
    (10 ^ q) 0 h d (ten_positive (q - (count + places + 1))) (ten_positive places) in
    subst (λ z. Rounds (n * 10 ^ z) (10 ^ q) (Some 0) differs) (sym p)
    (record {
      c = 0;
      rounded = record { low = omega arith; high = omega arith };
      size_is = (refl, omega arith);
      differs_is = e ∙ tests n (10 ^ places) (10 ^ q) (ten_positive places);
    })
  where
    tests : (n b d : ℕ) → 0 < b → nat_lt 0 n ≡ not (0 * d == n * b)
    tests zero b d k = same_false (0 * d) (0 * b) (grind arith)
    tests (suc n) b d k = (let t : nat_lt 0 (suc n) ≡ true = grind (arith, nat_tests) in t)
        ∙ other_true (0 * d) (suc n * b) (let m : 0 < suc n * b = mul-pos (omega arith) k in
        λ e. absurd (let z : 0 * d ≡ 0 = grind arith in omega arith))

-- the parts of a token, with each sign of the exponent
pub not_shrunk : (p : Parts) (places : ℕ) (size : Option ℕ) (differs : Bool) → p.shrinks ≡ false
    → length p.fraction < 2 ^ 64
    → Rounds (number (p.whole ++ p.fraction) * 10 ^ (min (number p.exponent) (10 ^ 20) + places)) (10 ^
    (0 + length p.fraction)) size differs → Rounds (numerator p places) (denominator p) size differs
not_shrunk p places size differs e l r = rw e (raised (number (p.whole ++ p.fraction)) (number p.exponent) places
    (0 + length p.fraction) size differs (omega arith) r)

pub shrunk : (p : Parts) (places : ℕ) (size : Option ℕ) (differs : Bool) → p.shrinks ≡ true
    → Rounds (number (p.whole ++ p.fraction) * 10 ^ (0 + places)) (10 ^ (number p.exponent + length p.fraction)) size
    differs → Rounds (numerator p places) (denominator p) size differs
shrunk p places size differs e r = rw e r

-- digits write less than their number of places allows
pub fewer : (p : Parts) → HasDigits p → number (p.whole ++ p.fraction) < 10 ^ (length p.whole + length p.fraction)
fewer p h = let f = below (joined (listed p.whole h.whole) (listed p.fraction h.fraction)) in
    subst (λ z. number (p.whole ++ p.fraction) < 10 ^ z) (length-append p.whole p.fraction) f

int_digits : {w : List ℕ} → IsInt w → AreDigits w
int_digits IsInt.zero = AreDigits.more (record { low = omega arith; high = omega arith }) AreDigits.none
int_digits (IsInt.nonzero n h hs) = AreDigits.more h hs

frac_digits : {f ds : List ℕ} → IsFrac f ds → AreDigits ds
frac_digits IsFrac.none = AreDigits.none
frac_digits (IsFrac.digits h hs) = AreDigits.more h hs

exp_digits : {e xs : List ℕ} {below : Bool} → IsExp e below xs → AreDigits xs
exp_digits IsExp.none = AreDigits.none
exp_digits (IsExp.plain m h hs) = AreDigits.more h hs
exp_digits (IsExp.signed m g h hs) = AreDigits.more h hs

pub has_digits : {s : List ℕ} {p : Parts} → HasParts s p → HasDigits p
has_digits (HasParts.positive i g x) =
    record { whole = by_place (int_digits i); fraction = by_place (frac_digits g); exponent = by_place (exp_digits x) }
has_digits (HasParts.negative i g x) =
    record { whole = by_place (int_digits i); fraction = by_place (frac_digits g); exponent = by_place (exp_digits x) }
