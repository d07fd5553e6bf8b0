-- Quotients rounded down and up.
use Rattle.std.proofs.Common.{◌*ℤ◌, ◌+ℤ◌, ◌≡◌, ℕ, zero, suc, ◌+◌, ◌*◌, ◌/◌, ◌<◌, ◌≤◌, arith, ℤ, pos, negsuc, neg_ℤ}
use Rattle.std.proofs.Common.{◌<ℤ◌, ◌≤ℤ◌, ap, sym, subst, unsigned_abs}
use Rattle.std.proofs.Math.Nat.{div-le_self}
use borrow.Author.Differences.{up, down, same_in, at_most_in, sum_is_lem, neg_is, product_is, lt_out, le_out}
use Rattle.fixed_num.specs.Floors.{floor_of, ceil_of, floor_quotient, ceil_quotient, IsFloor, IsCeil}
use Rattle.fixed_num.specs.Sums.{sum_below}
use Rattle.fixed_num.proofs.SumLemmas.{sum_below-zero, sum_below-suc}
use Rattle.fixed_num.proofs.SignedLemmas.{signed_arith, at_most_from_scaled, int_div_euclid-parts}

-- a floor is the greatest whole number that is not above the quotient
pub floor_of-greatest : (a q : ℤ) (k : ℕ) → 0 < k → (q *ℤ pos k) ≤ℤ a → q ≤ℤ floor_of a k
floor_of-greatest a q k h l =
    let f = floor_of a k in
    let p = int_div_euclid-parts a k h in
    let m = product_is q (pos k) in
    let o = le_out (q *ℤ pos k) a l in
    at_most_in q f (at_most_from_scaled (up q + down f) (up f + down q) k (omega (arith, p, m, o)))

pub floor_of-le : (a : ℤ) (k : ℕ) → 0 < k → (floor_of a k *ℤ pos k) ≤ℤ a
floor_of-le a k h =
    at_most_in (floor_of a k *ℤ pos k) a (omega (arith, int_div_euclid-parts a k h, product_is (floor_of a k) (pos k)))

pub floor_of_unique : (a q : ℤ) (k : ℕ) → 0 < k → (q *ℤ pos k) ≤ℤ a → a <ℤ (q *ℤ pos k +ℤ pos k) → q ≡ floor_of a k
floor_of_unique a q k h l u =
    let f = floor_of a k in
    let p = int_div_euclid-parts a k h in
    let m = product_is q (pos k) in
    let o = le_out (q *ℤ pos k) a l in
    let t = lt_out a (q *ℤ pos k +ℤ pos k) u in
    let s = sum_is_lem (q *ℤ pos k) (pos k) in
    let one : up q + down f ≤ up f + down q =
    at_most_from_scaled (up q + down f) (up f + down q) k (omega (arith, p, m, o)) in
    let two : up f + down q ≤ up q + down f =
    at_most_from_scaled (up f + down q) (up q + down f) k (omega (arith, p, m, t, s)) in
    same_in q f (omega arith)

-- the floors of two numbers add up to at most the floor of their sum
pub floor_of-add : (a b : ℤ) (k : ℕ) → 0 < k → (floor_of a k +ℤ floor_of b k) ≤ℤ floor_of (a +ℤ b) k
floor_of-add a b k h =
    let x = floor_of a k in
    let y = floor_of b k in
    let z = floor_of (a +ℤ b) k in
    let p = int_div_euclid-parts a k h in
    let q = int_div_euclid-parts b k h in
    let r = int_div_euclid-parts (a +ℤ b) k h in
    let s = sum_is_lem a b in
    let t = sum_is_lem x y in
    let l : up x + up y + down z ≤ up z + down x + down y =
    at_most_from_scaled (up x + up y + down z) (up z + down x + down y) k (omega (arith, p, q, r, s)) in
    at_most_in (x +ℤ y) z (omega (arith, t, l))

-- a greater number has no lesser floor
pub floor_of_mono : (a b : ℤ) (k : ℕ) → 0 < k → a ≤ℤ b → floor_of a k ≤ℤ floor_of b k
floor_of_mono a b k h l =
    let x = floor_of a k in
    let y = floor_of b k in
    let p = int_div_euclid-parts a k h in
    let q = int_div_euclid-parts b k h in
    let o = le_out a b l in
    at_most_in x y (at_most_from_scaled (up x + down y) (up y + down x) k (omega (arith, p, q, o)))

floor_of-zero : (k : ℕ) → floor_of (pos 0) k ≡ pos 0
floor_of-zero k = ap pos (omega arith)

-- the floors of the parts add up to at most the floor of the sum
pub sum_below-floor_of : (n : ℕ) (f : ℕ → ℤ) (k : ℕ) → 0 < k
    → sum_below n (λ i. floor_of (f i) k) ≤ℤ floor_of (sum_below n f) k
sum_below-floor_of zero f k h =
    rw (sum_below-zero (λ i. floor_of (f i) k), sum_below-zero f) (omega (arith, signed_arith))
sum_below-floor_of (suc n) f k h =
    rw (sum_below-suc n (λ i. floor_of (f i) k), sum_below-suc n f) (
    let ih = le_out (sum_below n (λ i. floor_of (f i) k)) (floor_of (sum_below n f) k) (sum_below-floor_of n f k h) in
    let st = le_out (floor_of (sum_below n f) k +ℤ floor_of (f n) k) (floor_of (sum_below n f +ℤ f n) k)
    (floor_of-add (sum_below n f) (f n) k h) in
    let s = sum_is_lem (sum_below n (λ i. floor_of (f i) k)) (floor_of (f n) k) in
    let t = sum_is_lem (floor_of (sum_below n f) k) (floor_of (f n) k) in
    at_most_in (sum_below n (λ i. floor_of (f i) k) +ℤ floor_of (f n) k) (floor_of (sum_below n f +ℤ f n) k)
    (omega (arith, ih, st, s, t)))

-- the floor of a / k is the greatest whole number q with k * q at most a
pub IsFloor-floor_of : (a : ℤ) (k : ℕ) → 0 < k → IsFloor a (pos k) (floor_of a k)
IsFloor-floor_of a k h =
    let f = floor_of a k in
    let p = int_div_euclid-parts a k h in
    record {
      reached = at_most_in (pos k *ℤ f) a (omega (arith, p, product_is (pos k) f));
      greatest = λ r l. at_most_in r f (at_most_from_scaled (up r + down f) (up f + down r) k
          (omega (arith, p, product_is (pos k) r, le_out (pos k *ℤ r) a l)));
    }

-- the ceiling of a / k is the least whole number q with k * q at least a
pub IsCeil-ceil_of : (a : ℤ) (k : ℕ) → 0 < k → IsCeil a (pos k) (ceil_of a k)
IsCeil-ceil_of a k h =
    let f = floor_of (neg_ℤ a) k in
    let p = int_div_euclid-parts (neg_ℤ a) k h in
    let n = neg_is a in
    let m = neg_is f in
    let u = ap (λ (t : ℕ). k * t) m.0 in
    let d = ap (λ (t : ℕ). k * t) m.1 in
    record {
      reached = at_most_in a (pos k *ℤ neg_ℤ f) (omega (arith, p, n, u, d, product_is (pos k) (neg_ℤ f)));
      least = λ r l.
          let o = le_out a (pos k *ℤ r) l in
          let below : down r + down f ≤ up r + up f =
          at_most_from_scaled (down r + down f) (up r + up f) k (omega (arith, p, n, product_is (pos k) r, o)) in
          at_most_in (neg_ℤ f) r (omega (arith, m, below));
    }

-- the same, where the divisor is a whole number above 0
pub IsFloor_from : (a b q : ℤ) → pos 0 <ℤ b → q ≡ floor_quotient a b → IsFloor a b q
IsFloor_from a (pos k) q h e =
    subst (IsFloor a (pos k)) (sym e) (IsFloor-floor_of a k (omega (arith, lt_out (pos 0) (pos k) h)))
IsFloor_from a (negsuc k) q h e = absurd (omega (arith, lt_out (pos 0) (negsuc k) h))

pub IsCeil_from : (a b q : ℤ) → pos 0 <ℤ b → q ≡ ceil_quotient a b → IsCeil a b q
IsCeil_from a (pos k) q h e =
    subst (IsCeil a (pos k)) (sym e) (IsCeil-ceil_of a k (omega (arith, lt_out (pos 0) (pos k) h)))
IsCeil_from a (negsuc k) q h e = absurd (omega (arith, lt_out (pos 0) (negsuc k) h))

-- a quotient by a natural number above 0 is no larger in absolute value
pub floor_size : (a : ℤ) (k : ℕ) → 1 ≤ k → unsigned_abs (floor_of a k) ≤ unsigned_abs a
floor_size (pos a) k h = div-le_self a k
floor_size (negsuc a) k h = omega (arith, div-le_self a k)

-- a quotient of a number that is at most m times the divisor is at most m, in absolute value
pub floor_within : (a : ℤ) (k m : ℕ) → 1 ≤ k → unsigned_abs a ≤ m * k → unsigned_abs (floor_of a k) ≤ m
floor_within (pos a) k m some h =
    let q : a / k * k ≤ a = omega arith in
    at_most_from_scaled (a / k) m k (omega (arith, q, h))
floor_within (negsuc a) k m some h =
    let q : a / k * k ≤ a = omega arith in
    let l : a / k + 1 ≤ m = at_most_from_scaled (a / k + 1) m k (omega (arith, q, h)) in
    omega (arith, l)
