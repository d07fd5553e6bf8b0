-- Sums over the periods of fractions, brought to one denominator.
use Rattle.std.proofs.Common.{◌≡◌, ℕ, zero, suc, ◌+◌, ◌*◌, ◌/◌, ◌<◌, ◌≤◌, refl, sym, ◌∙◌, ap, subst, arith, ℤ, pos}
use Rattle.std.proofs.Common.{◌*ℤ◌, ◌≤ℤ◌, Bool, true, false, ltb}
use Rattle.std.proofs.Math.Nat.{mul_assoc, mul_comm, mul_right_comm, mul-le-mul_left}
use Rattle.std.proofs.lemmas.Nat.{div-mul-add}
use Rattle.std.proofs.lemmas.Bool.Decides.{nat_tests}
use borrow.Author.Differences.{up, down, same_in, at_most_in, le_out, product_is}
use Rattle.fixed_num.specs.Sums.{sum_below}
use Rattle.fixed_num.specs.Floors.{floor_of, ceil_of}
use Rattle.fixed_num.proofs.SignedLemmas.{signed_arith}
use Rattle.fixed_num.proofs.SumLemmas.{sum_below_mono, sum_below-scale}
use Rattle.fixed_num.proofs.FloorLemmas.{floor_of-le, IsCeil-ceil_of}
use Rattle.instance_model.specs.Naturals.{count_product}
use Rattle.instance_model.specs.Tables.{Tables, scenarios_of}
use Rattle.instance_model.specs.Exact.{scenario_product, sum_of_quotients, Encloses}
use Rattle.instance_model.proofs.DeviationLemmas.{scale_mono, mul-add}

-- ---- a product is a multiple of each factor
divides : (n : ℕ) (f : ℕ → ℕ) (k : ℕ) → k < n → (q : ℕ) × (count_product n f ≡ q * f k)
unfolding count_product
divides zero f k l = absurd (omega (arith, l))
divides (suc n) f k l = at (ltb k n) refl (λ m. divides n f k m)
  where
    at : (b : Bool) → ltb k n ≡ b → (k < n → (q : ℕ) × (count_product n f ≡ q * f k))
        → (q : ℕ) × (count_product n f * f n ≡ q * f k)
    at true e ih = let w = ih (grind (arith, nat_tests)) in
        (w.0 * f n, ap (λ (x : ℕ). x * f n) w.1 ∙ mul_right_comm w.0 (f k) (f n))
    at false e ih = let m : k ≡ n = grind (arith, nat_tests) in
        (count_product n f, ap (λ (j : ℕ). count_product n f * f j) (sym m))

-- the product of all scenario counts, divided by one of them, times that one
pub scenario_product-divides : (inst : Tables) (u : ℕ) → u < inst.periods → 1 ≤ scenarios_of inst (u + 1)
    → scenario_product inst / scenarios_of inst (u + 1) * scenarios_of inst (u + 1) ≡ scenario_product inst
unfolding scenario_product
scenario_product-divides inst u l some =
    let w = divides inst.periods (λ v. scenarios_of inst (v + 1)) u l in
    let z : w.0 * scenarios_of inst (u + 1) + 0 ≡ w.0 * scenarios_of inst (u + 1) = omega arith in
    let q : scenario_product inst / scenarios_of inst (u + 1) ≡ w.0 =
    ap (λ (x : ℕ). x / scenarios_of inst (u + 1)) (w.1 ∙ sym z)
    ∙ div-mul-add w.0 (scenarios_of inst (u + 1)) 0 (omega (arith, some)) in
    ap (λ (x : ℕ). x * scenarios_of inst (u + 1)) q ∙ sym w.1

-- ---- one period
scaled_right : (f n p : ℕ) (l : ℤ) → (pos (f * n) *ℤ l) *ℤ pos p ≡ pos (f * (p * n)) *ℤ l
scaled_right f n p l =
    let a = product_is (pos (f * n)) l in
    let b = product_is (pos (f * n) *ℤ l) (pos p) in
    let c = product_is (pos (f * (p * n))) l in
    let au = ap (λ (t : ℕ). t * p) a.0 in
    let ad = ap (λ (t : ℕ). t * p) a.1 in
    let m : f * n * p ≡ f * (p * n) = mul_assoc f n p ∙ ap (λ (t : ℕ). f * t) (mul_comm n p) in
    let u : f * n * up l * p ≡ f * (p * n) * up l = mul_right_comm (f * n) (up l) p ∙ ap (λ (t : ℕ). t * up l) m in
    let d : f * n * down l * p ≡ f * (p * n) * down l =
    mul_right_comm (f * n) (down l) p ∙ ap (λ (t : ℕ). t * down l) m in
    same_in ((pos (f * n) *ℤ l) *ℤ pos p) (pos (f * (p * n)) *ℤ l) (omega (arith, a, b, c, au, ad, u, d))

times_mono : (p : ℕ) (a b : ℤ) → a ≤ℤ b → (a *ℤ pos p) ≤ℤ (b *ℤ pos p)
times_mono p a b h =
    let l : p * (up a + down b) ≤ p * (up b + down a) = mul-le-mul_left p (le_out a b h) in
    at_most_in (a *ℤ pos p) (b *ℤ pos p)
    (omega (
      arith,
      l,
      product_is a (pos p),
      product_is b (pos p),
      mul-add p (up a) (down b),
      mul-add p (up b) (down a),
      mul_comm p (up a),
      mul_comm p (down a),
      mul_comm p (up b),
      mul_comm p (down b),
    ))

-- ---- the sum over all periods, from a bound in each
pub sum_of_quotients-least : (inst : Tables) (f : ℕ) (low v : ℕ → ℤ)
    → ((t : ℕ) → 1 ≤ t → t ≤ inst.periods → 1 ≤ scenarios_of inst t)
    → ((t : ℕ) → 1 ≤ t → t ≤ inst.periods → (pos (f * scenarios_of inst t) *ℤ low t) ≤ℤ v t)
    → (pos (f * scenario_product inst) *ℤ sum_below inst.periods (λ u. low (u + 1))) ≤ℤ sum_of_quotients inst v
unfolding sum_of_quotients
sum_of_quotients-least inst f low v some h =
    rw (← sum_below-scale inst.periods (pos (f * scenario_product inst)) (λ u. low (u + 1)))
    (sum_below_mono inst.periods (λ u. pos (f * scenario_product inst) *ℤ low (u + 1))
    (λ u. v (u + 1) *ℤ pos (scenario_product inst / scenarios_of inst (u + 1)))
    (λ u l. at u (scenario_product-divides inst u l (some (u + 1) (omega arith) (omega arith)))
    (h (u + 1) (omega arith) (omega arith))))
  where
    at : (u : ℕ) → scenario_product inst / scenarios_of inst (u + 1) * scenarios_of inst (u + 1) ≡ scenario_product inst
        → (pos (f * scenarios_of inst (u + 1)) *ℤ low (u + 1)) ≤ℤ v (u + 1)
        → (pos (f * scenario_product inst) *ℤ low (u + 1))
        ≤ℤ (v (u + 1) *ℤ pos (scenario_product inst / scenarios_of inst (u + 1)))
    at u e k =
        let p = scenario_product inst / scenarios_of inst (u + 1) in
        let m = times_mono p (pos (f * scenarios_of inst (u + 1)) *ℤ low (u + 1)) (v (u + 1)) k in
        let s : (pos (f * scenarios_of inst (u + 1)) *ℤ low (u + 1)) *ℤ pos p ≡ pos (f * scenario_product
        inst) *ℤ low (u + 1) =
        scaled_right f (scenarios_of inst (u + 1)) p (low (u + 1)) ∙ ap (λ (x : ℕ). pos (f * x) *ℤ low (u + 1)) e in
        subst (λ (z : ℤ). z ≤ℤ (v (u + 1) *ℤ pos p)) s m

pub sum_of_quotients-most : (inst : Tables) (f : ℕ) (high v : ℕ → ℤ)
    → ((t : ℕ) → 1 ≤ t → t ≤ inst.periods → 1 ≤ scenarios_of inst t)
    → ((t : ℕ) → 1 ≤ t → t ≤ inst.periods → v t ≤ℤ (pos (f * scenarios_of inst t) *ℤ high t))
    → sum_of_quotients inst v ≤ℤ (pos (f * scenario_product inst) *ℤ sum_below inst.periods (λ u. high (u + 1)))
unfolding sum_of_quotients
sum_of_quotients-most inst f high v some h =
    rw (← sum_below-scale inst.periods (pos (f * scenario_product inst)) (λ u. high (u + 1)))
    (sum_below_mono inst.periods (λ u. v (u + 1) *ℤ pos (scenario_product inst / scenarios_of inst (u + 1)))
    (λ u. pos (f * scenario_product inst) *ℤ high (u + 1))
    (λ u l. at u (scenario_product-divides inst u l (some (u + 1) (omega arith) (omega arith)))
    (h (u + 1) (omega arith) (omega arith))))
  where
    at : (u : ℕ) → scenario_product inst / scenarios_of inst (u + 1) * scenarios_of inst (u + 1) ≡ scenario_product inst
        → v (u + 1) ≤ℤ (pos (f * scenarios_of inst (u + 1)) *ℤ high (u + 1))
        → (v (u + 1) *ℤ pos (scenario_product inst / scenarios_of inst (u + 1)))
        ≤ℤ (pos (f * scenario_product inst) *ℤ high (u + 1))
    at u e k =
        let p = scenario_product inst / scenarios_of inst (u + 1) in
        let m = times_mono p (v (u + 1)) (pos (f * scenarios_of inst (u + 1)) *ℤ high (u + 1)) k in
        let s : (pos (f * scenarios_of inst (u + 1)) *ℤ high (u + 1)) *ℤ pos p ≡ pos (f * scenario_product
        inst) *ℤ high (u + 1) =
        scaled_right f (scenarios_of inst (u + 1)) p (high (u + 1)) ∙ ap (λ (x : ℕ). pos (f * x) *ℤ high (u + 1)) e in
        subst (λ (z : ℤ). (v (u + 1) *ℤ pos p) ≤ℤ z) s m

-- ---- from the sums to what is printed
pub spread : (a : ℤ) (k b : ℕ) → a *ℤ pos (k * b) ≡ pos b *ℤ (a *ℤ pos k)
spread a k b =
    let x = product_is a (pos (k * b)) in
    let y = product_is a (pos k) in
    let z = product_is (pos b) (a *ℤ pos k) in
    let yu = ap (λ (t : ℕ). b * t) y.0 in
    let yd = ap (λ (t : ℕ). b * t) y.1 in
    let u : up a * (k * b) ≡ b * (up a * k) = sym (mul_assoc (up a) k b) ∙ mul_comm (up a * k) b in
    let d : down a * (k * b) ≡ b * (down a * k) = sym (mul_assoc (down a) k b) ∙ mul_comm (down a * k) b in
    same_in (a *ℤ pos (k * b)) (pos b *ℤ (a *ℤ pos k)) (omega (arith, x, y, z, yu, yd, u, d))

pub turn : (a : ℤ) (k : ℕ) → pos k *ℤ a ≡ a *ℤ pos k
turn a k = same_in (pos k *ℤ a) (a *ℤ pos k)
    (omega (arith, product_is (pos k) a, product_is a (pos k), mul_comm k (up a), mul_comm k (down a)))

-- bounds of the sum, divided by k and rounded, enclose the fraction of the sum over k * b
pub Encloses-from : (low high sum : ℤ) (k b : ℕ) → 0 < k → (pos b *ℤ low) ≤ℤ sum → sum ≤ℤ (pos b *ℤ high)
    → Encloses (floor_of low k) (ceil_of high k) sum (k * b)
Encloses-from low high sum k b some l h =
    let f = floor_of low k in
    let c = ceil_of high k in
    let fl : (pos b *ℤ (f *ℤ pos k)) ≤ℤ (pos b *ℤ low) = scale_mono b (f *ℤ pos k) low (floor_of-le low k some) in
    let ch : (pos b *ℤ high) ≤ℤ (pos b *ℤ (c *ℤ pos k)) =
    scale_mono b high (c *ℤ pos k) (subst (λ (z : ℤ). high ≤ℤ z) (turn c k) (IsCeil-ceil_of high k some).reached) in
    record {
      low_below = rw (spread f k b) (trans (pos b *ℤ (f *ℤ pos k)) (pos b *ℤ low) sum fl l);
      high_above = rw (spread c k b) (trans sum (pos b *ℤ high) (pos b *ℤ (c *ℤ pos k)) h ch);
    }
  where
    trans : (x y z : ℤ) → x ≤ℤ y → y ≤ℤ z → x ≤ℤ z
    trans x y z h k = omega (arith, signed_arith, h, k)
