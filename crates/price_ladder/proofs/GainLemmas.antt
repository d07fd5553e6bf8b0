-- The worth of the list of zeros, what a step gains, and that 400 steps are enough.
use Rattle.std.proofs.Common.{◌≡◌, ℕ, zero, suc, ◌+◌, ◌-◌, ◌*◌, ◌<◌, ◌≤◌, refl, sym, ◌∙◌, ap, subst, arith, ℤ, pos}
use Rattle.std.proofs.Common.{◌+ℤ◌, ◌-ℤ◌, ◌*ℤ◌, ◌<ℤ◌, ◌≤ℤ◌, List, [], ◌∷◌, length, get_or, map, fold, replicate, Some}
use Rattle.std.proofs.Common.{IsTrue, unsigned_abs, ◌^◌}
use Rattle.std.specs.Int.{int_min, int_div_euclid}
use borrow.Author.Differences.{up, down, same_in, below_in, product_is, sum_is_lem, le_out}
use Rattle.fixed_num.specs.Floors.{floor_of}
use Rattle.fixed_num.specs.Sums.{sum_below}
use Rattle.fixed_num.proofs.SumLemmas.{sum_below_same, sum_below_mono}
use Rattle.fixed_num.proofs.Bits.{by_bits}
use Rattle.fixed_num.proofs.SignedLemmas.{signed_arith, int_div_euclid-parts, back_from_abs}
use Rattle.fixed_num.proofs.FloorLemmas.{floor_of-greatest, floor_within}
use Rattle.instance_model.specs.Tables.{Tables, is_allowed}
use Rattle.instance_model.specs.Plans.{AreAllowedStarts, load_at}
use Rattle.instance_model.proofs.EntryLemmas.{is_allowed_facts}
use Rattle.lagrange_bound.specs.Least.{least_over}
use Rattle.lagrange_bound.specs.TailLemmas.{least_over_reached}
use Rattle.lagrange_bound.specs.Prices.{zero_list, up_of, lo_of}
use Rattle.lagrange_bound.specs.Goals.{risk_base}
use Rattle.lagrange_bound.specs.Boxes.{span_of, HasStarts}
use Rattle.lagrange_bound.specs.Worth.{band_share, band_part, limit_share, fixed_part, ex_part, ex_total, price_of}
use Rattle.lagrange_bound.specs.Worth.{worth_of}
use Rattle.lagrange_bound.proofs.BaseLemmas.{sum_below-idle}
use Rattle.lagrange_bound.proofs.WorthLemmas.{in_starts}
use Rattle.certificate_tree.specs.Trees.{root_box}
use Rattle.certificate_tree.specs.Loads.{greatest_over}
use Rattle.certificate_tree.proofs.RootLemmas.{root_at}
use Rattle.certificate_tree.proofs.StartLemmas.{greatest_over_ge}
use Rattle.price_ladder.specs.Raised.{root_worth, root_starts, least_total, greatest_total, least_gain, enough_worth}

-- ---- the box of all starts holds a plan of allowed starts

pub root_has_starts : (inst : Tables) (starts : List ℕ) → AreAllowedStarts inst starts → HasStarts inst (root_box inst)
root_has_starts inst starts a i l =
    let s = get_or starts i 0 in
    let h : IsTrue (is_allowed inst i s) = a.allowed i (omega (arith, l, a.each)) in
    let k = is_allowed_facts inst i s h in
    let e = root_at inst i l in
    let w = in_starts inst i s (span_of (root_box inst) i) h (rw e k.0) (rw e k.1) in
    omega (arith, w.1)

-- ---- the list of zeros

zero_read : (n k : ℕ) → get_or (replicate {A = ℕ} n 0) k 0 ≡ 0
zero_read zero k = refl
zero_read (suc n) zero = refl
zero_read (suc n) (suc k) = zero_read n k

zero_up : (inst : Tables) (c t : ℕ) → up_of inst (zero_list inst) c t ≡ 0
unfolding zero_list
zero_up inst c t = zero_read (length inst.resource_names * inst.periods) (c * inst.periods + (t - 1))

zero_lo : (inst : Tables) (c t : ℕ) → lo_of inst (zero_list inst) c t ≡ 0
unfolding zero_list
zero_lo inst c t = zero_read (length inst.resource_names * inst.periods) (c * inst.periods + (t - 1))

no_times : (z : ℤ) → pos 0 *ℤ z ≡ pos 0
no_times z = same_in (pos 0 *ℤ z) (pos 0) (omega (arith, product_is (pos 0) z))

no_share : (u v : ℕ) (z : ℤ) → u ≡ 0 → v ≡ 0 → (pos u -ℤ pos v) *ℤ z ≡ pos 0
no_share u v z a b = ap (λ (n : ℕ). (pos n -ℤ pos v) *ℤ z) a ∙ ap (λ (n : ℕ). (pos 0 -ℤ pos n) *ℤ z) b ∙ no_times z

no_limit : (u v : ℕ) (y z : ℤ) → u ≡ 0 → v ≡ 0 → (pos v *ℤ y) -ℤ (pos u *ℤ z) ≡ pos 0
no_limit u v y z a b =
    ap (λ (n : ℕ). (pos n *ℤ y) -ℤ (pos u *ℤ z)) b ∙ ap (λ (n : ℕ). (pos 0 *ℤ y) -ℤ (pos n *ℤ z)) a
    ∙ ap (λ (x : ℤ). x -ℤ (pos 0 *ℤ z)) (no_times y) ∙ ap (λ (x : ℤ). pos 0 -ℤ x) (no_times z)

zero_bands : (inst : Tables) (i s : ℕ) → band_part inst (zero_list inst) i s ≡ pos 0
unfolding band_part
zero_bands inst i s =
    sum_below-idle (length inst.resource_names)
    (λ c. sum_below inst.periods (λ u. band_share inst (zero_list inst) i s c (u + 1)))
    (λ c l. sum_below-idle inst.periods (λ u. band_share inst (zero_list inst) i s c (u + 1))
    (λ u m. no_share (up_of inst (zero_list inst) c (u + 1)) (lo_of inst (zero_list inst) c (u + 1))
    (load_at inst c (u + 1) i (Some s)) (zero_up inst c (u + 1)) (zero_lo inst c (u + 1))))

zero_limits : (inst : Tables) → sum_below (length inst.resource_names) (λ c. sum_below inst.periods
    (λ u. limit_share inst (zero_list inst) c (u + 1))) ≡ pos 0
zero_limits inst =
    sum_below-idle (length inst.resource_names)
    (λ c. sum_below inst.periods (λ u. limit_share inst (zero_list inst) c (u + 1)))
    (λ c l. sum_below-idle inst.periods (λ u. limit_share inst (zero_list inst) c (u + 1))
    (λ u m. no_limit (up_of inst (zero_list inst) c (u + 1)) (lo_of inst (zero_list inst) c (u + 1)) _ _
    (zero_up inst c (u + 1)) (zero_lo inst c (u + 1))))

pub zero_fixed : (inst : Tables) → fixed_part inst (zero_list inst) ≡ pos 0
unfolding fixed_part zero_list ex_total
zero_fixed inst = ap (λ (z : ℤ). z -ℤ pos 0) (zero_limits inst)

pub zero_price : (inst : Tables) (i s : ℕ) → price_of (risk_base inst (zero_list inst)) inst (zero_list inst) i s
    ≡ risk_base inst (zero_list inst) i s
unfolding price_of zero_list ex_part
zero_price inst i s = ap (λ (z : ℤ). (risk_base inst (zero_list inst) i s +ℤ z) +ℤ pos 0) (zero_bands inst i s)
    ∙ same (risk_base inst (zero_list inst) i s)
  where
    same : (z : ℤ) → (z +ℤ pos 0) +ℤ pos 0 ≡ z
    same z = omega (arith, signed_arith)

map_same : (f g : ℕ → ℤ) → ((k : ℕ) → f k ≡ g k) → (ks : List ℕ) → map f ks ≡ map g ks
map_same f g h [] = refl
map_same f g h (k ∷ ks) = rw (h k, map_same f g h ks) refl

least_same : (f g : ℕ → ℤ) → ((k : ℕ) → f k ≡ g k) → (ks : List ℕ) → least_over f ks ≡ least_over g ks
unfolding least_over
least_same f g h [] = refl
least_same f g h (k ∷ ks) =
    ap (λ (z : ℤ). fold int_min z (map f ks)) (h k) ∙ ap (fold int_min (g k)) (map_same f g h ks)

-- the worth by the list of zeros is the sum of the least bases
pub root_worth-zero : (inst : Tables) → root_worth inst (zero_list inst) ≡ least_total inst
unfolding worth_of least_total
root_worth-zero inst =
    ap (λ (z : ℤ). sum_below (length inst.names)
    (λ i. least_over (price_of (risk_base inst (zero_list inst)) inst (zero_list inst) i) (root_starts inst i))
    +ℤ z) (zero_fixed inst)
    ∙ none (sum_below (length inst.names)
    (λ i. least_over (price_of (risk_base inst (zero_list inst)) inst (zero_list inst) i) (root_starts inst i)))
    ∙ sum_below_same (length inst.names)
    (λ i. least_over (price_of (risk_base inst (zero_list inst)) inst (zero_list inst) i) (root_starts inst i))
    (λ i. least_over (risk_base inst (zero_list inst) i) (root_starts inst i))
    (λ i l. least_same (price_of (risk_base inst (zero_list inst)) inst (zero_list inst) i)
    (risk_base inst (zero_list inst) i) (zero_price inst i) (root_starts inst i))
  where
    none : (z : ℤ) → z +ℤ pos 0 ≡ z
    none z = omega (arith, signed_arith)

-- ---- the least gain

least-le-greatest : (f : ℕ → ℤ) (ks : List ℕ) → 0 < length ks → least_over f ks ≤ℤ greatest_over f ks
least-le-greatest f ks h = let w = least_over_reached f ks h in
    subst (λ (z : ℤ). z ≤ℤ greatest_over f ks) (sym w.2) (greatest_over_ge f ks w.0 w.1)

pub least_total-le : (inst : Tables) → HasStarts inst (root_box inst) → least_total inst ≤ℤ greatest_total inst
unfolding least_total greatest_total
least_total-le inst h =
    sum_below_mono (length inst.names) (λ i. least_over (risk_base inst (zero_list inst) i) (root_starts inst i))
    (λ i. greatest_over (risk_base inst (zero_list inst) i) (root_starts inst i))
    (λ i l. least-le-greatest (risk_base inst (zero_list inst) i) (root_starts inst i) (h i l))

pub least_gain-some : (inst : Tables) → HasStarts inst (root_box inst) → pos 1 ≤ℤ least_gain inst
unfolding least_gain
least_gain-some inst h =
    let d = greatest_total inst -ℤ least_total inst in
    let some = difference (least_total inst) (greatest_total inst) (least_total-le inst h) in
    let f = floor_of-greatest (greatest_total inst -ℤ least_total inst) (pos 0) 200 (omega arith) some in
    more (floor_of (greatest_total inst -ℤ least_total inst) 200) f
  where
    difference : (a b : ℤ) → a ≤ℤ b → (pos 0 *ℤ pos 200) ≤ℤ (b -ℤ a)
    difference a b l = omega (arith, signed_arith)

    more : (z : ℤ) → pos 0 ≤ℤ z → pos 1 ≤ℤ (pos 1 +ℤ z)
    more z l = omega (arith, signed_arith)

-- after k steps that gain at least that much
pub record IsGained (inst : Tables) (k : ℕ) (worth : ℤ) : Type 0 where
  pub gained : (least_total inst +ℤ pos k *ℤ least_gain inst) ≤ℤ worth

pub IsGained-none : (inst : Tables) (worth : ℤ) → least_total inst ≤ℤ worth → IsGained inst 0 worth
IsGained-none inst worth l =
    record { gained = none (least_total inst) (pos 0 *ℤ least_gain inst) worth (no_times (least_gain inst)) l }
  where
    none : (z n w : ℤ) → n ≡ pos 0 → z ≤ℤ w → (z +ℤ n) ≤ℤ w
    none z n w e f = omega (arith, signed_arith)

pub IsGained-more : (inst : Tables) (k : ℕ) (worth next : ℤ) → IsGained inst k worth
    → (worth +ℤ least_gain inst) ≤ℤ next → IsGained inst (k + 1) next
IsGained-more inst k worth next h l =
    record {
      gained = more (least_total inst) (least_gain inst) (pos k *ℤ least_gain inst)
          (pos (k + 1) *ℤ least_gain inst) worth next (one (least_gain inst)) h.gained l;
    }
  where
    one : (g : ℤ) → pos (k + 1) *ℤ g ≡ pos k *ℤ g +ℤ g
    one g = same_in (pos (k + 1) *ℤ g) (pos k *ℤ g +ℤ g)
        (omega (arith, product_is (pos (k + 1)) g, product_is (pos k) g, sum_is_lem (pos k *ℤ g) g))

    more : (z g m n w x : ℤ) → n ≡ m +ℤ g → (z +ℤ m) ≤ℤ w → (w +ℤ g) ≤ℤ x → (z +ℤ n) ≤ℤ x
    more z g m n w x e a b = omega (arith, signed_arith)

-- the worth is never below that by the list of zeros
pub IsGained-least : (inst : Tables) (k : ℕ) (worth : ℤ) → HasStarts inst (root_box inst) → IsGained inst k worth
    → least_total inst ≤ℤ worth
IsGained-least inst k worth h g = least (least_total inst) (least_gain inst) worth (least_gain-some inst h) g.gained
  where
    least : (z g w : ℤ) → pos 1 ≤ℤ g → (z +ℤ pos k *ℤ g) ≤ℤ w → z ≤ℤ w
    least z g w one l =
        let p = product_is (pos k) g in
        let some : k * down g ≤ k * up g = scaled (down g) (up g) (omega (arith, le_out (pos 1) g one)) in
        omega (arith, signed_arith, p, some)
      where
        scaled : (a b : ℕ) → a ≤ b → k * a ≤ k * b
        scaled a b l = grind arith

covered : (x f : ℤ) → down f * 200 + up x < up f * 200 + down x + 200 → x <ℤ (pos 200 *ℤ (pos 1 +ℤ f))
covered x f l =
    below_in x (pos 200 *ℤ (pos 1 +ℤ f)) (omega (arith, l, product_is (pos 200) (pos 1 +ℤ f), sum_is_lem (pos 1) f))

-- 200 steps are more than the difference of the two totals
gain_covers : (inst : Tables) → (greatest_total inst -ℤ least_total inst) <ℤ (pos 200 *ℤ least_gain inst)
unfolding least_gain
gain_covers inst =
    let p = int_div_euclid-parts (greatest_total inst -ℤ least_total inst) 200 (omega arith) in
    covered (greatest_total inst -ℤ least_total inst) (floor_of (greatest_total inst -ℤ least_total inst) 200) p.1

-- 400 steps lead to a worth that is good enough
pub enough_after : (inst : Tables) (k : ℕ) (worth : ℤ) → 400 ≤ k → HasStarts inst (root_box inst)
    → IsGained inst k worth → enough_worth inst <ℤ worth
unfolding enough_worth
enough_after inst k worth many h g =
    at (least_total inst) (greatest_total inst) (least_gain inst) (gain_covers inst) (least_gain-some inst h) g.gained
  where
    scaled : (m n a b : ℕ) → b ≡ a + m → k ≡ n + 400 → 400 * b + k * a ≤ k * b + 400 * a
    scaled m n a b e f = rw (e, f) (omega arith)

    at : (z u g : ℤ) → (u -ℤ z) <ℤ (pos 200 *ℤ g) → pos 1 ≤ℤ g → (z +ℤ pos k *ℤ g) ≤ℤ worth → (pos 2 *ℤ u -ℤ z) <ℤ worth
    at z u g less one l =
        let p = product_is (pos k) g in
        let q = product_is (pos 200) g in
        let r = product_is (pos 2) u in
        let some : 400 * up g + k * down g ≤ k * up g + 400 * down g = scaled (up g - down g) (k - 400) (down g) (up g)
        (omega (arith, le_out (pos 1) g one)) (omega (arith, many)) in
        omega (arith, signed_arith, p, q, r, some)

-- ---- as the code computes it

pub greatest_total_all : (inst : Tables) (n : ℕ) (z : ℤ) → n ≡ length inst.names
    → z ≡ sum_below n (λ i. greatest_over (risk_base inst (zero_list inst) i) (root_starts inst i))
    → z ≡ greatest_total inst
unfolding greatest_total
greatest_total_all inst n z e h =
    h ∙ ap (λ (m : ℕ). sum_below m (λ i. greatest_over (risk_base inst (zero_list inst) i) (root_starts inst i))) e

pub least_gain_is : (inst : Tables) (u z x : ℤ) → u ≡ greatest_total inst → z ≡ least_total inst → x ≡ u -ℤ z
    → (pos 1 +ℤ floor_of x 200) ≡ least_gain inst
unfolding least_gain
least_gain_is inst u z x p q r = rw (r, p, q) refl

-- 1 and a 200th of the difference, rounded down
pub record IsGainOf (u z r : ℤ) : Type 0 where
  pub value : r ≡ pos 1 +ℤ floor_of (u -ℤ z) 200
  pub small : unsigned_abs r ≤ 10 ^ 36

pub IsGainOf-from : (u z d : ℤ) → unsigned_abs u ≤ 1_024_000_000_000_000_000_000_000_000_000_000
    → unsigned_abs z < 10 ^ 37 → d ≡ int_div_euclid (by_bits (by_bits u -ℤ by_bits z)) (pos 200)
    → IsGainOf u z (by_bits (pos 1 +ℤ by_bits d))
IsGainOf-from u z d h k e =
    let a : by_bits u ≡ u = back_from_abs u (omega (arith, h)) in
    let b : by_bits z ≡ z = back_from_abs z (omega (arith, k)) in
    let s = difference_size u z h k in
    let x : by_bits (u -ℤ z) ≡ u -ℤ z = back_from_abs (u -ℤ z) (omega (arith, s)) in
    let f : d ≡ floor_of (u -ℤ z) 200 = e ∙ rw (a, b, x) refl in
    let t =
    floor_within (u -ℤ z) 200 100_000_000_000_000_000_000_000_000_000_000_000 (omega arith) (omega (arith, s)) in
    let small : unsigned_abs d ≤ 100_000_000_000_000_000_000_000_000_000_000_000 = rw f t in
    let y : by_bits d ≡ d = back_from_abs d (omega (arith, small)) in
    let w = one_more d small in
    let v : by_bits (pos 1 +ℤ d) ≡ pos 1 +ℤ d = back_from_abs (pos 1 +ℤ d) (omega (arith, w)) in
    rw (y, v) (record { value = ap (λ (q : ℤ). pos 1 +ℤ q) f; small = omega (arith, w) })
  where
    difference_size : (x y : ℤ) → unsigned_abs x ≤ 1_024_000_000_000_000_000_000_000_000_000_000
        → unsigned_abs y < 10 ^ 37 → unsigned_abs (x -ℤ y) ≤ 11_000_000_000_000_000_000_000_000_000_000_000_000
    difference_size x y s t = omega (arith, signed_arith, s, t)

    one_more : (x : ℤ) → unsigned_abs x ≤ 100_000_000_000_000_000_000_000_000_000_000_000
        → unsigned_abs (pos 1 +ℤ x) ≤ 200_000_000_000_000_000_000_000_000_000_000_000
    one_more x s = omega (arith, signed_arith, s)
