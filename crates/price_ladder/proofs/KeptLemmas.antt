-- What is kept beside a price list: lists of numbers by start, their sizes, and the worth that they add up to.
use Rattle.std.proofs.Common.{◌≡◌, ℕ, ◌+◌, ◌-◌, ◌*◌, ◌<◌, ◌≤◌, ◌⊎◌, inl, inr, refl, sym, ◌∙◌, ap, subst, arith, ℤ}
use Rattle.std.proofs.Common.{pos, ◌+ℤ◌, ◌-ℤ◌, ◌*ℤ◌, List, [], ◌∷◌, ◌++◌, length, get_or, Bool, true, false, cond, ◌==◌}
use Rattle.std.proofs.Common.{IsTrue, Some, All, unsigned_abs, FitsSigned, ◌^◌, ◌/◌, ◌%◌}
use Rattle.std.specs.Int.{w128}
use Rattle.std.proofs.lemmas.Bool.{cases_lt}
use Rattle.std.proofs.lemmas.Int.{fits_signed_from_abs}
use Rattle.std.proofs.lemmas.List.{get_or_push, get_or_append_left, length-append}
use Rattle.std.proofs.lemmas.List.Elements.{All-from_recursion, All-get_or, All-weaker}
use Rattle.std.proofs.lemmas.List.Sums.{sum_by-le}
use Rattle.std.proofs.lemmas.Nat.{mul-le, mul-add-lt, div-mul-add, mod-mul-add, div_below}
use Rattle.fixed_num.specs.Sums.{sum_below}
use Rattle.fixed_num.proofs.Bits.{by_bits}
use Rattle.fixed_num.proofs.SignedLemmas.{signed_arith, abs-product, back_from_abs}
use Rattle.fixed_num.proofs.SumLemmas.{sum_below-within}
use Rattle.instance_model.specs.Tables.{Tables, is_allowed, upper_of, lower_of, exclusion_of, in_run}
use Rattle.instance_model.specs.Plans.{load_at}
use Rattle.instance_model.specs.Fitting.{IsFitting}
use Rattle.instance_model.proofs.EntryLemmas.{is_allowed_facts}
use Rattle.instance_model.proofs.FitLemmas.{tmax_small}
use Rattle.instance_model.proofs.PlanLemmas.{load_at_small}
use Rattle.lagrange_bound.specs.declared.ex_price.ExPrice.{ExPrice}
use Rattle.lagrange_bound.specs.Prices.{PriceList, IsPriceList, IsExPrice, up_of, lo_of}
use Rattle.lagrange_bound.specs.Worth.{band_share, band_part, limit_share, fixed_part, ex_share, ex_part, ex_total}
use Rattle.lagrange_bound.specs.Worth.{price_of}
use Rattle.lagrange_bound.specs.Goals.{risk_base}
use Rattle.lagrange_bound.proofs.ExCountLemmas.{ex_part-sum_by, ex_few}
use Rattle.lagrange_bound.proofs.LimitLemmas.{ex_total-sum_by}
use Rattle.price_ladder.specs.declared.place.Place.{Place}
use Rattle.price_ladder.specs.declared.place.Place.TheVariants.{Upper, Lower, Excluded}
use Rattle.price_ladder.specs.Weights.{price_at, times_at, weight_of}
use Rattle.price_ladder.specs.Kept.{kept_at, AreValues, AreSmall, AreSmallBases, more_of}

-- ---- a list that grows place by place

-- the numbers at the places before k that belong to allowed starts are those of f
pub record AreValuesTo (inst : Tables) (f : ℕ → ℕ → ℤ) (k : ℕ) (items : List ℤ) : Type 0 where
  pub each : length items ≡ k
  pub at : (j : ℕ) → j < k → IsTrue (is_allowed inst (j / inst.periods) (j % inst.periods + 1))
      → get_or items j (pos 0) ≡ f (j / inst.periods) (j % inst.periods + 1)

pub values_none : (inst : Tables) (f : ℕ → ℕ → ℤ) (items : List ℤ) → items ≡ [] → AreValuesTo inst f 0 items
values_none inst f items e =
    record { each = ap (λ (xs : List ℤ). length xs) e; at = λ j l a. absurd (omega (arith, l)) }

pub values_more : (inst : Tables) (f : ℕ → ℕ → ℤ) (k : ℕ) (items more : List ℤ) (z : ℤ) → AreValuesTo inst f k items
    → more ≡ items ++ z ∷ []
    → (IsTrue (is_allowed inst (k / inst.periods) (k % inst.periods + 1))
    → z ≡ f (k / inst.periods) (k % inst.periods + 1))
    → AreValuesTo inst f (k + 1) more
values_more inst f k items more z h e here = record {
  each = omega (arith, ap (λ (xs : List ℤ). length xs) e, length-append items (z ∷ []), h.each);
  at = λ j l. at j l (cases_lt j k);
}
  where
    read : (j : ℕ) → get_or more j (pos 0) ≡ get_or (items ++ z ∷ []) j (pos 0)
    read j = ap (λ (xs : List ℤ). get_or xs j (pos 0)) e

    at : (j : ℕ) → j < k + 1 → (j < k) ⊎ (k ≤ j)
        → IsTrue (is_allowed inst (j / inst.periods) (j % inst.periods + 1))
        → get_or more j (pos 0) ≡ f (j / inst.periods) (j % inst.periods + 1)
    at j l (inl b) a = read j ∙ get_or_append_left items (z ∷ []) (pos 0) j (omega (arith, b, h.each)) ∙ h.at j b a
    at j l (inr b) a =
        let q : k ≡ j = omega (arith, l, b) in
        subst (λ (m : ℕ). IsTrue (is_allowed inst (m / inst.periods) (m % inst.periods + 1))
        → get_or more m (pos 0) ≡ f (m / inst.periods) (m % inst.periods + 1)) q
        (λ a'. read k ∙ get_or_push items z (pos 0) k h.each ∙ here a') a

pub values_all : (inst : Tables) (f : ℕ → ℕ → ℤ) (k : ℕ) (items : List ℤ) → IsFitting inst
    → k ≡ length inst.names * inst.periods → AreValuesTo inst f k items → AreValues inst f items
values_all inst f k items fit e h = record { each = h.each ∙ e; at = at }
  where
    at : (i s : ℕ) → i < length inst.names → IsTrue (is_allowed inst i s) → kept_at inst items i s ≡ f i s
    at i s l a =
        let w = is_allowed_facts inst i s a in
        let t = tmax_small inst i fit l in
        let q : s - 1 < inst.periods = omega (arith, w.0, w.1, t.1) in
        let d : (i * inst.periods + (s - 1)) / inst.periods ≡ i = div-mul-add i inst.periods (s - 1) q in
        let m : (i * inst.periods + (s - 1)) % inst.periods + 1 ≡ s =
        omega (arith, mod-mul-add i inst.periods (s - 1) q, w.0) in
        let inside : i * inst.periods + (s - 1) < k =
        omega (arith, e, mul-add-lt i inst.periods (s - 1) (length inst.names) l q) in
        let b : IsTrue (is_allowed inst ((i * inst.periods + (s - 1)) / inst.periods)
        ((i * inst.periods + (s - 1)) % inst.periods + 1)) = rw (d, m) a in
        h.at (i * inst.periods + (s - 1)) inside b ∙ rw (d, m) refl

-- where a start's number stands
pub entry_within : (inst : Tables) (i s n : ℕ) → IsFitting inst → i < length inst.names → IsTrue (is_allowed inst i s)
    → n ≡ length inst.names * inst.periods → (1 ≤ s) × (i * inst.periods + (s - 1) < n)
entry_within inst i s n fit l a e =
    let w = is_allowed_facts inst i s a in
    let t = tmax_small inst i fit l in (
      w.0,
      omega
          (arith, e, mul-add-lt i inst.periods (s - 1) (length inst.names) l (omega (arith, w.0, w.1, t.1))),
    )

-- ---- sizes

price_read : (xs : List ℕ) (k : ℕ) → k < length xs → All (λ v. v ≤ 1_000_000_000) xs → get_or xs k 0 ≤ 1_000_000_000
price_read xs k l h = All-get_or (λ v. v ≤ 1_000_000_000) xs k 0 l h

band_place : (inst : Tables) (c u n : ℕ) → c < length inst.resource_names → u < inst.periods
    → n ≡ length inst.resource_names * inst.periods → c * inst.periods + ((u + 1) - 1) < n
band_place inst c u n l m e =
    omega (arith, e, mul-add-lt c inst.periods ((u + 1) - 1) (length inst.resource_names) l (omega (arith, m)))

bands_small : (inst : Tables) (prices : PriceList) (i s : ℕ) → IsFitting inst → IsPriceList inst prices
    → i < length inst.names → unsigned_abs (band_part inst prices i s) ≤ 16_384 * 10 ^ 29
unfolding band_part
bands_small inst prices i s f h l =
    let all = sum_below-within (length inst.resource_names) (inst.periods * 100_000_000_000_000_000_000_000_000_000)
    (λ c. sum_below inst.periods (λ u. band_share inst prices i s c (u + 1)))
    (λ c m. sum_below-within inst.periods 100_000_000_000_000_000_000_000_000_000
    (λ u. band_share inst prices i s c (u + 1)) (λ u n. one c u m n)) in
    whole (length inst.resource_names) inst.periods _ f.resources.few f.few_periods all
  where
    gap : (u l : ℕ) → u ≤ 1_000_000_000 → l ≤ 1_000_000_000 → unsigned_abs (pos u -ℤ pos l) ≤ 1_000_000_000
    gap u l h k = omega (arith, signed_arith, h, k)

    one : (c u : ℕ) → c < length inst.resource_names → u < inst.periods
        → unsigned_abs (band_share inst prices i s c (u + 1)) ≤ 100_000_000_000_000_000_000_000_000_000
    one c u m n =
        let p = abs-product (pos (up_of inst prices c (u + 1)) -ℤ pos (lo_of inst prices c (u + 1)))
        (load_at inst c (u + 1) i (Some s)) 1_000_000_000 100_000_000_000_000_000_000
        (gap (up_of inst prices c (u + 1)) (lo_of inst prices c (u + 1))
        (price_read prices.up _ (band_place inst c u (length prices.up) m n h.up_each) h.up_small)
        (price_read prices.lo _ (band_place inst c u (length prices.lo) m n h.lo_each) h.lo_small))
        (load_at_small inst c (u + 1) i (Some s) f l) in
        omega (arith, p)

    whole : (m n x : ℕ) → m ≤ 32 → n ≤ 512 → x ≤ m * (n * 100_000_000_000_000_000_000_000_000_000)
        → x ≤ 16_384 * 10 ^ 29
    whole m n x h k e =
        let p : m * n ≤ 32 * 512 = mul-le m n 32 512 h k in
        omega (arith, e, p)

share_small : (inst : Tables) (i s : ℕ) (x : ExPrice) → IsExPrice inst x → ex_share inst x i s ≤ 2_000_000_000
unfolding ex_share
share_small inst i s x k =
    at (in_run inst i s x.period) ((exclusion_of inst x.exclusion).first == i)
    ((exclusion_of inst x.exclusion).second == i) x.value k.small
  where
    at : (r a b : Bool) (v : ℕ) → v ≤ 1_000_000_000 → cond r (v * (cond a 1 0 + cond b 1 0)) 0 ≤ 2_000_000_000
    at true true true v m = omega (arith, m)
    at true true false v m = omega (arith, m)
    at true false true v m = omega (arith, m)
    at true false false v m = omega (arith, m)
    at false a b v m = omega arith

ex_small : (inst : Tables) (prices : PriceList) (i s : ℕ) → IsFitting inst → IsPriceList inst prices
    → ex_part inst prices.ex i s ≤ 33_554_432 * 2_000_000_000
ex_small inst prices i s f h =
    let each = All-weaker (IsExPrice inst) (λ x. ex_share inst x i s ≤ 2_000_000_000) (share_small inst i s) prices.ex
    (All-from_recursion (IsExPrice inst) prices.ex h.ex) in
    omega (
      arith,
      ex_part-sum_by inst prices.ex i s,
      sum_by-le (λ x. ex_share inst x i s) 2_000_000_000 prices.ex each,
      ex_few inst prices f h,
    )

pub fixed_small : (inst : Tables) (prices : PriceList) → IsFitting inst → IsPriceList inst prices
    → unsigned_abs (fixed_part inst prices) < 10 ^ 36
unfolding fixed_part lower_of upper_of
fixed_small inst prices f h =
    let all = sum_below-within (length inst.resource_names) (inst.periods * 400_000_000_000_000_000_000_000_000_000)
    (λ c. sum_below inst.periods (λ u. limit_share inst prices c (u + 1)))
    (λ c m. sum_below-within inst.periods 400_000_000_000_000_000_000_000_000_000
    (λ u. limit_share inst prices c (u + 1)) (λ u n. one c u m n)) in
    let some = All-weaker (IsExPrice inst) (λ x. x.value ≤ 1_000_000_000) (λ x k. k.small) prices.ex
    (All-from_recursion (IsExPrice inst) prices.ex h.ex) in
    let total : ex_total prices.ex ≤ 33_554_432 * 1_000_000_000 = omega (
      arith,
      ex_total-sum_by prices.ex,
      sum_by-le (λ x. x.value) 1_000_000_000 prices.ex some,
      ex_few inst prices f h,
    ) in
    whole (length inst.resource_names) inst.periods _ (ex_total prices.ex) f.resources.few f.few_periods all total
  where
    product : (n : ℕ) (z : ℤ) → n ≤ 1_000_000_000 → unsigned_abs z < 2 * 10 ^ 20
        → unsigned_abs (pos n *ℤ z) ≤ 200_000_000_000_000_000_000_000_000_000
    product n z k l =
        let p = abs-product (pos n) z 1_000_000_000 200_000_000_000_000_000_000 k (omega (arith, l)) in
        omega (arith, p)

    both : (a b : ℤ) → unsigned_abs a ≤ 200_000_000_000_000_000_000_000_000_000
        → unsigned_abs b ≤ 200_000_000_000_000_000_000_000_000_000
        → unsigned_abs (a -ℤ b) ≤ 400_000_000_000_000_000_000_000_000_000
    both a b k l = omega (arith, signed_arith, k, l)

    one : (c u : ℕ) → c < length inst.resource_names → u < inst.periods
        → unsigned_abs (limit_share inst prices c (u + 1)) ≤ 400_000_000_000_000_000_000_000_000_000
    one c u m n =
        both (pos (lo_of inst prices c (u + 1)) *ℤ lower_of inst c (u + 1))
        (pos (up_of inst prices c (u + 1)) *ℤ upper_of inst c (u + 1))
        (product (lo_of inst prices c (u + 1)) (lower_of inst c (u + 1))
        (price_read prices.lo _ (band_place inst c u (length prices.lo) m n h.lo_each) h.lo_small)
        (limit_small inst.lower _ (band_place inst c u (length inst.lower) m n f.lower_each) f.lower_small))
        (product (up_of inst prices c (u + 1)) (upper_of inst c (u + 1))
        (price_read prices.up _ (band_place inst c u (length prices.up) m n h.up_each) h.up_small)
        (limit_small inst.upper _ (band_place inst c u (length inst.upper) m n f.upper_each) f.upper_small))
      where
        limit_small : (zs : List ℤ) (k : ℕ) → k < length zs → All (λ z. unsigned_abs z < 2 * 10 ^ 20) zs
            → unsigned_abs (get_or zs k (pos 0)) < 2 * 10 ^ 20
        limit_small zs k l all = All-get_or (λ z. unsigned_abs z < 2 * 10 ^ 20) zs k (pos 0) l all

    whole : (m n : ℕ) (z : ℤ) (t : ℕ) → m ≤ 32 → n ≤ 512
        → unsigned_abs z ≤ m * (n * 400_000_000_000_000_000_000_000_000_000) → t ≤ 33_554_432 * 1_000_000_000
        → unsigned_abs (z -ℤ pos (1_000_000_000_000 * t)) < 10 ^ 36
    whole m n z t h k e l =
        let p : m * n ≤ 32 * 512 = mul-le m n 32 512 h k in
        omega (arith, signed_arith, e, p, l)

-- the prices that are kept are small
pub entries_small : (inst : Tables) (prices : PriceList) (entries : List ℤ) → IsFitting inst → IsPriceList inst prices
    → AreSmallBases inst prices → AreValues inst (price_at inst prices) entries → AreSmall inst (2 * 10 ^ 33) entries
unfolding price_of
entries_small inst prices entries f h b v = record {
  each = v.each;
  at = λ i s l a. subst (λ (z : ℤ). unsigned_abs z < 2 * 10 ^ 33) (sym (v.at i s l a))
      (sum (risk_base inst prices i s) (band_part inst prices i s) (ex_part inst prices.ex i s) (b.small i s l a)
      (bands_small inst prices i s f h l) (ex_small inst prices i s f h));
}
  where
    sum : (a b : ℤ) (n : ℕ) → unsigned_abs a < 10 ^ 30 → unsigned_abs b ≤ 16_384 * 10 ^ 29
        → n ≤ 33_554_432 * 2_000_000_000 → unsigned_abs ((a +ℤ b) +ℤ pos (1_000_000_000_000 * n)) < 2 * 10 ^ 33
    sum a b n h k l = omega (arith, signed_arith, h, k, l)

pub weight_small : (inst : Tables) (place : Place) (i s : ℕ) → IsFitting inst → i < length inst.names
    → unsigned_abs (weight_of inst place i s) ≤ 10 ^ 20
unfolding weight_of times_at
weight_small inst (Upper c t) i s f l = load_at_small inst c t i (Some s) f l
weight_small inst (Lower c t) i s f l = other (load_at inst c t i (Some s)) (load_at_small inst c t i (Some s) f l)
  where
    other : (z : ℤ) → unsigned_abs z ≤ 10 ^ 20 → unsigned_abs (pos 0 -ℤ z) ≤ 10 ^ 20
    other z h = omega (arith, signed_arith, h)
weight_small inst (Excluded e t) i s f l = at (in_run inst i s t) ((exclusion_of inst e).first == i)
    ((exclusion_of inst e).second == i)
  where
    at : (r a b : Bool) → unsigned_abs (pos (1_000_000_000_000 * cond r (cond a 1 0 + cond b 1 0) 0)) ≤ 10 ^ 20
    at true true true = omega arith
    at true true false = omega arith
    at true false true = omega arith
    at true false false = omega arith
    at false a b = omega arith

pub more_small : (inst : Tables) (place : Place) (times : ℤ) (entries more : List ℤ)
    → AreSmall inst (2 * 10 ^ 33) entries → unsigned_abs times ≤ 1_000_000_000
    → ((i s : ℕ) → i < length inst.names → unsigned_abs (weight_of inst place i s) ≤ 10 ^ 20)
    → AreValues inst (more_of inst place times entries) more → AreSmall inst (3 * 10 ^ 33) more
more_small inst place times entries more h k w v = record {
  each = v.each;
  at = λ i s l a. subst (λ (z : ℤ). unsigned_abs z < 3 * 10 ^ 33) (sym (v.at i s l a))
      (sum (kept_at inst entries i s) (times *ℤ weight_of inst place i s) (h.at i s l a)
      (abs-product times (weight_of inst place i s) 1_000_000_000 100_000_000_000_000_000_000 k
      (omega (arith, w i s l))));
}
  where
    sum : (a b : ℤ) → unsigned_abs a < 2 * 10 ^ 33 → unsigned_abs b ≤ 1_000_000_000 * 100_000_000_000_000_000_000
        → unsigned_abs (a +ℤ b) < 3 * 10 ^ 33
    sum a b h k = omega (arith, signed_arith, h, k)

-- ---- one place of a list of numbers, as the code reads it

pub place_row : (inst : Tables) (k p : ℕ) → p ≡ inst.periods → 1 ≤ p → k < length inst.names * inst.periods
    → k / p < length inst.names
place_row inst k p e some l =
    div_below k p (length inst.names) some (subst (λ (n : ℕ). k < length inst.names * n) (sym e) l)

-- what was found for the start at a place
pub at_place : (inst : Tables) (f : ℕ → ℕ → ℤ) (k p : ℕ) (r : ℤ) → p ≡ inst.periods → r ≡ f (k / p) (k % p + 1)
    → r ≡ f (k / inst.periods) (k % inst.periods + 1)
at_place inst f k p r e h = h ∙ ap (λ (n : ℕ). f (k / n) (k % n + 1)) e

-- the kept number, read for an allowed start, is small
pub entry_read : (inst : Tables) (bound : ℕ) (entries : List ℤ) (i s : ℕ) (r : ℤ) (b : Bool)
    → AreSmall inst bound entries → i < length inst.names → b ≡ is_allowed inst i s → b ≡ true
    → r ≡ kept_at inst entries i s → unsigned_abs r < bound
entry_read inst bound entries i s r b h l e t is =
    subst (λ (z : ℤ). unsigned_abs z < bound) (sym is) (h.at i s l (sym e ∙ t))

-- a number with another base in it, as the code adds it up
pub record IsShifted (a y z : ℤ) (r : ℤ) : Type 0 where
  pub value : r ≡ a +ℤ (y -ℤ z)
  pub small : unsigned_abs r < 3 * 10 ^ 33
  pub fits : FitsSigned w128 (by_bits a +ℤ by_bits (by_bits y -ℤ by_bits z))

pub shifted_is : (a y z : ℤ) → unsigned_abs a < 2 * 10 ^ 33 → unsigned_abs y < 10 ^ 30 → unsigned_abs z < 10 ^ 30
    → IsShifted a y z (by_bits (by_bits a +ℤ by_bits (by_bits y -ℤ by_bits z)))
shifted_is a y z h k l =
    let s : by_bits a ≡ a = back_from_abs a (omega (arith, h)) in
    let t : by_bits y ≡ y = back_from_abs y (omega (arith, k)) in
    let u : by_bits z ≡ z = back_from_abs z (omega (arith, l)) in
    let v : by_bits (y -ℤ z) ≡ y -ℤ z = back_from_abs (y -ℤ z) (omega (arith, signed_arith, k, l)) in
    let x : by_bits (a +ℤ (y -ℤ z)) ≡ a +ℤ (y -ℤ z) =
    back_from_abs (a +ℤ (y -ℤ z)) (omega (arith, signed_arith, h, k, l)) in
    record {
      value = rw (s, t, u, v, x) refl;
      small = rw (s, t, u, v, x) (omega (arith, signed_arith, h, k, l));
      fits = rw (s, t, u, v)
          (fits_signed_from_abs w128 (a +ℤ (y -ℤ z)) (omega (arith, signed_arith, h, k, l)));
    }
