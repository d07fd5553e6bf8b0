-- How large caps, prices and worths can be.
use Rattle.std.proofs.Common.{ℕ, ◌+◌, ◌-◌, ◌*◌, ◌<◌, ◌≤◌, ◌^◌, sym, subst, arith, ℤ, pos, ◌+ℤ◌, ◌-ℤ◌, ◌*ℤ◌, ◌≤ℤ◌, Bool}
use Rattle.std.proofs.Common.{true, false, cond, eqb, List, [], ◌∷◌, length, sum, Some, IsTrue, unsigned_abs, ◌&&◌}
use Rattle.std.proofs.Common.{mul-le-mul_right}
use Rattle.std.specs.Int.{int_min, int_max}
use Rattle.std.specs.List.{range_with_len, AllByRecursion}
use Rattle.std.proofs.lemmas.List.Sums.{sum_by-le}
use Rattle.fixed_num.specs.Sums.{sum_below}
use Rattle.fixed_num.proofs.SignedLemmas.{signed_arith, abs-product}
use Rattle.fixed_num.proofs.SumLemmas.{abs-sum, sum_below-within}
use Rattle.instance_model.specs.Tables.{Tables, in_run, is_allowed, upper_of, lower_of, exclusion_of}
use Rattle.instance_model.specs.Fitting.{IsFitting}
use Rattle.instance_model.specs.Plans.{load_at}
use Rattle.instance_model.proofs.FitLemmas.{upper_of_small, lower_of_small}
use Rattle.instance_model.proofs.PlanLemmas.{load_at_small}
use Rattle.lagrange_bound.specs.declared.ex_price.ExPrice.{ExPrice}
use Rattle.lagrange_bound.specs.declared.span.Span.{Span}
use Rattle.lagrange_bound.specs.Least.{least_over}
use Rattle.lagrange_bound.specs.TailLemmas.{least_over_reached}
use Rattle.lagrange_bound.specs.Prices.{PriceList, IsPriceList, IsExPrice, up_of, lo_of}
use Rattle.lagrange_bound.specs.Boxes.{span_of, starts_in, HasStarts}
use Rattle.lagrange_bound.specs.Worth.{ex_share, ex_part, ex_total, price_total, limit_share, fixed_part}
use Rattle.lagrange_bound.specs.Pricings.{Pricing, pricing_worth}
use Rattle.lagrange_bound.proofs.ExCountLemmas.{ex_few}
use Rattle.lagrange_bound.proofs.SizeOfWorthLemmas.{rows_bounded, kept_passes}
use Rattle.refined_prices.specs.declared.clique.Clique.{Clique}
use Rattle.refined_prices.specs.Caps.{allowed_starts, least_load, most_taken, cap_of, counted_load}
use Rattle.refined_prices.specs.Cliques.{IsPricedClique, is_member, clique_share, clique_part, clique_total}
use Rattle.refined_prices.specs.GroupBases.{group_base_of, offset_cost}
use Rattle.refined_prices.specs.RefinedLists.{RefinedList, IsRefinedList}
use Rattle.refined_prices.specs.RefinedWorth.{counted_share, counted_part, limit_part, limit_constant, refined_price}
use Rattle.refined_prices.specs.RefinedWorth.{refined_constant, refined_pricing}
use Rattle.refined_prices.specs.RefinedSizes.{refined_total, RefinedPricesAreSmall, RefinedConstantsAreSmall}
use Rattle.refined_prices.specs.RefinedSizes.{RefinedWorthsFit, RefinedWorthsAreSmall}
use Rattle.refined_prices.proofs.GroupSizes.{group_base_of_small, offset_cost_small}
use Rattle.refined_prices.proofs.CapLemmas.{not_below}

-- ---- caps

-- a least value over places is small where all are
least_over_small : (f : ℕ → ℤ) (ks : List ℕ) (m : ℕ) → ((k : ℕ) → unsigned_abs (f k) ≤ m)
    → unsigned_abs (least_over f ks) ≤ m
unfolding least_over
least_over_small f [] m h = omega arith
least_over_small f (k ∷ ks) m h =
    let w = least_over_reached f (k ∷ ks) (omega arith) in
    subst (λ (z : ℤ). unsigned_abs z ≤ m) (sym w.2) (h w.0)

pub most_taken_small : (inst : Tables) (c t i : ℕ) → IsFitting inst → i < length inst.names
    → (pos 0 ≤ℤ most_taken inst c t i) × (unsigned_abs (most_taken inst c t i) ≤ 100_000_000_000_000_000_000)
unfolding most_taken least_load
most_taken_small inst c t i f l =
    within (least_over (λ s. load_at inst c t i (Some s)) (allowed_starts inst i))
    (least_over_small (λ s. load_at inst c t i (Some s)) (allowed_starts inst i) 100_000_000_000_000_000_000
    (λ s. load_at_small inst c t i (Some s) f l))
  where
    within : (z : ℤ) → unsigned_abs z ≤ 100_000_000_000_000_000_000 → (pos 0 ≤ℤ int_max (pos 0) (pos 0 -ℤ z))
        × (unsigned_abs (int_max (pos 0) (pos 0 -ℤ z)) ≤ 100_000_000_000_000_000_000)
    within z h = (omega (arith, signed_arith, h), omega (arith, signed_arith, h))

-- a cap is no negative number, and small
pub cap_of_small : (inst : Tables) (c t : ℕ) → IsFitting inst
    → (pos 0 ≤ℤ cap_of inst c t) × (unsigned_abs (cap_of inst c t) < 10 ^ 24)
unfolding cap_of
cap_of_small inst c t f =
    let n = length inst.names in
    let size = sum_below-within n 100_000_000_000_000_000_000 (most_taken inst c t)
    (λ i l. (most_taken_small inst c t i f l).1) in
    let some = not_below n (most_taken inst c t) (λ i l. (most_taken_small inst c t i f l).0) in
    both (lower_of inst c t) (sum_below n (most_taken inst c t)) n (lower_of_small inst c t f) some size f.names.few
  where
    both : (x y : ℤ) (n : ℕ) → unsigned_abs x < 2 * 10 ^ 20 → pos 0 ≤ℤ y
        → unsigned_abs y ≤ n * 100_000_000_000_000_000_000 → n ≤ 1024
        → (pos 0 ≤ℤ (int_max (pos 0) x +ℤ y)) × (unsigned_abs (int_max (pos 0) x +ℤ y) < 10 ^ 24)
    both x y n h k l m = (omega (arith, signed_arith, k), omega (arith, signed_arith, h, k, l, m))

-- ---- what the prices add

-- a load that counts is no larger than the load
counted_load_small : (inst : Tables) (capped : Bool) (c t i s : ℕ) → IsFitting inst → i < length inst.names
    → unsigned_abs (counted_load inst capped c t i (Some s)) ≤ 100_000_000_000_000_000_000
unfolding counted_load
counted_load_small inst true c t i s f l =
    lesser (load_at inst c t i (Some s)) (cap_of inst c t) (load_at_small inst c t i (Some s) f l)
    (cap_of_small inst c t f).0
  where
    lesser : (x y : ℤ) → unsigned_abs x ≤ 10 ^ 20 → pos 0 ≤ℤ y
        → unsigned_abs (int_min x y) ≤ 100_000_000_000_000_000_000
    lesser x y h k = omega (arith, signed_arith, h, k)
counted_load_small inst false c t i s f l = load_at_small inst c t i (Some s) f l

difference_size : (a b : ℤ) (m n : ℕ) → unsigned_abs a ≤ m → unsigned_abs b ≤ n → unsigned_abs (a -ℤ b) ≤ m + n
difference_size a b m n h k = omega (arith, signed_arith, h, k)

counted_part_size : (inst : Tables) (list : RefinedList) (i s : ℕ) → IsFitting inst → IsPriceList inst list.prices
    → i < length inst.names → unsigned_abs (counted_part inst list i s)
    ≤ 100_000_000_000_000_000_000 * sum list.prices.up + 100_000_000_000_000_000_000 * sum list.prices.lo
unfolding counted_part
counted_part_size inst list i s f h l =
    rows_bounded 100_000_000_000_000_000_000 list.prices.up list.prices.lo (length inst.resource_names) inst.periods
    (λ c u. counted_share inst list i s c (u + 1)) h.up_each h.lo_each
    (λ c u m n. one (up_of inst list.prices c (u + 1)) (lo_of inst list.prices c (u + 1))
    (load_at inst c (u + 1) i (Some s)) (counted_load inst list.capped c (u + 1) i (Some s))
    (load_at_small inst c (u + 1) i (Some s) f l) (counted_load_small inst list.capped c (u + 1) i s f l))
  where
    one : (u v : ℕ) (x y : ℤ) → unsigned_abs x ≤ 10 ^ 20 → unsigned_abs y ≤ 100_000_000_000_000_000_000
        → unsigned_abs ((pos u *ℤ x) -ℤ (pos v *ℤ y))
        ≤ 100_000_000_000_000_000_000 * u + 100_000_000_000_000_000_000 * v
    one u v x y h k =
        let p = abs-product (pos u) x u 100_000_000_000_000_000_000 (omega arith) (omega (arith, h)) in
        let q = abs-product (pos v) y v 100_000_000_000_000_000_000 (omega arith) k in
        let d = difference_size (pos u *ℤ x) (pos v *ℤ y) (u * 100_000_000_000_000_000_000)
        (v * 100_000_000_000_000_000_000) p q in
        omega (arith, d)

limits_size : (inst : Tables) (prices : PriceList) → IsFitting inst → IsPriceList inst prices
    → unsigned_abs
    (sum_below (length inst.resource_names) (λ c. sum_below inst.periods (λ u. limit_share inst prices c (u + 1))))
    ≤ 200_000_000_000_000_000_000 * sum prices.up + 200_000_000_000_000_000_000 * sum prices.lo
limits_size inst prices f h =
    rows_bounded 200_000_000_000_000_000_000 prices.up prices.lo (length inst.resource_names) inst.periods
    (λ c u. limit_share inst prices c (u + 1)) h.up_each h.lo_each
    (λ c u m n. one (up_of inst prices c (u + 1)) (lo_of inst prices c (u + 1)) (upper_of inst c (u + 1))
    (lower_of inst c (u + 1)) (upper_of_small inst c (u + 1) f) (lower_of_small inst c (u + 1) f))
  where
    one : (u v : ℕ) (y z : ℤ) → unsigned_abs y < 2 * 10 ^ 20 → unsigned_abs z < 2 * 10 ^ 20
        → unsigned_abs ((pos v *ℤ z) -ℤ (pos u *ℤ y))
        ≤ 200_000_000_000_000_000_000 * u + 200_000_000_000_000_000_000 * v
    one u v y z h k =
        let p = abs-product (pos v) z v 200_000_000_000_000_000_000 (omega arith) (omega (arith, k)) in
        let q = abs-product (pos u) y u 200_000_000_000_000_000_000 (omega arith) (omega (arith, h)) in
        let d = difference_size (pos v *ℤ z) (pos u *ℤ y) (v * 200_000_000_000_000_000_000)
        (u * 200_000_000_000_000_000_000) p q in
        omega (arith, d)

ex_part-le_total : (inst : Tables) (xs : List ExPrice) (i s : ℕ) → ex_part inst xs i s ≤ 2 * ex_total xs
unfolding ex_part ex_total ex_share
ex_part-le_total inst [] i s = omega arith
ex_part-le_total inst (x ∷ xs) i s =
    let one = at (in_run inst i s x.period) (eqb (exclusion_of inst x.exclusion).first i)
    (eqb (exclusion_of inst x.exclusion).second i) x.value in
    omega (arith, one, ex_part-le_total inst xs i s)
  where
    at : (r a b : Bool) (v : ℕ) → cond r (v * (cond a 1 0 + cond b 1 0)) 0 ≤ 2 * v
    at true true true v = omega arith
    at true true false v = omega arith
    at true false true v = omega arith
    at true false false v = omega arith
    at false a b v = omega arith

clique_part-le_total : (inst : Tables) (xs : List Clique) (i s : ℕ) → clique_part inst xs i s ≤ clique_total xs
unfolding clique_part clique_total clique_share
clique_part-le_total inst [] i s = omega arith
clique_part-le_total inst (x ∷ xs) i s =
    let one = at (is_member x.members i && in_run inst i s x.period) x.value in
    omega (arith, one, clique_part-le_total inst xs i s)
  where
    at : (b : Bool) (v : ℕ) → cond b v 0 ≤ v
    at true v = omega arith
    at false v = omega arith

-- ---- the numbers of a list

ex_total_size : (inst : Tables) (xs : List ExPrice) → AllByRecursion (IsExPrice inst) xs
    → ex_total xs ≤ length xs * 1_000_000_000
unfolding ex_total
ex_total_size inst [] h = omega arith
ex_total_size inst (x ∷ xs) h =
    let one = h.0.small in
    let rest = ex_total_size inst xs h.1 in
    omega (arith, one, rest)

clique_total_size : (inst : Tables) (xs : List Clique) → AllByRecursion (IsPricedClique inst) xs
    → clique_total xs ≤ length xs * 1_000_000_000
unfolding clique_total
clique_total_size inst [] h = omega arith
clique_total_size inst (x ∷ xs) h =
    let one = h.0.small in
    let rest = clique_total_size inst xs h.1 in
    omega (arith, one, rest)

-- 32 resources, 512 periods, 33,554,432 prices of exclusions and 4,096 cliques, each price up to 10^9
record AreFew (list : RefinedList) : Type 0 where
  bands : sum list.prices.up + sum list.prices.lo ≤ 32_768_000_000_000
  counts : ex_total list.prices.ex + clique_total list.cliques ≤ 33_558_528_000_000_000

are_few : (inst : Tables) (list : RefinedList) → IsFitting inst → IsRefinedList inst list → AreFew list
are_few inst list f h =
    let up = sum_by-le (λ x. x) 1_000_000_000 list.prices.up h.prices.up_small in
    let lo = sum_by-le (λ x. x) 1_000_000_000 list.prices.lo h.prices.lo_small in
    let places = few_places (length inst.resource_names) inst.periods f.resources.few f.few_periods in
    let ex = ex_total_size inst list.prices.ex h.prices.ex in
    let few = ex_few inst list.prices f h.prices in
    let cliques = clique_total_size inst list.cliques h.cliques in
    record {
      bands = let a = h.prices.up_each in let b = h.prices.lo_each in omega (arith, up, lo, places, a, b);
      counts = let a = h.few_cliques in omega (arith, ex, few, cliques, a);
    }
  where
    few_places : (m n : ℕ) → m ≤ 32 → n ≤ 512 → m * n ≤ 16_384
    few_places m n h k = let p = mul-le-mul_right n h in omega (arith, p, k)

-- ---- prices and the constant

-- the price of a start, by the numbers of the list
price_size : (inst : Tables) (list : RefinedList) (i s : ℕ) → IsFitting inst → IsRefinedList inst list
    → i < length inst.names → unsigned_abs (refined_price inst list i s)
    ≤ 10 ^ 30 + (100_000_000_000_000_000_000 * (sum list.prices.up + sum list.prices.lo)
    + 2_000_000_000_000 * (ex_total list.prices.ex + clique_total list.cliques))
unfolding refined_price limit_part
price_size inst list i s f h l =
    added (group_base_of inst list.tails list.offsets i s) (counted_part inst list i s)
    (ex_part inst list.prices.ex i s) (clique_part inst list.cliques i s) (sum list.prices.up) (sum list.prices.lo)
    (ex_total list.prices.ex) (clique_total list.cliques)
    (group_base_of_small inst list.tails list.offsets i s f h.tails h.offsets)
    (counted_part_size inst list i s f h.prices l) (ex_part-le_total inst list.prices.ex i s)
    (clique_part-le_total inst list.cliques i s)
  where
    added : (a z : ℤ) (m n up lo ex cliques : ℕ) → unsigned_abs a < 10 ^ 30
        → unsigned_abs z ≤ 100_000_000_000_000_000_000 * up + 100_000_000_000_000_000_000 * lo → m ≤ 2 * ex
        → n ≤ cliques → unsigned_abs (a +ℤ (z +ℤ pos (1_000_000_000_000 * (m + n))))
        ≤ 10 ^ 30 + (100_000_000_000_000_000_000 * (up + lo) + 2_000_000_000_000 * (ex + cliques))
    added a z m n up lo ex cliques h k l j = omega (arith, signed_arith, h, k, l, j)

-- the constant, by the numbers of the list
constant_size : (inst : Tables) (list : RefinedList) → IsFitting inst → IsRefinedList inst list
    → unsigned_abs (refined_constant inst list)
    ≤ 10 ^ 30 + (200_000_000_000_000_000_000 * (sum list.prices.up + sum list.prices.lo)
    + 1_000_000_000_000 * (ex_total list.prices.ex + clique_total list.cliques))
unfolding refined_constant limit_constant fixed_part
constant_size inst list f h =
    less (sum_below (length inst.resource_names)
    (λ c. sum_below inst.periods (λ u. limit_share inst list.prices c (u + 1)))) (sum list.prices.up)
    (sum list.prices.lo) (ex_total list.prices.ex) (clique_total list.cliques)
    (offset_cost inst list.tails list.offsets) (limits_size inst list.prices f h.prices)
    (offset_cost_small inst list.tails list.offsets f h.offsets)
  where
    less : (z : ℤ) (up lo ex cliques cost : ℕ)
        → unsigned_abs z ≤ 200_000_000_000_000_000_000 * up + 200_000_000_000_000_000_000 * lo → cost < 10 ^ 30
        → unsigned_abs (((z -ℤ pos (1_000_000_000_000 * ex)) -ℤ pos (1_000_000_000_000 * cliques)) -ℤ pos cost)
        ≤ 10 ^ 30 + (200_000_000_000_000_000_000 * (up + lo) + 1_000_000_000_000 * (ex + cliques))
    less z up lo ex cliques cost h k = omega (arith, signed_arith, h, k)

pub RefinedPricesAreSmall-from : RefinedPricesAreSmall
RefinedPricesAreSmall-from inst list i s f h l a =
    let size = price_size inst list i s f h l in
    let few = are_few inst list f h in
    let bands = few.bands in
    let counts = few.counts in
    omega (arith, size, bands, counts)

pub RefinedConstantsAreSmall-from : RefinedConstantsAreSmall
RefinedConstantsAreSmall-from inst list f h =
    let size = constant_size inst list f h in
    let few = are_few inst list f h in
    let bands = few.bands in
    let counts = few.counts in
    omega (arith, size, bands, counts)

-- ---- worths

-- the least price of an interval is one of its prices
least_size : (price : ℕ → ℤ) (inst : Tables) (i m : ℕ) (span : Span)
    → ((s : ℕ) → IsTrue (is_allowed inst i s) → unsigned_abs (price s) ≤ m) → 0 < length (starts_in inst i span)
    → unsigned_abs (least_over price (starts_in inst i span)) ≤ m
unfolding starts_in
least_size price inst i m span each some =
    let w = least_over_reached price (starts_in inst i span) some in
    let passes = kept_passes (is_allowed inst i) (range_with_len span.from (span.to + 1 - span.from)) w.0 w.1 in
    subst (λ (z : ℤ). unsigned_abs z ≤ m) (sym w.2) (each w.0 passes)

-- a worth, by a bound on the prices and one on the constant
worth_size : (inst : Tables) (pricing : Pricing) (box : List Span) (m n : ℕ)
    → ((i s : ℕ) → i < length inst.names → IsTrue (is_allowed inst i s) → unsigned_abs (pricing.price i s) ≤ m)
    → unsigned_abs pricing.constant ≤ n → HasStarts inst box
    → unsigned_abs (pricing_worth inst pricing box) ≤ length inst.names * m + n
unfolding pricing_worth
worth_size inst pricing box m n prices constant some =
    let least : ℕ → ℤ = λ i. least_over (pricing.price i) (starts_in inst i (span_of box i)) in
    let leasts = sum_below-within (length inst.names) m least
    (λ i l. least_size (pricing.price i) inst i m (span_of box i) (λ s a. prices i s l a) (some i l)) in
    let both = abs-sum (sum_below (length inst.names) least) pricing.constant in
    omega (arith, leasts, constant, both)

pub RefinedWorthsFit-from : RefinedWorthsFit
RefinedWorthsFit-from inst list box f h some =
    let constant = RefinedConstantsAreSmall-from inst list f h in
    let size = worth_size inst (refined_pricing inst list) box 10_000_000_000_000_000_000_000_000_000_000_000
    10_000_000_000_000_000_000_000_000_000_000_000
    (λ i s l a. let p = RefinedPricesAreSmall-from inst list i s f h l a in omega (arith, p))
    (omega (arith, constant)) some in
    let few = f.names.few in
    omega (arith, size, few)

total_parts : (list : RefinedList) → refined_total list ≤ 40_000_000_000
    → (sum list.prices.up + sum list.prices.lo) + (ex_total list.prices.ex + clique_total list.cliques)
    ≤ 40_000_000_000
unfolding refined_total price_total
total_parts list h = omega (arith, h)

pub RefinedWorthsAreSmall-from : RefinedWorthsAreSmall
RefinedWorthsAreSmall-from inst list box f h total some =
    let few = f.names.few in
    let parts = total_parts list total in
    let constant = constant_size inst list f h in
    let size = worth_size inst (refined_pricing inst list) box 10_000_000_000_000_000_000_000_000_000_000
    10_000_000_000_000_000_000_000_000_000_000
    (λ i s l a. let p = price_size inst list i s f h l in omega (arith, p, parts)) (omega (arith, constant, parts))
    some in
    omega (arith, size, few)
