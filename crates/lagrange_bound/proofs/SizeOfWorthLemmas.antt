-- The worth of a box is small, where the numbers of the price list don't come to much.
use Rattle.std.proofs.Common.{◌≡◌, ℕ, zero, suc, ◌+◌, ◌-◌, ◌*◌, ◌<◌, ◌≤◌, ◌^◌, refl, sym, ◌∙◌, ap, subst, arith, ℤ, pos}
use Rattle.std.proofs.Common.{◌+ℤ◌, ◌-ℤ◌, ◌*ℤ◌, Bool, true, false, cond, eqb, List, [], ◌∷◌, length, get_or, take}
use Rattle.std.proofs.Common.{filter, sum, Some, IsTrue, Contains, unsigned_abs, mul-le-mul_left}
use Rattle.std.specs.List.{range_with_len}
use Rattle.std.proofs.lemmas.List.Sums.{sum_by_more, sum_by-take-le}
use Rattle.fixed_num.specs.Sums.{sum_below}
use Rattle.fixed_num.proofs.SignedLemmas.{signed_arith, abs-product}
use Rattle.fixed_num.proofs.SumLemmas.{abs-sum, sum_below-zero, sum_below-suc, sum_below-within}
use Rattle.instance_model.specs.Naturals.{count_sum}
use Rattle.instance_model.specs.Tables.{Tables, in_run, is_allowed, upper_of, lower_of, exclusion_of}
use Rattle.instance_model.specs.Fitting.{IsFitting}
use Rattle.instance_model.specs.Plans.{load_at}
use Rattle.instance_model.proofs.FitLemmas.{upper_of_small, lower_of_small}
use Rattle.instance_model.proofs.PlanLemmas.{load_at_small}
use Rattle.lagrange_bound.specs.declared.ex_price.ExPrice.{ExPrice}
use Rattle.lagrange_bound.specs.declared.span.Span.{Span}
use Rattle.lagrange_bound.specs.Least.{least_over}
use Rattle.lagrange_bound.specs.TailLemmas.{least_over_reached}
use Rattle.lagrange_bound.specs.Prices.{PriceList, IsPriceList, up_of, lo_of}
use Rattle.lagrange_bound.specs.Goals.{Bases, BasesAreSmall}
use Rattle.lagrange_bound.specs.Boxes.{span_of, starts_in}
use Rattle.lagrange_bound.specs.Worth.{ex_share, ex_part, ex_total, price_total, band_share, band_part, price_of}
use Rattle.lagrange_bound.specs.Worth.{limit_share, fixed_part, worth_of, WorthsAreSmall}
use Rattle.lagrange_bound.proofs.ExLemmas.{count_sum-add}

-- ---- sums by resource and period

-- each term is bounded by one of natural numbers
pub sum_below-bounded : (n : ℕ) (f : ℕ → ℤ) (g : ℕ → ℕ) → ((k : ℕ) → k < n → unsigned_abs (f k) ≤ g k)
    → unsigned_abs (sum_below n f) ≤ count_sum n g
unfolding count_sum
sum_below-bounded zero f g h = rw (sum_below-zero f) (omega arith)
sum_below-bounded (suc n) f g h =
    let ih = sum_below-bounded n f g (λ k l. h k (omega (arith, l))) in
    let last = h n (omega arith) in
    rw (sum_below-suc n f) (omega (arith, abs-sum (sum_below n f) (f n), ih, last))

-- the sum of the first numbers of a list
first_sum : List ℕ → ℕ → ℕ
first_sum xs n = sum (take n xs)

first_sum_none : (xs : List ℕ) → first_sum xs 0 ≡ 0
unfolding first_sum
first_sum_none xs = refl

first_sum_more : (xs : List ℕ) (n : ℕ) → n < length xs → first_sum xs (n + 1) ≡ first_sum xs n + get_or xs n 0
unfolding first_sum
first_sum_more xs n l = sum_by_more (λ x. x) xs n 0 l

first_sum-le : (xs : List ℕ) (n : ℕ) → first_sum xs n ≤ sum xs
unfolding first_sum
first_sum-le xs n = sum_by-take-le (λ x. x) xs n

-- a run of numbers of a list, k times each
row_sum : (k : ℕ) (xs : List ℕ) (a n : ℕ) → a + n ≤ length xs
    → k * first_sum xs a + count_sum n (λ u. k * get_or xs (a + ((u + 1) - 1)) 0) ≡ k * first_sum xs (a + n)
unfolding count_sum
row_sum k xs a zero l = let e : a + 0 ≡ a = omega arith in rw e (omega arith)
row_sum k xs a (suc n) l =
    let ih = row_sum k xs a n (omega (arith, l)) in
    let at : a + ((n + 1) - 1) ≡ a + n = omega arith in
    let next : a + suc n ≡ (a + n) + 1 = omega arith in
    let more = ap (λ (t : ℕ). k * t) (first_sum_more xs (a + n) (omega (arith, l))) in
    rw (at, next) (omega (arith, ih, more))

-- all rows
rows_sum : (k : ℕ) (xs : List ℕ) (m n : ℕ) → m * n ≤ length xs
    → count_sum m (λ c. count_sum n (λ u. k * get_or xs (c * n + ((u + 1) - 1)) 0)) ≡ k * first_sum xs (m * n)
unfolding count_sum first_sum
rows_sum k xs zero n l = let e : zero * n ≡ 0 = omega arith in rw e (omega (arith, first_sum_none xs))
rows_sum k xs (suc m) n l =
    let ih = rows_sum k xs m n (omega (arith, l)) in
    let row = row_sum k xs (m * n) n (omega (arith, l)) in
    let next : suc m * n ≡ m * n + n = omega arith in
    rw next (omega (arith, ih, row))

rows_sum-le : (k : ℕ) (xs : List ℕ) (m n : ℕ) → length xs ≡ m * n
    → count_sum m (λ c. count_sum n (λ u. k * get_or xs (c * n + ((u + 1) - 1)) 0)) ≤ k * sum xs
rows_sum-le k xs m n e =
    omega (arith, rows_sum k xs m n (omega (arith, e)), mul-le-mul_left k (first_sum-le xs (m * n)))

-- a sum over resources and periods, where each term is bounded by k times the numbers of two lists at its place
pub rows_bounded : (k : ℕ) (xs ys : List ℕ) (m n : ℕ) (f : ℕ → ℕ → ℤ) → length xs ≡ m * n → length ys ≡ m * n
    → ((c u : ℕ) → c < m → u < n → unsigned_abs (f c u)
    ≤ k * get_or xs (c * n + ((u + 1) - 1)) 0 + k * get_or ys (c * n + ((u + 1) - 1)) 0)
    → unsigned_abs (sum_below m (λ c. sum_below n (f c))) ≤ k * sum xs + k * sum ys
rows_bounded k xs ys m n f e d h =
    let x : ℕ → ℕ → ℕ = λ c u. k * get_or xs (c * n + ((u + 1) - 1)) 0 in
    let y : ℕ → ℕ → ℕ = λ c u. k * get_or ys (c * n + ((u + 1) - 1)) 0 in
    let row : (c : ℕ) → c < m → unsigned_abs (sum_below n (f c)) ≤ count_sum n (x c) + count_sum n (y c) =
    λ c l. subst (λ (t : ℕ). unsigned_abs (sum_below n (f c)) ≤ t) (count_sum-add n (x c) (y c))
    (sum_below-bounded n (f c) (λ u. x c u + y c u) (λ u j. h c u l j)) in
    let all = sum_below-bounded m (λ c. sum_below n (f c)) (λ c. count_sum n (x c) + count_sum n (y c)) row in
    let parts = count_sum-add m (λ c. count_sum n (x c)) (λ c. count_sum n (y c)) in
    omega (arith, all, parts, rows_sum-le k xs m n e, rows_sum-le k ys m n d)

-- ---- what the prices add

bands_small : (inst : Tables) (prices : PriceList) (i s : ℕ) → IsFitting inst → IsPriceList inst prices
    → i < length inst.names → unsigned_abs (band_part inst prices i s)
    ≤ 100_000_000_000_000_000_000 * sum prices.up + 100_000_000_000_000_000_000 * sum prices.lo
unfolding band_part
bands_small inst prices i s f h l =
    rows_bounded 100_000_000_000_000_000_000 prices.up prices.lo (length inst.resource_names) inst.periods
    (λ c u. band_share inst prices i s c (u + 1)) h.up_each h.lo_each
    (λ c u m n. one (up_of inst prices c (u + 1)) (lo_of inst prices c (u + 1)) (load_at inst c (u + 1) i (Some s))
    (load_at_small inst c (u + 1) i (Some s) f l))
  where
    gap : (u v : ℕ) → unsigned_abs (pos u -ℤ pos v) ≤ u + v
    gap u v = omega (arith, signed_arith)

    one : (u v : ℕ) (z : ℤ) → unsigned_abs z ≤ 10 ^ 20 → unsigned_abs ((pos u -ℤ pos v) *ℤ z)
        ≤ 100_000_000_000_000_000_000 * u + 100_000_000_000_000_000_000 * v
    one u v z k =
        let p = abs-product (pos u -ℤ pos v) z (u + v) 100_000_000_000_000_000_000 (gap u v) (omega (arith, k)) in
        omega (arith, p)

shares_small : (inst : Tables) (xs : List ExPrice) (i s : ℕ) → ex_part inst xs i s ≤ 2 * ex_total xs
unfolding ex_part ex_total ex_share
shares_small inst [] i s = omega arith
shares_small inst (x ∷ xs) i s =
    let one = at (in_run inst i s x.period) (eqb (exclusion_of inst x.exclusion).first i)
    (eqb (exclusion_of inst x.exclusion).second i) x.value in
    omega (arith, one, shares_small inst xs i s)
  where
    at : (r a b : Bool) (v : ℕ) → cond r (v * (cond a 1 0 + cond b 1 0)) 0 ≤ 2 * v
    at true true true v = omega arith
    at true true false v = omega arith
    at true false true v = omega arith
    at true false false v = omega arith
    at false a b v = omega arith

limits_small : (inst : Tables) (prices : PriceList) → IsFitting inst → IsPriceList inst prices
    → unsigned_abs
    (sum_below (length inst.resource_names) (λ c. sum_below inst.periods (λ u. limit_share inst prices c (u + 1))))
    ≤ 200_000_000_000_000_000_000 * sum prices.up + 200_000_000_000_000_000_000 * sum prices.lo
limits_small inst prices f h =
    rows_bounded 200_000_000_000_000_000_000 prices.up prices.lo (length inst.resource_names) inst.periods
    (λ c u. limit_share inst prices c (u + 1)) h.up_each h.lo_each
    (λ c u m n. one (up_of inst prices c (u + 1)) (lo_of inst prices c (u + 1)) (upper_of inst c (u + 1))
    (lower_of inst c (u + 1)) (upper_of_small inst c (u + 1) f) (lower_of_small inst c (u + 1) f))
  where
    product : (n : ℕ) (z : ℤ) → unsigned_abs z < 2 * 10 ^ 20
        → unsigned_abs (pos n *ℤ z) ≤ n * 200_000_000_000_000_000_000
    product n z l = abs-product (pos n) z n 200_000_000_000_000_000_000 (omega arith) (omega (arith, l))

    both : (a b : ℤ) (m n : ℕ) → unsigned_abs a ≤ m → unsigned_abs b ≤ n → unsigned_abs (a -ℤ b) ≤ n + m
    both a b m n k l = omega (arith, signed_arith, k, l)

    one : (u v : ℕ) (y z : ℤ) → unsigned_abs y < 2 * 10 ^ 20 → unsigned_abs z < 2 * 10 ^ 20
        → unsigned_abs ((pos v *ℤ z) -ℤ (pos u *ℤ y))
        ≤ 200_000_000_000_000_000_000 * u + 200_000_000_000_000_000_000 * v
    one u v y z k l =
        let p = both (pos v *ℤ z) (pos u *ℤ y) (v * 200_000_000_000_000_000_000) (u * 200_000_000_000_000_000_000)
        (product v z l) (product u y k) in
        omega (arith, p)

fixed_small : (inst : Tables) (prices : PriceList) → IsFitting inst → IsPriceList inst prices
    → price_total prices ≤ 40_000_000_000 → unsigned_abs (fixed_part inst prices) ≤ 10 ^ 31
unfolding fixed_part price_total
fixed_small inst prices f h few =
    less (sum_below (length inst.resource_names) (λ c. sum_below inst.periods (λ u. limit_share inst prices c (u + 1))))
    (sum prices.up) (sum prices.lo) (ex_total prices.ex) (limits_small inst prices f h) few
  where
    less : (z : ℤ) (u v t : ℕ) → unsigned_abs z ≤ 200_000_000_000_000_000_000 * u + 200_000_000_000_000_000_000 * v
        → u + v + t ≤ 40_000_000_000 → unsigned_abs (z -ℤ pos (1_000_000_000_000 * t)) ≤ 10 ^ 31
    less z u v t k l = omega (arith, signed_arith, k, l)

price_small : (base : ℕ → ℕ → ℤ) (inst : Tables) (prices : PriceList) (i s : ℕ) → IsFitting inst
    → IsPriceList inst prices → price_total prices ≤ 40_000_000_000 → i < length inst.names
    → unsigned_abs (base i s) < 10 ^ 30
    → unsigned_abs (price_of base inst prices i s) ≤ 10_000_000_000_000_000_000_000_000_000_000
unfolding price_of price_total
price_small base inst prices i s f h few l b =
    added (base i s) (band_part inst prices i s) (ex_part inst prices.ex i s) (sum prices.up) (sum prices.lo)
    (ex_total prices.ex) b (bands_small inst prices i s f h l) (shares_small inst prices.ex i s) few
  where
    added : (a b : ℤ) (n u v t : ℕ) → unsigned_abs a < 10 ^ 30
        → unsigned_abs b ≤ 100_000_000_000_000_000_000 * u + 100_000_000_000_000_000_000 * v → n ≤ 2 * t
        → u + v + t ≤ 40_000_000_000 → unsigned_abs ((a +ℤ b) +ℤ pos (1_000_000_000_000 * n))
        ≤ 10_000_000_000_000_000_000_000_000_000_000
    added a b n u v t h k l m = omega (arith, signed_arith, h, k, l, m)

-- ---- the worth of a box

-- what a filter keeps passes its test
pub kept_passes : (p : ℕ → Bool) (xs : List ℕ) (x : ℕ) → Contains (filter p xs) x → p x ≡ true
kept_passes p [] x (k, h, e) = absurd (omega (arith, h))
kept_passes p (y ∷ xs) x c = at (p y) refl (kept_passes p xs x) c
  where
    at : (b : Bool) → p y ≡ b → (Contains (filter p xs) x → p x ≡ true)
        → Contains (cond b (y ∷ filter p xs) (filter p xs)) x → p x ≡ true
    at true t rest (zero, h, e) = ap p (sym e) ∙ t
    at true t rest (suc k, h, e) = rest (k, omega (arith, h), e)
    at false t rest c = rest c

least_small : (base : ℕ → ℕ → ℤ) (inst : Tables) (prices : PriceList) (box : List Span) (i : ℕ) → IsFitting inst
    → IsPriceList inst prices → price_total prices ≤ 40_000_000_000 → i < length inst.names
    → ((s : ℕ) → IsTrue (is_allowed inst i s) → unsigned_abs (base i s) < 10 ^ 30)
    → 0 < length (starts_in inst i (span_of box i))
    → unsigned_abs (least_over (price_of base inst prices i) (starts_in inst i (span_of box i)))
    ≤ 10_000_000_000_000_000_000_000_000_000_000
unfolding starts_in
least_small base inst prices box i f h few l b some =
    let span = span_of box i in
    let w = least_over_reached (price_of base inst prices i) (starts_in inst i (span_of box i)) some in
    let passes = kept_passes (is_allowed inst i) (range_with_len span.from (span.to + 1 - span.from)) w.0 w.1 in
    subst (λ (z : ℤ). unsigned_abs z ≤ 10_000_000_000_000_000_000_000_000_000_000) (sym w.2)
    (price_small base inst prices i w.0 f h few l (b w.0 passes))

pub WorthsAreSmall-from : (base : Bases) → BasesAreSmall base → WorthsAreSmall base
unfolding worth_of
WorthsAreSmall-from base small inst prices box f h few some =
    let leasts = sum_below-within (length inst.names) 10_000_000_000_000_000_000_000_000_000_000
    (λ i. least_over (price_of (base inst prices) inst prices i) (starts_in inst i (span_of box i)))
    (λ i l. least_small (base inst prices) inst prices box i f h few l (λ s a. small inst prices i s f h l a)
    (some i l)) in
    let fixed = fixed_small inst prices f h few in
    let both = abs-sum (sum_below (length inst.names) (λ i. least_over (price_of (base inst prices) inst prices i)
    (starts_in inst i (span_of box i)))) (fixed_part inst prices) in
    omega (arith, leasts, fixed, both, f.names.few)
