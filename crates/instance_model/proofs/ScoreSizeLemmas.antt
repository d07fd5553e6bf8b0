-- How large the numbers of a period, and the score of a plan, can be.
use Rattle.std.proofs.Common.{◌^◌, ◌≡◌, ℕ, ◌+◌, ◌-◌, ◌*◌, ◌<◌, ◌≤◌, refl, subst, arith, ℤ, pos, ◌+ℤ◌, ◌-ℤ◌, ◌*ℤ◌, List}
use Rattle.std.proofs.Common.{[], ◌∷◌, length, All, Bool, true, false, unsigned_abs, Option, unwrap_or, find}
use Rattle.std.specs.Int.{int_max}
use Rattle.std.specs.List.{AllByRecursion}
use Rattle.std.proofs.lemmas.List.Elements.{recursion_from_All}
use Rattle.fixed_num.specs.Floors.{floor_of}
use Rattle.fixed_num.specs.Rank.{mth_smallest, has_rank}
use Rattle.fixed_num.specs.Sums.{total}
use Rattle.fixed_num.proofs.FloorLemmas.{floor_within}
use Rattle.fixed_num.proofs.SignedLemmas.{signed_arith, abs-product}
use Rattle.fixed_num.proofs.SumLemmas.{sum_below-within, abs-sum}
use Rattle.instance_model.specs.Tables.{Tables, scenarios_of, rank_of}
use Rattle.instance_model.specs.Fitting.{IsFitting}
use Rattle.instance_model.specs.Plans.{scenario_sums, IsSmallSum}
use Rattle.instance_model.specs.Values.{excess_in, numerator_in, numerator_of, sum_of_floors, score_of}
use Rattle.instance_model.proofs.FitLemmas.{scenarios_of_small}
use Rattle.instance_model.proofs.PlanLemmas.{length-scenario_sums, scenario_sums_small}

-- ---- of a list of scenario sums

total_within : (xs : List ℤ) → AllByRecursion IsSmallSum xs → unsigned_abs (total xs) ≤ length xs * (1024 * 10 ^ 20)
unfolding total
total_within [] a = omega arith
total_within (x ∷ xs) a =
    let r = total_within xs a.1 in
    omega (arith, r, a.0.small, abs-sum x (total xs))

pub total_size : (xs : List ℤ) → All IsSmallSum xs → unsigned_abs (total xs) ≤ length xs * (1024 * 10 ^ 20)
total_size xs all = total_within xs (recursion_from_All IsSmallSum xs all)

found_small : (p : ℤ → Bool) (xs : List ℤ) → AllByRecursion IsSmallSum xs → IsSmallSum (unwrap_or (find p xs) (pos 0))
found_small p [] a = record { small = omega arith }
found_small p (x ∷ xs) a = at (p x) refl (found_small p xs a.1)
  where
    at : (b : Bool) → p x ≡ b → IsSmallSum (unwrap_or (find p xs) (pos 0))
        → IsSmallSum (unwrap_or (find p (x ∷ xs)) (pos 0))
    at true e rest = rw e a.0
    at false e rest = rw e rest

mth_small : (m : ℕ) (xs : List ℤ) → All IsSmallSum xs → IsSmallSum (mth_smallest m xs)
unfolding mth_smallest
mth_small m xs all = found_small (has_rank m xs) xs (recursion_from_All IsSmallSum xs all)

excess_size : (n : ℕ) (q s : ℤ) → unsigned_abs q ≤ 1024 * 10 ^ 20 → unsigned_abs s ≤ n * (1024 * 10 ^ 20)
    → unsigned_abs (int_max (pos 0) (pos n *ℤ q -ℤ s)) ≤ n * (2 * 1024 * 10 ^ 20)
excess_size n q s small sum = at (pos n *ℤ q) (abs-product (pos n) q n (1024 * 10 ^ 20) (omega arith) small)
  where
    at : (p : ℤ) → unsigned_abs p ≤ n * (1024 * 10 ^ 20)
        → unsigned_abs (int_max (pos 0) (p -ℤ s)) ≤ n * (2 * 1024 * 10 ^ 20)
    at p h = omega (arith, signed_arith, h, sum)

weighted_size : (a n : ℕ) (s e : ℤ) → a ≤ 1_000_000 → unsigned_abs s ≤ n * (1024 * 10 ^ 20)
    → unsigned_abs e ≤ n * (2 * 1024 * 10 ^ 20)
    → unsigned_abs ((pos a *ℤ s) +ℤ (pos (1_000_000 - a) *ℤ e)) ≤ 3 * 1024 * 10 ^ 26 * n
weighted_size a n s e h sum excess =
    let p = abs-product (pos a) s 1_000_000 (n * (1024 * 10 ^ 20)) h sum in
    let q = abs-product (pos (1_000_000 - a)) e 1_000_000 (n * (2 * 1024 * 10 ^ 20)) (omega arith) excess in
    omega (arith, p, q, abs-sum (pos a *ℤ s) (pos (1_000_000 - a) *ℤ e))

pub numerator_in-size : (alpha rank : ℕ) (xs : List ℤ) → alpha ≤ 1_000_000 → All IsSmallSum xs
    → unsigned_abs (numerator_in alpha rank xs) ≤ 3 * 1024 * 10 ^ 26 * length xs
unfolding numerator_in excess_in
numerator_in-size alpha rank xs h all =
    let sum = total_size xs all in
    let quantile = mth_small rank xs all in
    let e = int_max (pos 0) (pos (length xs) *ℤ mth_smallest rank xs -ℤ total xs) in
    let excess = excess_size (length xs) (mth_smallest rank xs) (total xs) quantile.small sum in
    weighted_size alpha (length xs) (total xs) e h sum excess

-- ---- of a plan

-- the numerator of a period, by the number of its scenarios
pub numerator_of_size : (inst : Tables) (plan : List (Option ℕ)) (t : ℕ) → IsFitting inst
    → unsigned_abs (numerator_of inst plan t) ≤ 3 * 1024 * 10 ^ 26 * scenarios_of inst t
numerator_of_size inst plan t fit =
    let small = scenario_sums_small inst plan t fit in
    let size = numerator_in-size inst.alpha (rank_of inst t) (scenario_sums inst plan t) fit.alpha small in
    let Within : ℕ → Type 0 = λ n. unsigned_abs (numerator_of inst plan t) ≤ 3 * 1024 * 10 ^ 26 * n in
    subst Within (length-scenario_sums inst plan t) size

-- the score of a plan is below 10^33 in absolute value
pub score_of_small : (inst : Tables) (plan : List (Option ℕ)) → IsFitting inst
    → unsigned_abs (score_of inst plan) < 10 ^ 33
unfolding sum_of_floors
score_of_small inst plan fit =
    let top : ℕ → ℤ = λ u. numerator_of inst plan (u + 1) in
    let n : ℕ → ℕ = λ u. scenarios_of inst (u + 1) in
    let some : (u : ℕ) → u < inst.periods → 1 ≤ scenarios_of inst (u + 1) =
    λ u l. (scenarios_of_small inst (u + 1) fit (omega arith) (omega (arith, l))).0 in
    let within = sum_below-within inst.periods (3 * 1024 * 10 ^ 26) (λ u. floor_of (top u) (n u))
    (λ u l. floor_within (top u) (n u) (3 * 1024 * 10 ^ 26) (some u l) (numerator_of_size inst plan (u + 1) fit)) in
    omega (arith, within, fit.few_periods)
