-- The laws of the goal of few changes: the bases of a plan's starts add up to its value, and both are small. They stand
-- here, with the lemmas that they rest on, since what an impl gives as a law may not come from proofs/.
use Rattle.std.proofs.Common.{◌≡◌, ℕ, zero, suc, ◌+◌, ◌*◌, ◌<◌, ◌≤◌, ◌^◌, refl, ◌∙◌, ap, subst, arith, ℤ, pos, ◌+ℤ◌}
use Rattle.std.proofs.Common.{◌≤ℤ◌, Bool, true, false, cond, List, length, get_or, Option, unsigned_abs}
use Rattle.fixed_num.specs.Sums.{sum_below}
use Rattle.fixed_num.proofs.SignedLemmas.{signed_arith}
use Rattle.instance_model.specs.Naturals.{count_sum}
use Rattle.instance_model.specs.Tables.{Tables}
use Rattle.instance_model.specs.Plans.{start_of}
use Rattle.lagrange_bound.specs.Prices.{PriceList}
use Rattle.lagrange_bound.specs.Goals.{BasesBoundValue, BasesAreSmall, ValuesAreSmall}
use Rattle.plan_changes.specs.Changes.{is_changed, changes_of, change_base, change_value}

base_step : (b : Bool) (count : ℕ) → pos (1_000_000_000_000_000_000 * count)
    +ℤ cond b (pos 1_000_000_000_000_000_000) (pos 0)
    ≡ pos (1_000_000_000_000_000_000 * (count + cond b 1 0))
base_step true count = omega (arith, signed_arith)
base_step false count = omega (arith, signed_arith)

-- bases of 10^18 where a test holds, and 0 elsewhere, add up to 10^18 times the number of places where it holds
bases_count : (n : ℕ) (b : ℕ → Bool) → sum_below n (λ i. cond (b i) (pos 1_000_000_000_000_000_000) (pos 0))
    ≡ pos (1_000_000_000_000_000_000 * count_sum n (λ i. cond (b i) 1 0))
unfolding sum_below count_sum
bases_count zero b = refl
bases_count (suc n) b =
    ap (λ z. z +ℤ cond (b n) (pos 1_000_000_000_000_000_000) (pos 0)) (bases_count n b)
    ∙ base_step (b n) (count_sum n (λ i. cond (b i) 1 0))

small_step : (b : Bool) → cond b 1 0 ≤ 1
small_step true = omega arith
small_step false = omega arith

-- at most n places of n
count_few : (n : ℕ) (b : ℕ → Bool) → count_sum n (λ i. cond (b i) 1 0) ≤ n
unfolding count_sum
count_few zero b = omega arith
count_few (suc n) b = omega (arith, count_few n b, small_step (b n))

-- there are at most as many changes as starts
pub changes_few : (old : List (Option ℕ)) (starts : List ℕ) → changes_of old starts ≤ length starts
unfolding changes_of
changes_few old starts = count_few (length starts) (λ i. is_changed (start_of old i) (get_or starts i 0))

-- the bases of a plan's starts add up to its value
pub bases_add_up : (old : List (Option ℕ)) (inst : Tables) (prices : PriceList) (starts : List ℕ)
    → sum_below (length starts) (λ i. change_base old inst prices i (get_or starts i 0)) ≡ change_value old inst starts
unfolding change_base change_value changes_of
bases_add_up old inst prices starts =
    bases_count (length starts) (λ i. is_changed (start_of old i) (get_or starts i 0))

at_most_same : (a b : ℤ) → a ≡ b → a ≤ℤ b
at_most_same a b e = subst (λ (z : ℤ). a ≤ℤ z) e (omega (arith, signed_arith))

pub change_law : (old : List (Option ℕ)) → BasesBoundValue (change_base old) (change_value old)
change_law old inst prices starts fit r a =
    subst (λ (n : ℕ). sum_below n (λ i. change_base old inst prices i (get_or starts i 0))
    ≤ℤ change_value old inst starts) a.each
    (at_most_same (sum_below (length starts) (λ i. change_base old inst prices i (get_or starts i 0)))
    (change_value old inst starts) (bases_add_up old inst prices starts))

small_base : (b : Bool) → unsigned_abs (cond b (pos 1_000_000_000_000_000_000) (pos 0)) < 10 ^ 30
small_base true = omega arith
small_base false = omega arith

pub change_bases_small : (old : List (Option ℕ)) → BasesAreSmall (change_base old)
unfolding change_base
change_bases_small old inst prices i s fit r l a = small_base (is_changed (start_of old i) s)

pub change_values_small : (old : List (Option ℕ)) → ValuesAreSmall (change_value old)
unfolding change_value
change_values_small old inst starts fit a = omega (arith, changes_few old starts, a.each, fit.names.few)
