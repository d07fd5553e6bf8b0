-- Sums of the prices of exclusions, by intervention and period.
use Rattle.std.specs.Prelude.{◌≡◌, ℕ, ◌+◌, ◌-◌, ◌*◌, ◌<◌, ◌≤◌, List, [], ◌∷◌, length, nat_le, ◌==◌, if◌then◌else◌}
use Rattle.std.specs.Prelude.{slice_index}
use Rattle.instance_model.specs.Naturals.{count_sum}
use Rattle.instance_model.specs.Tables.{Tables, exclusion_of}
use Rattle.lagrange_bound.specs.declared.ex_price.ExPrice.{ExPrice}
use Rattle.lagrange_bound.specs.Worth.{times_named}

-- what a price counts for intervention i
abbrev pub named_value : Tables → ExPrice → ℕ → ℕ
named_value inst x i = x.value * times_named (exclusion_of inst x.exclusion) i

-- what it counts in period t
abbrev pub value_at : Tables → ExPrice → ℕ → ℕ → ℕ
value_at inst x i t = if x.period == t then named_value inst x i else 0

-- what all prices count for intervention i in period t
unfoldable pub ex_at : Tables → List ExPrice → ℕ → ℕ → ℕ
ex_at inst [] i t = 0
ex_at inst (x ∷ xs) i t = value_at inst x i t + ex_at inst xs i t

-- what they count for it in the periods up to t
unfoldable pub ex_until : Tables → List ExPrice → ℕ → ℕ → ℕ
ex_until inst [] i t = 0
ex_until inst (x ∷ xs) i t = (if nat_le x.period t then named_value inst x i else 0) + ex_until inst xs i t

-- the place of a sum, by intervention, then period
abbrev pub sum_place : Tables → ℕ → ℕ → ℕ
sum_place inst i t = i * inst.periods + (t - 1)

-- the sums are those of these prices
pub record AreExSums (inst : Tables) (xs : List ExPrice) (sums : List ℕ) : Type 0 where
  pub each : length sums ≡ length inst.names * inst.periods
  pub at : (i t : ℕ) → i < length inst.names → 1 ≤ t → t ≤ inst.periods
      → slice_index sums (sum_place inst i t) ≡ ex_at inst xs i t

-- the sums of the numbers from a place on: of none, of the first, of the first two, .., of the first n
pub record ArePrefixes (n : ℕ) (numbers : List ℕ) (from : ℕ) (prefixes : List ℕ) : Type 0 where
  pub each : length prefixes ≡ n + 1
  pub until : (t : ℕ) → t ≤ n → slice_index prefixes t ≡ count_sum t (λ u. slice_index numbers (from + u))

-- the sums for intervention i up to each period
pub record AreExBefore (inst : Tables) (xs : List ExPrice) (i : ℕ) (before : List ℕ) : Type 0 where
  pub each : length before ≡ inst.periods + 1
  pub until : (t : ℕ) → t ≤ inst.periods → slice_index before t ≡ ex_until inst xs i t
