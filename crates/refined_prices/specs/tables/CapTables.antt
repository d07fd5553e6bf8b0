-- What the cap table keeps: by resource, then period, what all interventions together can take away.
use Rattle.std.specs.Prelude.{◌≡◌, ℕ, ◌+◌, ◌-◌, ◌*◌, ◌<◌, ◌≤◌, ℤ, pos, List, length, slice_index_or}
use Rattle.fixed_num.specs.Sums.{sum_below}
use Rattle.instance_model.specs.Tables.{Tables}
use Rattle.refined_prices.specs.Caps.{most_taken}

-- the place of resource c in period t
abbrev pub band_place : ℕ → ℕ → ℕ → ℕ
band_place periods c t = c * periods + (t - 1)

-- a list by resource, then period, has the numbers of a function
pub record AreByBand (inst : Tables) (f : ℕ → ℕ → ℤ) (numbers : List ℤ) : Type 0 where
  pub each : length numbers ≡ length inst.resource_names * inst.periods
  pub at : (c t : ℕ) → c < length inst.resource_names → 1 ≤ t → t ≤ inst.periods
      → slice_index_or numbers (band_place inst.periods c t) (pos 0) ≡ f c t

-- the numbers are what all interventions together can take away
abbrev pub IsCapTable : Tables → List ℤ → Type 0
IsCapTable inst numbers = AreByBand inst (λ c t. sum_below (length inst.names) (most_taken inst c t)) numbers
