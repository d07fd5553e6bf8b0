-- The prices of the starts of an intervention by a refined price list, as a row.
use Rattle.std.specs.Prelude.{◌≡◌, ℕ, ◌-◌, ◌*◌, ◌≤◌, ◌^◌, ℤ, pos, List, length, map, Option, Some, None, if◌then◌else◌}
use Rattle.std.specs.Prelude.{slice_index_or, unsigned_abs}
use Rattle.std.specs.List.{range_with_len}
use Rattle.instance_model.specs.Tables.{Tables, tmax, is_allowed}
use Rattle.refined_prices.specs.RefinedLists.{RefinedList}
use Rattle.refined_prices.specs.RefinedWorth.{counted_part, refined_price}

-- the price of a start, or nothing where it isn't allowed
abbrev pub refined_entry : Tables → RefinedList → ℕ → ℕ → Option ℤ
refined_entry inst list i s = if is_allowed inst i s then Some (refined_price inst list i s) else None

-- the entries of intervention i
abbrev pub refined_row : Tables → RefinedList → ℕ → List (Option ℤ)
refined_row inst list i = map (refined_entry inst list i) (range_with_len 1 (tmax inst i))

-- costs by start are what the prices on limits add at each start of intervention i
pub record AreCostsOf (inst : Tables) (list : RefinedList) (i : ℕ) (costs : List ℤ) : Type 0 where
  pub each : length costs ≡ tmax inst i
  pub at : (s : ℕ) → 1 ≤ s → s ≤ tmax inst i → slice_index_or costs (s - 1) (pos 0) ≡ counted_part inst list i s
  pub small : (k : ℕ) → unsigned_abs (slice_index_or costs k (pos 0)) ≤ 32_000_000 * 2 * 10 ^ 29
