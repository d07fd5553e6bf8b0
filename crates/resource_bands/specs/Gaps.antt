-- How far loads are outside their limits, and how a run changes them.
use Rattle.std.specs.Prelude.{◌≡◌, ℕ, ◌+◌, ◌*◌, ◌^◌, ◌<◌, ◌≤◌, ℤ, pos, ◌+ℤ◌, ◌-ℤ◌, neg_ℤ, List, [], length, Option}
use Rattle.std.specs.Prelude.{Some, None, slice_index_or, unsigned_abs}
use Rattle.std.specs.Int.{int_max}
use Rattle.fixed_num.specs.Sums.{sum_below}
use Rattle.instance_model.specs.Tables.{Tables, upper_of, lower_of}
use Rattle.instance_model.specs.Plans.{load_at}
use Rattle.resource_bands.specs.declared.change.Change.{Change}
use Rattle.resource_bands.specs.declared.change.Change.TheVariants.{Add, Take}

-- a load of resource c in period t: how far it is above its upper limit, and how far below its lower one
unfoldable pub gap_at : Tables → ℕ → ℕ → ℤ → ℤ
gap_at inst c t load = int_max (pos 0) (load -ℤ upper_of inst c t) +ℤ int_max (pos 0) (lower_of inst c t -ℤ load)

-- how far the loads of resource c by period are outside their limits
unfoldable pub row_gap : Tables → ℕ → List ℤ → ℤ
row_gap inst c row = sum_below inst.periods (λ u. gap_at inst c (u + 1) (slice_index_or row u (pos 0)))

-- how far loads by resource, then period, are outside their limits
unfoldable pub rows_gap : Tables → List (List ℤ) → ℤ
rows_gap inst rows = sum_below (length inst.resource_names) (λ c. row_gap inst c (slice_index_or rows c []))

-- a workload as it changes a load: added, or taken off
abbrev pub signed : Change → ℤ → ℤ
signed Add work = work
signed Take work = neg_ℤ work

-- the start on board before a run at start s is put on board or taken off, and after that
abbrev pub start_before : Change → ℕ → Option ℕ
start_before Add s = None
start_before Take s = Some s

abbrev pub start_after : Change → ℕ → Option ℕ
start_after Add s = Some s
start_after Take s = None

-- a row has one load for each period, and each is as small as a sum of 1,024 workloads
pub record IsRow (inst : Tables) (row : List ℤ) : Type 0 where
  pub each : length row ≡ inst.periods
  pub small : (u : ℕ) → u < inst.periods → unsigned_abs (slice_index_or row u (pos 0)) ≤ 1024 * 10 ^ 20

-- the loads of resource c are changed by the workloads of intervention i at start s
pub record IsRowChanged (inst : Tables) (c i s : ℕ) (change : Change) (old new : List ℤ) : Type 0 where
  pub each : length new ≡ length old
  pub loads : (u : ℕ) → u < inst.periods
      → slice_index_or new u (pos 0) ≡ slice_index_or old u (pos 0) +ℤ signed change (load_at inst c (u + 1) i (Some s))

-- one row for each resource
pub record AreRows (inst : Tables) (rows : List (List ℤ)) : Type 0 where
  pub each : length rows ≡ length inst.resource_names
  pub each_row : (c : ℕ) → c < length inst.resource_names → IsRow inst (slice_index_or rows c [])

-- the loads of all resources are changed by the workloads of intervention i at start s
pub record AreRowsChanged (inst : Tables) (i s : ℕ) (change : Change) (old new : List (List ℤ)) : Type 0 where
  pub each : length new ≡ length old
  pub each_row : (c : ℕ) → c < length inst.resource_names
      → IsRowChanged inst c i s change (slice_index_or old c []) (slice_index_or new c [])
