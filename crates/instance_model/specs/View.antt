-- The tables that the fields of an instance stand for, and the columns that say where its entries stand.
use Rattle.std.specs.Prelude.{◌≡◌, ℕ, ◌+◌, ◌-◌, ◌<◌, ◌≤◌, map, length, slice_index, slice_index_or, List}
use Rattle.std.specs.Prelude.{[], Vec, sum, take}
use Rattle.std.specs.declared.alloc.Global.{Global}
use Rattle.instance_model.specs.declared.parts.Parts.{Parts}
use Rattle.instance_model.specs.declared.offsets.Offsets.{Offsets}
use Rattle.instance_model.specs.Fields.{field_tables}
use Rattle.instance_model.specs.Tables.{Tables, tmax, entries_before}

-- the parts as tables
abbrev pub tables_of : Parts → Tables
tables_of p =
    field_tables p.periods p.alpha p.quantile p.scenarios.items p.resources.texts.keys p.upper.items p.lower.items
    p.seasons.texts.keys p.in_season.items p.interventions.texts.keys p.delta.items p.exclusions.texts.keys
    p.excluded.items p.loads.items p.risks p.rounded

-- the lists in a list of vectors
abbrev pub rows_of : List (Vec ℕ Global) → List (List ℕ)
rows_of rows = map (λ v. v.items) rows

-- the number of period t in a column
abbrev pub column_at : List ℕ → ℕ → ℕ
column_at column t = slice_index column (t - 1)

-- a column by period, with one number more for the end of the horizon: none falls, and none is large
pub record IsColumn (periods : ℕ) (column : List ℕ) : Type 0 where
  pub each : length column ≡ periods + 1
  pub rises : (a b : ℕ) → a ≤ b → b ≤ periods → slice_index column a ≤ slice_index column b
  pub small : (a : ℕ) → a ≤ periods → slice_index column a ≤ 524_288

-- a column has the numbers of a function of periods
pub record IsColumnOf (periods : ℕ) (before : ℕ → ℕ) (column : List ℕ) : Type 0 where
  pub sound : IsColumn periods column
  pub values : (t : ℕ) → 1 ≤ t → t ≤ periods + 1 → column_at column t ≡ before t

-- how many entries stand before those of intervention i, by start
pub record AreRowPlaces (inst : Tables) (before : ℕ → ℕ) (i : ℕ) (row : List ℕ) : Type 0 where
  pub each : length row ≡ tmax inst i
  pub places : (k : ℕ) → k < tmax inst i → slice_index row k ≡ entries_before inst before i (k + 1)

-- the offsets are those of entries by intervention, allowed start and period of the run
pub record AreOffsets (inst : Tables) (o : Offsets) : Type 0 where
  pub sound : IsColumn inst.periods o.before.items
  pub each : length o.places.items ≡ length inst.delta
  pub rows : (i : ℕ) → i < length inst.delta
      → AreRowPlaces inst (column_at o.before.items) i (slice_index_or (rows_of o.places.items) i [])

-- how many of the counts stand before each one, and before the end
pub record AreSums (counts sums : List ℕ) : Type 0 where
  pub each : length sums ≡ length counts + 1
  pub up_to : (t : ℕ) → t ≤ length counts → slice_index sums t ≡ sum (take t counts)
