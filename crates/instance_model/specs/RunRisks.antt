-- Defines the tables that the risks of runs stand for, and what they have to be.
use Rattle.std.specs.Prelude.{◌≡◌, ℕ, ◌+◌, ◌-◌, ◌<◌, ◌≤◌, ℤ, Bool, true, false, List, [], flat_map, length, map}
use Rattle.std.specs.Prelude.{slice_index_or}
use Rattle.std.specs.Coded.{Coded-set, coded_ℕ, Unit-prop}
use Rattle.instance_model.specs.declared.run_risks.RunRisks.{RunRisks}
use Rattle.instance_model.specs.declared.run_risks.RunRisks.TheVariants.{InOrder, AsRead}
use Rattle.instance_model.specs.declared.run_risks.ReadRisks.{ReadRisks}
use Rattle.instance_model.specs.Naturals.{count_sum}
use Rattle.instance_model.specs.RiskLists.{RiskRow}
use Rattle.instance_model.specs.Tables.{Tables, scenarios_of, delta_of, is_allowed, entries_at, entries_of}
use Rattle.instance_model.specs.Tables.{periods_before}

-- no list of risks
abbrev pub no_list : RiskRow
no_list = record { period = 0; start = 0; values = []; soft = false }

-- the lists of an intervention by allowed start, then period of the run
abbrev pub runs_of : ReadRisks → List RiskRow
runs_of w = map (λ k. slice_index_or w.lists k no_list) w.order.items

-- the numbers of some lists, one behind another
abbrev pub values_of : List RiskRow → List ℤ
values_of rows = flat_map (λ r. r.values) rows

-- which of some lists are soft
abbrev pub flags_of : List RiskRow → List Bool
flags_of rows = map (λ r. r.soft) rows

-- the risks by intervention, allowed start, period of the run, scenario
abbrev pub risks_of : RunRisks → List ℤ
risks_of (InOrder numbers soft) = numbers.items
risks_of (AsRead works) = flat_map values_of (map runs_of works.items)

-- the flags by intervention, allowed start, period of the run
abbrev pub softs_of : RunRisks → List Bool
softs_of (InOrder numbers soft) = soft.items
softs_of (AsRead works) = flat_map flags_of (map runs_of works.items)

-- which of the lists of intervention i is that of start s in period t
unfoldable pub list_place : Tables → ℕ → ℕ → ℕ → ℕ
list_place inst i s t = count_sum (s - 1) (λ k. entries_at inst periods_before i (k + 1)) + (t - s)

-- the lists of intervention i: one in each period of each allowed run, with a number for each scenario
pub record AreRuns (inst : Tables) (i : ℕ) (rows : List RiskRow) : Type 0 where
  pub each : length rows ≡ entries_of inst periods_before i
  pub counts : (s t : ℕ) → is_allowed inst i s ≡ true → s ≤ t → t < s + delta_of inst i s
      → length (slice_index_or rows (list_place inst i s t) no_list).values ≡ scenarios_of inst t

-- the lists of all interventions
pub record AreAllRuns (inst : Tables) (rows : List (List RiskRow)) : Type 0 where
  pub works : length rows ≡ length inst.names
  pub runs : (i : ℕ) → i < length inst.names → AreRuns inst i (slice_index_or rows i [])

-- risks that were read are those of the runs
abbrev pub SuitRuns : Tables → RunRisks → Type 0
SuitRuns inst (InOrder numbers soft) = Unit {0}
SuitRuns inst (AsRead works) = AreAllRuns inst (map runs_of works.items)

-- ---- each of these facts has one proof at most

AreRuns-prop : (inst : Tables) (i : ℕ) (rows : List RiskRow) → IsProp (AreRuns inst i rows)
AreRuns-prop inst i rows x y = λ k. record {
  each = Coded-set coded_ℕ _ _ x.each y.each k;
  counts = λ s t al from to. Coded-set coded_ℕ _ _ (x.counts s t al from to) (y.counts s t al from to) k;
}

AreAllRuns-prop : (inst : Tables) (rows : List (List RiskRow)) → IsProp (AreAllRuns inst rows)
AreAllRuns-prop inst rows x y = λ k. record {
  works = Coded-set coded_ℕ _ _ x.works y.works k;
  runs = λ i h. AreRuns-prop inst i (slice_index_or rows i []) (x.runs i h) (y.runs i h) k;
}

pub SuitRuns-prop : (inst : Tables) (risks : RunRisks) → IsProp (SuitRuns inst risks)
SuitRuns-prop inst (InOrder numbers soft) = Unit-prop
SuitRuns-prop inst (AsRead works) = AreAllRuns-prop inst (map runs_of works.items)
