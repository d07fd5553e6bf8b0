-- Defines what is kept of the events of a text, each with its spot and what was read of it: the rows that are filled,
-- and what of them is open. A part that is open is put among those that are closed at its closing bracket or brace.
use Rattle.std.specs.Prelude.{ℕ, ◌+◌, ℤ, Bool, true, false, List, [], ◌∷◌, ◌++◌, cond, bytes_eq}
use Rattle.std.specs.List.{list_any}
use Rattle.json_grammar.specs.Tree.{Event, finish, key}
use Rattle.instance_shape.specs.declared.spot.Spot.{Spot}
use Rattle.instance_shape.specs.declared.spot.Spot.TheVariants as spot
use Rattle.instance_rows.specs.FileRows.{BandRow, WorkloadRow, WorkRow, FileRows}
use Rattle.instance_rows.specs.RowFaults.{no_band, no_work}
use Rattle.instance_model.specs.RiskLists.{add_to_last}
use Rattle.shape_walk.specs.declared.taken.Read.{Read}
use Rattle.shape_walk.specs.declared.taken.Read.TheVariants.{Count, Whole, Millionths}
use Rattle.shape_walk.specs.Reads.{read_of}

-- ---- what was read

-- what a count, and whether reading has changed it, makes of something
abbrev pub with_count : {A : Type 0} → (ℤ → Bool → A → A) → Read → A → A
with_count f (Count z rounded) a = f z rounded a
with_count f _ a = a

abbrev pub with_whole : {A : Type 0} → (ℕ → A → A) → Read → A → A
with_whole f (Whole n) a = f n a
with_whole f _ a = a

abbrev pub with_millionths : {A : Type 0} → (ℕ → A → A) → Read → A → A
with_millionths f (Millionths n) a = f n a
with_millionths f _ a = a

-- ---- numbers

-- the number in place of the one before
abbrev pub put : ℕ → ℕ → ℕ
put n old = n

abbrev pub keep_periods : Spot → Event → Read → ℕ → ℕ
keep_periods spot.T e r n = with_whole put r n
keep_periods _ e r n = n

abbrev pub keep_alpha : Spot → Event → Read → ℕ → ℕ
keep_alpha spot.Alpha e r n = with_millionths put r n
keep_alpha _ e r n = n

abbrev pub keep_quantile : Spot → Event → Read → ℕ → ℕ
keep_quantile spot.Quantile e r n = with_millionths put r n
keep_quantile _ e r n = n

abbrev pub keep_scenarios : Spot → Event → Read → List ℕ → List ℕ
keep_scenarios spot.Scenario e r ns = with_whole (λ n ns. ns ++ n ∷ []) r ns
keep_scenarios _ e r ns = ns

-- how many counts differ from their numbers
abbrev pub keep_rounded : Read → ℕ → ℕ
keep_rounded r n = with_count (λ z rounded n. cond rounded (n + 1) n) r n

-- ---- names

-- a name behind others, if it is none of them
abbrev pub with_name : List ℕ → List (List ℕ) → List (List ℕ)
with_name name names = cond (list_any (bytes_eq name) names) names (names ++ name ∷ [])

-- the keys of the objects at some spot
abbrev pub keep_names : (Spot → Bool) → Spot → Event → List (List ℕ) → List (List ℕ)
keep_names here s (key at end k) names = cond (here s) (with_name k names) names
keep_names here s _ names = names

abbrev pub is_resources : Spot → Bool
is_resources spot.Resources = true
is_resources _ = false

abbrev pub is_seasons : Spot → Bool
is_seasons spot.Seasons = true
is_seasons _ = false

abbrev pub is_interventions : Spot → Bool
is_interventions spot.Interventions = true
is_interventions _ = false

abbrev pub is_exclusions : Spot → Bool
is_exclusions spot.Exclusions = true
is_exclusions _ = false

-- ---- lists of lists

pub record Lists (A : Type 0) : Type 0 where
  pub closed : List (List A)
  pub begun : List A

abbrev pub no_lists : {A : Type 0} → Lists A
no_lists = record { closed = []; begun = [] }

-- one element more in the list that is open
abbrev pub add : {A : Type 0} → A → Lists A → Lists A
add x l = record l { begun = l.begun ++ x ∷ [] }

abbrev pub close : {A : Type 0} → Lists A → Lists A
close l = record { closed = l.closed ++ l.begun ∷ []; begun = [] }

-- the periods of each season
abbrev pub keep_seasons : Spot → Event → Read → Lists ℕ → Lists ℕ
keep_seasons spot.SeasonPeriod e r l = with_whole add r l
keep_seasons spot.Season (finish at) r l = close l
keep_seasons _ e r l = l

-- the texts of each exclusion
abbrev pub keep_words : Spot → Event → Lists (List ℕ) → Lists (List ℕ)
keep_words spot.Word (Event.text at end x) l = add x l
keep_words spot.Exclusion (finish at) l = close l
keep_words _ e l = l

-- ---- resources

-- the limits of the resources, those of the resource that is open, and the numbers of its band that is open
pub record Bands : Type 0 where
  pub closed : List BandRow
  pub begun : BandRow
  pub numbers : List ℤ

abbrev pub no_bands : Bands
no_bands = record { closed = []; begun = no_band; numbers = [] }

abbrev pub keep_bands : Spot → Event → Read → Bands → Bands
keep_bands spot.BandLimit e r b = with_count (λ z rounded b. record b { numbers = b.numbers ++ z ∷ [] }) r b
keep_bands spot.Max (finish at) r b = record b { begun = record b.begun { most = b.numbers }; numbers = [] }
keep_bands spot.Min (finish at) r b = record b { begun = record b.begun { least = b.numbers }; numbers = [] }
keep_bands spot.Resource (finish at) r b = record b { closed = b.closed ++ b.begun ∷ []; begun = no_band }
keep_bands _ e r b = b

-- ---- interventions

-- the interventions, the one that is open, its workload that is open, and the period
-- and the start whose keys came last; 0 outside
pub record Works : Type 0 where
  pub closed : List WorkRow
  pub begun : WorkRow
  pub workload : WorkloadRow
  pub period : ℕ
  pub start : ℕ

abbrev pub no_workload : WorkloadRow
no_workload = record { resource = []; loads = [] }

abbrev pub no_works : Works
no_works = record { closed = []; begun = no_work; workload = no_workload; period = 0; start = 0 }

abbrev pub add_load : ℤ → Works → Works
add_load z w = record w {
  workload =
      record w.workload { loads = w.workload.loads ++ record { period = w.period; start = w.start; load = z } ∷ [] };
}

abbrev pub close_workload : Works → Works
close_workload w = record w {
  begun = record w.begun { workloads = w.begun.workloads ++ w.workload ∷ [] };
  workload = no_workload;
  period = 0;
  start = 0;
}

-- a list of risks begins, in the period whose key came last
abbrev pub open_risks : ℕ → Works → Works
open_risks start w = record w {
  begun = record w.begun {
    risks = w.begun.risks ++ record {
      period = w.period;
      start = start;
      values = [];
      soft = false;
    } ∷ [];
  };
}

abbrev pub add_risk : ℤ → Bool → Works → Works
add_risk z rounded w = record w { begun = record w.begun { risks = add_to_last z rounded w.begun.risks } }

abbrev pub keep_works : Spot → Event → Read → Works → Works
keep_works spot.Tmax e r w = with_whole (λ n w. record w { begun = record w.begun { tmax = n } }) r w
keep_works spot.Duration e r w =
    with_whole (λ n w. record w { begun = record w.begun { durations = w.begun.durations ++ n ∷ [] } }) r w
keep_works spot.Workload (key at end k) r w = record w { workload = record w.workload { resource = k } }
keep_works spot.WorkloadResource (key at end k) r w = with_whole (λ n w. record w { period = n }) r w
keep_works spot.WorkloadPeriod (key at end k) r w = with_whole (λ n w. record w { start = n }) r w
keep_works spot.WorkloadNumber e r w = with_count (λ z rounded w. add_load z w) r w
keep_works spot.WorkloadResource (finish at) r w = close_workload w
keep_works spot.Risk (key at end k) r w = with_whole (λ n w. record w { period = n }) r w
keep_works spot.RiskPeriod (key at end k) r w = with_whole open_risks r w
keep_works spot.RiskNumber e r w = with_count add_risk r w
keep_works spot.Risk (finish at) r w = record w { period = 0 }
keep_works spot.Intervention (finish at) r w = record w { closed = w.closed ++ w.begun ∷ []; begun = no_work }
keep_works _ e r w = w

-- ---- all of it

pub record Kept : Type 0 where
  pub periods : ℕ
  pub alpha : ℕ
  pub quantile : ℕ
  pub scenarios : List ℕ
  pub resources : List (List ℕ)
  pub bands : Bands
  pub seasons : List (List ℕ)
  pub season_periods : Lists ℕ
  pub interventions : List (List ℕ)
  pub works : Works
  pub exclusions : List (List ℕ)
  pub exclusion_words : Lists (List ℕ)
  pub rounded : ℕ

abbrev pub nothing_kept : Kept
nothing_kept = record {
  periods = 0;
  alpha = 0;
  quantile = 0;
  scenarios = [];
  resources = [];
  bands = no_bands;
  seasons = [];
  season_periods = no_lists;
  interventions = [];
  works = no_works;
  exclusions = [];
  exclusion_words = no_lists;
  rounded = 0;
}

-- what is kept with one event more, of which so much was read; the count of rounded numbers apart
abbrev pub keep_rows : Spot → Event → Read → Kept → Kept
keep_rows s e r a = record {
  periods = keep_periods s e r a.periods;
  alpha = keep_alpha s e r a.alpha;
  quantile = keep_quantile s e r a.quantile;
  scenarios = keep_scenarios s e r a.scenarios;
  resources = keep_names is_resources s e a.resources;
  bands = keep_bands s e r a.bands;
  seasons = keep_names is_seasons s e a.seasons;
  season_periods = keep_seasons s e r a.season_periods;
  interventions = keep_names is_interventions s e a.interventions;
  works = keep_works s e r a.works;
  exclusions = keep_names is_exclusions s e a.exclusions;
  exclusion_words = keep_words s e a.exclusion_words;
  rounded = a.rounded;
}

abbrev pub keep_read : Spot → Event → Read → Kept → Kept
keep_read s e r a = record (keep_rows s e r a) { rounded = keep_rounded r a.rounded }

-- what is kept with one event more
abbrev pub keep : Spot → Event → Kept → Kept
keep s e a = keep_read s e (read_of s e) a

-- what is kept with several events more, each at the same spot
abbrev pub keep_each : Spot → List Event → Kept → Kept
keep_each s [] a = a
keep_each s (e ∷ es) a = keep_each s es (keep s e a)

-- the same by the counts alone, where the events are numbers that are read as these
abbrev pub keep_counts : Spot → List ℤ → Kept → Kept
keep_counts s [] a = a
keep_counts s (c ∷ cs) a = keep_counts s cs (keep_rows s (Event.number 0 []) (Count c false) a)

-- the rows that are filled
abbrev pub rows_kept : Kept → FileRows
rows_kept a = record {
  periods = a.periods;
  alpha = a.alpha;
  quantile = a.quantile;
  scenarios = a.scenarios;
  resources = a.resources;
  bands = a.bands.closed;
  seasons = a.seasons;
  season_periods = a.season_periods.closed;
  interventions = a.interventions;
  works = a.works.closed;
  exclusions = a.exclusions;
  exclusion_words = a.exclusion_words.closed;
  rounded = a.rounded;
}
