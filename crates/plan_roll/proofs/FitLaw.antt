-- The rolled tables fit.
use Rattle.std.proofs.Common.{◌≡◌, ℕ, ◌+◌, ◌-◌, ◌<◌, ◌≤◌, refl, sym, ◌∙◌, ap, subst, arith, Bool, true, false, List, []}
use Rattle.std.proofs.Common.{length, get_or, Option, All}
use Rattle.std.proofs.lemmas.List.{length-replicate}
use Rattle.std.proofs.lemmas.List.Elements.{All-get_or, All-from_get_or}
use Rattle.std.proofs.lemmas.List.FromFn.{length-map-range_with_len}
use Rattle.instance_model.specs.Naturals.{count_sum}
use Rattle.instance_model.specs.Tables.{Tables, durations, tmax, delta_of, is_allowed, scenarios_before, periods_before}
use Rattle.instance_model.specs.Tables.{entries_at, entries_of, all_entries}
use Rattle.instance_model.specs.Fitting.{IsFitting, AreCells}
use Rattle.instance_model.specs.Plans.{start_of}
use Rattle.instance_model.proofs.FitLemmas.{tmax_small}
use Rattle.instance_shape.proofs.CountSums.{count_sum_below}
use Rattle.plan_roll.specs.Rolled.{may_start, rolled_delta, rolled_durations, keeps_cell, rolled_cells, rolled}
use Rattle.plan_roll.specs.Rolled.{with_rolled_durations}
use Rattle.plan_roll.proofs.StartLemmas.{row_is, length-durations, duration_at, delta_left, delta_past}
use Rattle.plan_roll.proofs.CellLemmas.{cells_are, cells_fit, few_kept}
use Rattle.plan_roll.proofs.RiskLemmas.{length-risks, all_entries_fewer, risks_small}

-- ---- durations

all_rows : (P : List ℕ → Type 0) (inst : Tables) (plan : List (Option ℕ)) (period : ℕ)
    → ((i : ℕ) → i < length inst.names → P (rolled_durations inst plan period i))
    → All P (rolled inst plan period).delta
all_rows P inst plan period h = All-from_get_or P (rolled inst plan period).delta [] (λ i l.
    let few : i < length inst.names =
    omega (arith, length-map-range_with_len (rolled_durations inst plan period) 0 (length inst.names)) in
    subst P (sym (row_is inst plan period i few)) (h i few))

delta_small : (inst : Tables) (i k : ℕ) → IsFitting inst → i < length inst.names → k < tmax inst i
    → delta_of inst i (k + 1) < 1_000_000_000
unfolding delta_of durations tmax
delta_small inst i k f h l =
    let ds = get_or inst.delta i [] in
    let same : k + 1 - 1 ≡ k = omega arith in
    let row = All-get_or (λ xs. All (λ d. d < 1_000_000_000) xs) inst.delta i [] (omega (arith, f.delta_each, h))
    f.delta_small in
    rw same (All-get_or (λ d. d < 1_000_000_000) ds k 0 l row)

rolled_small : (inst : Tables) (plan : List (Option ℕ)) (period i k : ℕ) → IsFitting inst → i < length inst.names
    → k < tmax inst i → rolled_delta inst plan period i (k + 1) < 1_000_000_000
rolled_small inst plan period i k f h l = by (may_start period (start_of plan i) (k + 1)) refl
  where
    by : (b : Bool) → may_start period (start_of plan i) (k + 1) ≡ b
        → rolled_delta inst plan period i (k + 1) < 1_000_000_000
    by true e = omega (arith, delta_left inst plan period i (k + 1) e, delta_small inst i k f h l)
    by false e = omega (arith, delta_past inst plan period i (k + 1) e, f.few_periods)

durations_small : (inst : Tables) (plan : List (Option ℕ)) (period i : ℕ) → IsFitting inst → i < length inst.names
    → All (λ d. d < 1_000_000_000) (rolled_durations inst plan period i)
durations_small inst plan period i f h =
    let P : ℕ → Type 0 = λ d. d < 1_000_000_000 in
    All-from_get_or P (rolled_durations inst plan period i) 0 (λ k l.
    let few : k < tmax inst i = omega (arith, l, length-durations inst plan period i) in
    subst P (sym (duration_at inst plan period i k few)) (rolled_small inst plan period i k f h few))

durations_some : (inst : Tables) (plan : List (Option ℕ)) (period i : ℕ) → IsFitting inst → i < length inst.names
    → (1 ≤ length (rolled_durations inst plan period i)) × (length (rolled_durations inst plan period i) ≤ inst.periods)
durations_some inst plan period i f h =
    let n = length-durations inst plan period i in
    let t = tmax_small inst i f h in
    (omega (arith, n, t.0), omega (arith, n, t.1))

-- ---- the tables

soft_entries : (inst : Tables) (plan : List (Option ℕ)) (period : ℕ) (before : ℕ → ℕ)
    → all_entries (with_rolled_durations inst plan period) before ≡ all_entries (rolled inst plan period) before
unfolding all_entries entries_of entries_at tmax is_allowed delta_of durations
soft_entries inst plan period before = refl

risk_entries : (inst : Tables) (plan : List (Option ℕ)) (period : ℕ)
    → all_entries (rolled inst plan period) (scenarios_before inst)
    ≡ all_entries (rolled inst plan period) (scenarios_before (rolled inst plan period))
unfolding scenarios_before
risk_entries inst plan period = refl

few_cells : (inst : Tables) (plan : List (Option ℕ)) (period i : ℕ) → i < length inst.names
    → length (get_or (rolled inst plan period).loads i []) ≤ length (get_or inst.loads i [])
unfolding rolled_cells
few_cells inst plan period i h = omega (
  arith,
  ap length (cells_are inst plan period i h),
  few_kept (keeps_cell inst plan period i) (get_or inst.loads i []),
)

-- there are no more load cells than before
pub few_loads : (inst : Tables) (plan : List (Option ℕ)) (period : ℕ)
    → count_sum (length inst.names) (λ i. length (get_or (rolled inst plan period).loads i []))
    ≤ count_sum (length inst.names) (λ i. length (get_or inst.loads i []))
few_loads inst plan period =
    count_sum_below (length inst.names) (λ i. length (get_or (rolled inst plan period).loads i []))
    (λ i. length (get_or inst.loads i [])) (λ i h. few_cells inst plan period i h)

pub tables_fit : (inst : Tables) (plan : List (Option ℕ)) (period : ℕ) → IsFitting inst
    → IsFitting (rolled inst plan period)
tables_fit inst plan period f =
    let n = length inst.names in
    record {
      some_periods = f.some_periods;
      few_periods = f.few_periods;
      alpha = f.alpha;
      some_quantile = f.some_quantile;
      quantile = f.quantile;
      scenarios_each = f.scenarios_each;
      scenarios_few = f.scenarios_few;
      resources = f.resources;
      upper_each = f.upper_each;
      lower_each = f.lower_each;
      upper_small = f.upper_small;
      lower_small = f.lower_small;
      seasons = f.seasons;
      season_each = f.season_each;
      names = f.names;
      delta_each = length-map-range_with_len (rolled_durations inst plan period) 0 n;
      delta_some = all_rows (λ ds. (1 ≤ length ds) × (length ds ≤ inst.periods)) inst plan period
          (λ i h. durations_some inst plan period i f h);
      delta_small = all_rows (λ ds. All (λ d. d < 1_000_000_000) ds) inst plan period
          (λ i h. durations_small inst plan period i f h);
      exclusions = f.exclusions;
      excluded_each = f.excluded_each;
      excluded = f.excluded;
      loads_each = length-map-range_with_len (rolled_cells inst plan period) 0 n;
      cells = λ i h. subst (AreCells (rolled inst plan period) i) (sym (cells_are inst plan period i h))
          (cells_fit inst plan period i f h);
      loads_few = omega (arith, f.loads_few, few_loads inst plan period);
      risks_each = length-risks inst plan period f ∙ risk_entries inst plan period;
      risks_few = omega (
        arith,
        length-risks inst plan period f,
        all_entries_fewer inst plan period (scenarios_before inst),
        f.risks_each,
        f.risks_few,
      );
      risks_small = risks_small inst plan period f;
      soft_each = length-replicate (all_entries (with_rolled_durations inst plan period) periods_before) false
          ∙ soft_entries inst plan period periods_before;
    }
