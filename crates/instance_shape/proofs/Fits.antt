-- The tables of a text without a fault fit.
use Rattle.std.proofs.Common.{◌≡◌, ℕ, ◌+◌, ◌<◌, ◌≤◌, ◌^◌, List, [], map, length, None, refl, sym, ◌∙◌, subst, arith, ℤ}
use Rattle.std.proofs.Common.{unwrap_or}
use Rattle.std.specs.Prelude.{All, pos, slice_index, slice_index_or, unsigned_abs}
use Rattle.std.proofs.lemmas.Int.{ints}
use Rattle.std.proofs.lemmas.List.{length-map}
use Rattle.std.proofs.lemmas.List.Elements.{All-weaker, All-map, All-take}
use Rattle.json_grammar.specs.Tree.{Tree}
use Rattle.instance_model.specs.Fitting.{IsFitting, AreNames}
use Rattle.instance_model.specs.Limits.{standard_limits}
use Rattle.instance_model.specs.Tables.{Tables, allowed_of}
use Rattle.instance_model.specs.declared.limits.Limits.{Limits}
use Rattle.instance_shape.specs.declared.fault.Known.TheVariants as is
use Rattle.instance_shape.specs.declared.fault.Which.TheVariants as which
use Rattle.instance_shape.specs.declared.spot.Spot.TheVariants as spot
use Rattle.instance_shape.specs.CrossFaults.{cross_fault}
use Rattle.instance_shape.specs.Defined.{Defines}
use Rattle.instance_shape.specs.FileTables.{tables, all_below, each_run, risks_at, cells_at, exclusion}
use Rattle.instance_shape.specs.Ranges.{AreStandard, IsSlack}
use Rattle.instance_shape.specs.LookUp.{Entry, elements, entries, keys, known, whole_at, count_at, risk_list, durations}
use Rattle.instance_shape.specs.LookUp.{periods, scenarios, interventions}
use Rattle.instance_shape.specs.ShapeFaults.{shape_faults}
use Rattle.instance_shape.proofs.Bands.{upper_each, lower_each, season_each, upper_small, lower_small}
use Rattle.instance_shape.proofs.Bounds.{whole_at_most, part_at_most, count_at_most}
use Rattle.instance_shape.proofs.Clear.{IsClear, root_clear, risks_within, workloads_within}
use Rattle.instance_shape.proofs.FewEntries.{all_risks, all_cells}
use Rattle.instance_shape.proofs.ListsBelow.{all_lists, all_cond, all_over}
use Rattle.instance_shape.proofs.LoadCells.{cells_fit}
use Rattle.instance_shape.proofs.NamesFit.{names_fit}
use Rattle.instance_shape.proofs.NoCrossFault.{IsComplete, scenarios_each, interventions_complete, exclusions_in}
use Rattle.instance_shape.proofs.RootNumbers.{Between, periods_range, scenarios_range, quantile_some}
use Rattle.instance_shape.proofs.RunLengths.{risks_each, soft_each}

-- ---- interventions

one_each : {A : Type 0} (f : Entry → A) (es : List Entry) → length (map f es) ≡ length (map (λ e. e.key) es)
one_each f es = length-map es f ∙ sym (length-map es (λ (e : Entry). e.key))

starts_some : (root : Tree) → cross_fault root ≡ None
    → All (λ ds. (1 ≤ length ds) × (length ds ≤ periods root)) (map (λ e. durations e.value) (interventions root))
starts_some root h =
    All-map (λ ds. (1 ≤ length ds) × (length ds ≤ periods root)) (λ (e : Entry). durations e.value) (interventions root)
    (All-weaker (λ e. IsComplete root e.value)
    (λ e. (1 ≤ length (durations e.value)) × (length (durations e.value) ≤ periods root))
    (λ e c. (c.some_starts, c.few_starts)) (interventions root) (interventions_complete root h))

durations_small : (v : Tree) → All (λ d. d < 1_000_000_000) (durations v)
durations_small v =
    All-take (λ d. d < 1_000_000_000) (whole_at (known is.Tmax v)) (map whole_at (elements (known is.Delta v)))
    (All-map (λ d. d < 1_000_000_000) whole_at (elements (known is.Delta v)) (λ i d l. whole_at_most _))

counts_small : (ts : List Tree) → All (λ z. unsigned_abs z < 10 ^ 20) (map count_at ts)
counts_small ts = All-map (λ z. unsigned_abs z < 10 ^ 20) count_at ts (λ i d l. count_at_most (slice_index_or ts i d))

risks_small : (root : Tree)
    → All (λ z. unsigned_abs z < 10 ^ 20) (all_below (interventions root) (each_run root risks_at))
risks_small root =
    all_over (λ z. unsigned_abs z < 10 ^ 20) (each_run root risks_at) (interventions root) (λ v.
    all_lists (λ z. unsigned_abs z < 10 ^ 20) (length (durations v)) _
    (λ k l. all_cond (λ z. unsigned_abs z < 10 ^ 20) (allowed_of (periods root) (durations v) (k + 1)) _ (λ a.
    all_lists (λ z. unsigned_abs z < 10 ^ 20) (slice_index (durations v) k) _
    (λ j m. counts_small (unwrap_or (risk_list v (k + 1 + j) (k + 1)) [])))))

-- ---- limits and slack

pub standard_is : AreStandard standard_limits
standard_is = record {
  periods = omega arith;
  resources = omega arith;
  interventions = omega arith;
  scenarios = omega arith;
  seasons = omega arith;
  exclusions = omega arith;
  risk_cells = omega arith;
  workload_entries = omega arith;
}

pub no_slack : IsSlack (pos 0)
no_slack = record { least = omega (arith, ints); most = omega (arith, ints) }

-- ---- all of it

-- the tables of a text without a fault fit, for limits that are at most the standard ones and a slack from 0 to 10^-3
pub fits : (limits : Limits) (slack : ℤ) (root : Tree) → AreStandard limits → IsSlack slack
    → shape_faults limits root ≡ [] → cross_fault root ≡ None → IsFitting (tables slack root)
fits limits slack root a s h c =
    let clear : IsClear limits spot.Root root = root_clear limits root h in
    let range : Between 1 limits.periods (periods root) = periods_range limits root clear in
    let resource_names : AreNames standard_limits.resources (keys (known is.Resources root)) =
    names_fit limits spot.Root is.Resources limits.resources standard_limits.resources root
    (record { names = refl; which = which.Resources; limited = refl }) a.resources clear in
    record {
      some_periods = range.low;
      few_periods = omega (arith, range.high, a.periods);
      alpha = part_at_most (known is.Alpha root);
      some_quantile = quantile_some limits root clear;
      quantile = part_at_most (known is.Quantile root);
      scenarios_each = scenarios_each root c;
      scenarios_few = All-weaker (λ n. Between 1 limits.scenarios n) (λ n. (1 ≤ n) × (n ≤ standard_limits.scenarios))
          (λ n b. (b.low, omega (arith, b.high, a.scenarios))) (scenarios root) (scenarios_range limits root clear);
      resources = resource_names;
      upper_each = upper_each root _ c;
      lower_each = lower_each root _ c;
      upper_small = upper_small slack (entries (known is.Resources root)) s;
      lower_small = lower_small slack (entries (known is.Resources root)) s;
      seasons = names_fit limits spot.Root is.Seasons limits.seasons standard_limits.seasons root
          (record { names = refl; which = which.Seasons; limited = refl }) a.seasons clear;
      season_each = season_each root;
      names = names_fit limits spot.Root is.Interventions limits.interventions standard_limits.interventions root
          (record { names = refl; which = which.Interventions; limited = refl }) a.interventions clear;
      delta_each = one_each (λ e. durations e.value) (interventions root);
      delta_some = starts_some root c;
      delta_small = All-map (λ ds. All (λ d. d < 1_000_000_000) ds) (λ (e : Entry). durations e.value)
          (interventions root) (λ i d l. durations_small (slice_index_or (interventions root) i d).value);
      exclusions = names_fit limits spot.Root is.Exclusions limits.exclusions standard_limits.exclusions root
          (record { names = refl; which = which.Exclusions; limited = refl }) a.exclusions clear;
      excluded_each = one_each (λ e. exclusion root e.value) (entries (known is.Exclusions root));
      excluded = exclusions_in root c;
      loads_each = one_each (λ e. each_run root (cells_at root) e.value) (interventions root);
      cells = cells_fit slack root;
      loads_few = omega
          (arith, all_cells limits root clear resource_names.apart, workloads_within limits root h, a.workload_entries);
      risks_each = risks_each slack root c;
      risks_few = omega (arith, all_risks limits root clear, risks_within limits root h, a.risk_cells);
      risks_small = risks_small root;
      soft_each = soft_each slack root;
    }

-- what a file defines fits
pub defined_fits : (limits : Limits) (slack : ℤ) (bytes : List ℕ) (inst : Tables) → AreStandard limits → IsSlack slack
    → Defines limits slack bytes inst → IsFitting inst
defined_fits limits slack bytes inst a s d =
    subst (λ (t : Tables). IsFitting t) (sym d.tables) (fits limits slack d.root a s d.shaped d.fitting)
