-- What a text defines is within the limits under which it does, and so is what is left of it.
use Rattle.std.proofs.Common.{◌≡◌, ℕ, ◌<◌, ◌≤◌, ◌^◌, refl, sym, subst, arith, List, [], get_or, Option, ℤ}
use Rattle.std.proofs.Common.{pos, unsigned_abs, false}
use Rattle.std.specs.Prelude.{◌+ℤ◌, ◌-ℤ◌, map}
use Rattle.std.proofs.lemmas.List.Elements.{All-weaker, All-map, All-replicate}
use Rattle.fixed_num.proofs.SignedLemmas.{signed_arith}
use Rattle.instance_model.specs.declared.limits.Limits.{Limits}
use Rattle.instance_model.specs.Tables.{Tables, scenarios_before, periods_before, all_entries}
use Rattle.instance_model.specs.Fitting.{IsFitting, AreNames}
use Rattle.instance_shape.specs.declared.fault.Known.TheVariants as is
use Rattle.instance_shape.specs.declared.fault.Which.TheVariants as which
use Rattle.instance_shape.specs.declared.spot.Spot.TheVariants as spot
use Rattle.instance_shape.specs.Defined.{Defines}
use Rattle.instance_shape.specs.FileTables.{tables}
use Rattle.instance_shape.specs.LookUp.{elements, entries, keys, known, count_at, scenarios}
use Rattle.instance_shape.specs.ShapeFaults.{shape_faults}
use Rattle.instance_shape.proofs.Bounds.{count_at_most}
use Rattle.instance_shape.proofs.Clear.{IsClear, root_clear, risks_within, workloads_within}
use Rattle.instance_shape.proofs.FewEntries.{all_risks, all_cells}
use Rattle.instance_shape.proofs.ListsBelow.{all_over}
use Rattle.instance_shape.proofs.NamesFit.{names_fit}
use Rattle.instance_shape.proofs.RootNumbers.{Between, periods_range, scenarios_range}
use Rattle.instance_writer.specs.text.Conditions.{HasSpellableNames, IsUnrounded, IsWithin}
use Rattle.json_grammar.specs.Tree.{Tree}
use Rattle.json_grammar.proofs.LawsOfTexts.{text_sound}
use Rattle.plan_roll.specs.Rolled.{with_rolled_durations, rolled}
use Rattle.plan_roll.specs.Texts.{HasSmallBands}
use Rattle.plan_roll.proofs.FitLaw.{few_loads}
use Rattle.plan_roll.proofs.NamesLaw.{keys_utf8, known_sound, spellable}
use Rattle.plan_roll.proofs.RiskLemmas.{length-risks, all_entries_fewer}

-- ---- names

-- the names of a text without a fault of shape, each set within its limit
pub record NamesOf (limits : Limits) (root : Tree) : Type 0 where
  pub resources : AreNames limits.resources (keys (known is.Resources root))
  pub seasons : AreNames limits.seasons (keys (known is.Seasons root))
  pub interventions : AreNames limits.interventions (keys (known is.Interventions root))
  pub exclusions : AreNames limits.exclusions (keys (known is.Exclusions root))

pub names_of : (limits : Limits) (root : Tree) → shape_faults limits root ≡ [] → NamesOf limits root
names_of limits root h =
    let clear : IsClear limits spot.Root root = root_clear limits root h in
    record {
      resources = names_fit limits spot.Root is.Resources limits.resources limits.resources root
          (record { names = refl; which = which.Resources; limited = refl }) (omega arith) clear;
      seasons = names_fit limits spot.Root is.Seasons limits.seasons limits.seasons root
          (record { names = refl; which = which.Seasons; limited = refl }) (omega arith) clear;
      interventions = names_fit limits spot.Root is.Interventions limits.interventions limits.interventions root
          (record { names = refl; which = which.Interventions; limited = refl }) (omega arith) clear;
      exclusions = names_fit limits spot.Root is.Exclusions limits.exclusions limits.exclusions root
          (record { names = refl; which = which.Exclusions; limited = refl }) (omega arith) clear;
    }

names_spellable : (limits : Limits) (slack : ℤ) (bytes : List ℕ) (inst : Tables)
    → (d : Defines limits slack bytes inst) → HasSpellableNames (tables slack d.root)
names_spellable limits slack bytes inst d =
    let sound = text_sound d.text.text in
    let names = names_of limits d.root d.shaped in
    record {
      resources = spellable (keys (known is.Resources d.root))
          (keys_utf8 (known is.Resources d.root) (known_sound is.Resources d.root sound)) names.resources.shaped;
      seasons = spellable (keys (known is.Seasons d.root))
          (keys_utf8 (known is.Seasons d.root) (known_sound is.Seasons d.root sound)) names.seasons.shaped;
      interventions = spellable (keys (known is.Interventions d.root))
          (keys_utf8 (known is.Interventions d.root) (known_sound is.Interventions d.root sound))
          names.interventions.shaped;
      exclusions = spellable (keys (known is.Exclusions d.root))
          (keys_utf8 (known is.Exclusions d.root) (known_sound is.Exclusions d.root sound)) names.exclusions.shaped;
    }

pub defined_names : (limits : Limits) (slack : ℤ) (bytes : List ℕ) (inst : Tables) → Defines limits slack bytes inst
    → HasSpellableNames inst
defined_names limits slack bytes inst d =
    subst HasSpellableNames (sym d.tables) (names_spellable limits slack bytes inst d)

-- ---- limits

tables_within : (limits : Limits) (slack : ℤ) (root : Tree) → shape_faults limits root ≡ []
    → IsWithin limits (tables slack root)
tables_within limits slack root h =
    let clear : IsClear limits spot.Root root = root_clear limits root h in
    let names = names_of limits root h in
    record {
      periods = (periods_range limits root clear).high;
      scenarios = All-weaker (λ n. Between 1 limits.scenarios n) (λ n. n ≤ limits.scenarios) (λ n b. b.high)
          (scenarios root) (scenarios_range limits root clear);
      resources = names.resources.few;
      seasons = names.seasons.few;
      interventions = names.interventions.few;
      exclusions = names.exclusions.few;
      risk_cells = omega (arith, all_risks limits root clear, risks_within limits root h);
      workload_entries =
          omega (arith, all_cells limits root clear names.resources.apart, workloads_within limits root h);
    }

pub defined_within : (limits : Limits) (slack : ℤ) (bytes : List ℕ) (inst : Tables) → Defines limits slack bytes inst
    → IsWithin limits inst
defined_within limits slack bytes inst d =
    subst (IsWithin limits) (sym d.tables) (tables_within limits slack d.root d.shaped)

pub rolled_within : (limits : Limits) (inst : Tables) (plan : List (Option ℕ)) (period : ℕ) → IsFitting inst
    → IsWithin limits inst → IsWithin limits (rolled inst plan period)
rolled_within limits inst plan period f w = record {
  periods = w.periods;
  scenarios = w.scenarios;
  resources = w.resources;
  seasons = w.seasons;
  interventions = w.interventions;
  exclusions = w.exclusions;
  risk_cells = omega (
    arith,
    length-risks inst plan period f,
    all_entries_fewer inst plan period (scenarios_before inst),
    f.risks_each,
    w.risk_cells,
  );
  workload_entries = omega (arith, few_loads inst plan period, w.workload_entries);
}

pub rolled_names : (inst : Tables) (plan : List (Option ℕ)) (period : ℕ) → HasSpellableNames inst
    → HasSpellableNames (rolled inst plan period)
rolled_names inst plan period h = record {
  resources = h.resources;
  seasons = h.seasons;
  interventions = h.interventions;
  exclusions = h.exclusions;
}

pub rolled_unrounded : (inst : Tables) (plan : List (Option ℕ)) (period : ℕ) → IsUnrounded (rolled inst plan period)
rolled_unrounded inst plan period = record {
  soft =
      All-replicate (λ b. b ≡ false) (all_entries (with_rolled_durations inst plan period) periods_before) false refl;
  rounded = refl;
}

-- ---- bands that are read without slack

raised : (t : Tree) → unsigned_abs (count_at t +ℤ pos 0) < 10 ^ 20
raised t = plain (count_at t) (count_at_most t)
  where
    plain : (z : ℤ) → unsigned_abs z < 10 ^ 20 → unsigned_abs (z +ℤ pos 0) < 10 ^ 20
    plain z h = omega (arith, signed_arith)

lowered : (t : Tree) → unsigned_abs (count_at t -ℤ pos 0) < 10 ^ 20
lowered t = plain (count_at t) (count_at_most t)
  where
    plain : (z : ℤ) → unsigned_abs z < 10 ^ 20 → unsigned_abs (z -ℤ pos 0) < 10 ^ 20
    plain z h = omega (arith, signed_arith)

abbrev IsSmall : ℤ → Type 0
IsSmall z = unsigned_abs z < 10 ^ 20

tables_small : (root : Tree) → HasSmallBands (tables (pos 0) root)
tables_small root = record {
  upper = all_over IsSmall (λ r. map (λ t. count_at t +ℤ pos 0) (elements (known is.Max r)))
      (entries (known is.Resources root)) (λ r. All-map IsSmall (λ t. count_at t +ℤ pos 0) (elements (known is.Max r))
      (λ i d l. raised (get_or (elements (known is.Max r)) i d)));
  lower = all_over IsSmall (λ r. map (λ t. count_at t -ℤ pos 0) (elements (known is.Min r)))
      (entries (known is.Resources root)) (λ r. All-map IsSmall (λ t. count_at t -ℤ pos 0) (elements (known is.Min r))
      (λ i d l. lowered (get_or (elements (known is.Min r)) i d)));
}

pub defined_small : (limits : Limits) (bytes : List ℕ) (inst : Tables) → Defines limits (pos 0) bytes inst
    → HasSmallBands inst
defined_small limits bytes inst d = subst HasSmallBands (sym d.tables) (tables_small d.root)
