-- The text of an instance is read as that instance.
use Rattle.std.proofs.Common.{◌≡◌, ℕ, suc, ◌≤◌, List, [], ◌∷◌, ◌++◌, length, None, refl, sym, ◌∙◌}
use Rattle.std.proofs.Common.{arith, ℤ}
use Rattle.std.specs.Prelude.{slice_get}
use Rattle.json_grammar.specs.Grammar.{IsText}
use Rattle.json_grammar.specs.Prefix.{first_past}
use Rattle.json_grammar.specs.laws.Value.{Value}
use Rattle.json_grammar.specs.laws.Spelling.{spell}
use Rattle.json_grammar.specs.laws.Spellable.{IsSpellable}
use Rattle.json_grammar.specs.laws.Placed.{placed_at}
use Rattle.instance_model.specs.declared.limits.Limits.{Limits}
use Rattle.instance_model.specs.Fitting.{IsFitting}
use Rattle.instance_model.specs.Tables.{Tables}
use Rattle.instance_shape.specs.declared.fault.Which.{Which}
use Rattle.instance_shape.specs.declared.fault.Which.TheVariants as which
use Rattle.instance_shape.specs.declared.spot.Spot.TheVariants as spot
use Rattle.instance_shape.specs.Defined.{Defines}
use Rattle.instance_shape.specs.FileTables.{tables}
use Rattle.instance_shape.specs.Shape.{placed}
use Rattle.instance_shape.specs.ShapeFaults.{shape_faults, values_faults, numbers_at, count_faults, is_risk}
use Rattle.instance_shape.specs.ShapeFaults.{is_workload}
use Rattle.instance_shape.proofs.Clear.{clear_both}
use Rattle.instance_writer.specs.text.Conditions.{HasSpellableNames, IsUnrounded, IsWithin, SpellsNumbers, widened}
use Rattle.instance_writer.specs.text.Styles.{Style}
use Rattle.instance_writer.specs.text.Written.{instance_value, instance_text}
use Rattle.instance_writer.proofs.TextCounted.{risks_of_value, loads_of_value}
use Rattle.instance_writer.proofs.TextCrossing.{cross_clear}
use Rattle.instance_writer.proofs.TextFields.{periods_are, alpha_is, quantile_is, scenarios_are, resource_names_are}
use Rattle.instance_writer.proofs.TextFields.{upper_are}
use Rattle.instance_writer.proofs.TextFields.{lower_are, season_names_are, in_season_are, names_are, delta_is}
use Rattle.instance_writer.proofs.TextFields.{exclusion_names_are, excluded_are, loads_are, risks_table, soft_table}
use Rattle.instance_writer.proofs.TextFine.{IsFine}
use Rattle.instance_writer.proofs.TextNumbers.{numbers_are}
use Rattle.instance_writer.proofs.TextPlacing.{IsAt, placed_is_at}
use Rattle.instance_writer.proofs.TextWhole.{instance_fine}

-- ---- no fault of shape

none_past : (ns : List ℕ) (limit : ℕ) (w : Which) → length ns ≤ limit → count_faults (slice_get ns limit) w ≡ []
none_past [] limit w h = refl
none_past (n ∷ ns) Prim.Native.Nat.zero w h = absurd (omega arith)
none_past (n ∷ ns) (suc limit) w h = none_past ns limit w (omega arith)

module _ (limits : Limits) (style : Style) (inst : Tables) (fits : IsFitting inst) (within : IsWithin limits inst)
    (spells : SpellsNumbers style inst) (texts : HasSpellableNames inst) where
  fine : IsFine limits 6 spot.Root (instance_value style inst)
  fine = instance_fine limits style inst fits within spells texts

  pub shape_clear : shape_faults limits (placed_at 0 (instance_value style inst)) ≡ []
  shape_clear =
      let all = placed spot.Root (placed_at 0 (instance_value style inst)) in
      let risks : length (numbers_at is_risk all) ≡ length inst.risks =
      numbers_are is_risk spot.Root 0 (instance_value style inst) ∙ risks_of_value style inst fits in
      let loads = numbers_are is_workload spot.Root 0 (instance_value style inst) ∙ loads_of_value style inst fits in
      clear_both (values_faults limits all ++ count_faults (slice_get (numbers_at is_risk all) limits.risk_cells)
      which.RiskCells) (count_faults (slice_get (numbers_at is_workload all) limits.workload_entries)
      which.WorkloadEntries)
      (clear_both (values_faults limits all) (count_faults (slice_get (numbers_at is_risk all) limits.risk_cells)
      which.RiskCells) (fine.clear 0).clear
      (none_past (numbers_at is_risk all) limits.risk_cells which.RiskCells (omega (arith, risks, within.risk_cells))))
      (none_past (numbers_at is_workload all) limits.workload_entries which.WorkloadEntries
      (omega (arith, loads, within.workload_entries)))

  pub spellable : IsSpellable (instance_value style inst)
  spellable = record { sound = fine.sound; shallow = omega (arith, fine.shallow) }

-- ---- the same tables

-- tables are the same where each field is
same_tables : (a b : Tables) → a.periods ≡ b.periods → a.alpha ≡ b.alpha → a.quantile ≡ b.quantile
    → a.scenarios ≡ b.scenarios → a.resource_names ≡ b.resource_names → a.upper ≡ b.upper → a.lower ≡ b.lower
    → a.season_names ≡ b.season_names → a.in_season ≡ b.in_season → a.names ≡ b.names → a.delta ≡ b.delta
    → a.exclusion_names ≡ b.exclusion_names → a.excluded ≡ b.excluded → a.loads ≡ b.loads → a.risks ≡ b.risks
    → a.soft ≡ b.soft → a.rounded ≡ b.rounded → a ≡ b
same_tables a b p al q s rn u l sn se n d en e lo r so ro = λ i. record {
  periods = p i;
  alpha = al i;
  quantile = q i;
  scenarios = s i;
  resource_names = rn i;
  upper = u i;
  lower = l i;
  season_names = sn i;
  in_season = se i;
  names = n i;
  delta = d i;
  exclusion_names = en i;
  excluded = e i;
  loads = lo i;
  risks = r i;
  soft = so i;
  rounded = ro i;
}

-- the text of the value is that of the tables
pub defined : (style : Style) (limits : Limits) (slack : ℤ) (inst : Tables) → ((v : Value) → IsSpellable v
    → IsText (spell v) (placed_at 0 v)) → ((v : Value) → IsSpellable v → first_past 16 (placed_at 0 v) ≡ None)
    → IsFitting inst → IsUnrounded inst → IsWithin limits inst → SpellsNumbers style inst → HasSpellableNames inst
    → Defines limits slack (instance_text style inst) (widened slack inst)
defined style limits slack inst text shallow fits exact within spells texts =
    let v = instance_value style inst in
    let root = placed_at 0 v in
    let here : IsAt v root = placed_is_at 0 v in
    let good = spellable limits style inst fits within spells texts in
    let fine : IsFine limits 6 spot.Root v = instance_fine limits style inst fits within spells texts in
    record {
      root = root;
      text = record { text = text v good; shallow = shallow v good };
      shaped = shape_clear limits style inst fits within spells texts;
      fitting = cross_clear limits style inst fits within spells texts root here;
      tables = sym (same_tables (tables slack root) (widened slack inst)
          (periods_are limits style inst fits within spells texts root here)
          (alpha_is limits style inst fits within spells texts root here)
          (quantile_is limits style inst fits within spells texts root here)
          (scenarios_are limits style inst fits within spells texts root here)
          (resource_names_are limits style inst fits within spells texts root here)
          (upper_are limits style inst fits within spells texts root here slack)
          (lower_are limits style inst fits within spells texts root here slack)
          (season_names_are limits style inst fits within spells texts root here)
          (in_season_are limits style inst fits within spells texts root here)
          (names_are limits style inst fits within spells texts root here)
          (delta_is limits style inst fits within spells texts root here)
          (exclusion_names_are limits style inst fits within spells texts root here)
          (excluded_are limits style inst fits within spells texts root here)
          (loads_are limits style inst fits within spells texts root here)
          (risks_table limits style inst fits within spells texts root here)
          (soft_table limits style inst fits within spells texts root here exact.soft)
          ((fine.clear 0).exact ∙ sym exact.rounded));
    }
