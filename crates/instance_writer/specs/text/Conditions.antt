-- Defines for which instances and limits the text of an instance is read as that instance.
use Rattle.std.specs.Prelude.{◌≡◌, ℕ, ◌<◌, ◌≤◌, ℤ, ◌+ℤ◌, ◌-ℤ◌, false, [], Some, length, map, All}
use Rattle.std.specs.Prelude.{slice_index_or}
use Rattle.decimal_numbers.specs.Exact.{fixed, millionths}
use Rattle.json_grammar.specs.Grammar.{IsNumber}
use Rattle.json_grammar.specs.laws.Spellable.{IsSpellableText}
use Rattle.instance_model.specs.declared.limits.Limits.{Limits}
use Rattle.instance_model.specs.Naturals.{count_sum}
use Rattle.instance_model.specs.Tables.{Tables}
use Rattle.instance_writer.specs.text.Styles.{Style}

-- the token of a count is a number, and is read as exactly this count
pub record SpellsCount (style : Style) (z : ℤ) : Type 0 where
  pub token : IsNumber (style.count z)
  pub exact : fixed (style.count z) ≡ Some (z, false)

-- the same of a number of millionths
pub record SpellsPart (style : Style) (m : ℕ) : Type 0 where
  pub token : IsNumber (style.part m)
  pub exact : millionths (style.part m) ≡ Some m

-- a style spells each number that stands in the text of an instance and needn't be whole
pub record SpellsNumbers (style : Style) (inst : Tables) : Type 0 where
  pub alpha : SpellsPart style inst.alpha
  pub quantile : SpellsPart style inst.quantile
  pub upper : All (SpellsCount style) inst.upper
  pub lower : All (SpellsCount style) inst.lower
  pub risks : All (SpellsCount style) inst.risks
  pub loads : (i : ℕ) → i < length inst.names
      → All (λ cell. SpellsCount style cell.load) (slice_index_or inst.loads i [])

-- each name is UTF-8 without control bytes
pub record HasSpellableNames (inst : Tables) : Type 0 where
  pub resources : All IsSpellableText inst.resource_names
  pub seasons : All IsSpellableText inst.season_names
  pub interventions : All IsSpellableText inst.names
  pub exclusions : All IsSpellableText inst.exclusion_names

-- no number of the instance was changed by rounding
pub record IsUnrounded (inst : Tables) : Type 0 where
  pub soft : All (λ b. b ≡ false) inst.soft
  pub rounded : inst.rounded ≡ 0

-- the instance is within the limits on what stands in a file
pub record IsWithin (limits : Limits) (inst : Tables) : Type 0 where
  pub periods : inst.periods ≤ limits.periods
  pub scenarios : All (λ n. n ≤ limits.scenarios) inst.scenarios
  pub resources : length inst.resource_names ≤ limits.resources
  pub seasons : length inst.season_names ≤ limits.seasons
  pub interventions : length inst.names ≤ limits.interventions
  pub exclusions : length inst.exclusion_names ≤ limits.exclusions
  pub risk_cells : length inst.risks ≤ limits.risk_cells
  pub workload_entries : count_sum (length inst.names) (λ i. length (slice_index_or inst.loads i []))
      ≤ limits.workload_entries

-- each upper limit is raised and each lower limit lowered by the slack
abbrev pub widened : ℤ → Tables → Tables
widened slack inst = record inst {
  upper = map (λ z. z +ℤ slack) inst.upper;
  lower = map (λ z. z -ℤ slack) inst.lower;
}
