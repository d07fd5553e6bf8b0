-- Defines the JSON value that is written for an instance, and its text.
use Rattle.std.specs.Prelude.{ℕ, ◌+◌, ℤ, ◌&&◌, List, [], ◌∷◌, Option, Some, None, cond, map, length, find, option_map}
use Rattle.std.specs.Prelude.{slice_index_or, decimal}
use Rattle.fixed_num.specs.Sums.{list_of}
use Rattle.json_grammar.specs.laws.Value.{Value, values_of, Field, field, fields_of}
use Rattle.json_grammar.specs.laws.Spelling.{spell}
use Rattle.instance_model.specs.declared.parts.Exclusion.{Exclusion}
use Rattle.instance_model.specs.declared.parts.LoadCell.{LoadCell}
use Rattle.instance_model.specs.Tables.{Tables, scenarios_of, durations, tmax, is_allowed, in_run, risk_of, is_cell_of}
use Rattle.instance_model.specs.Tables.{upper_of, lower_of, in_season_of, exclusion_of}
use Rattle.instance_shape.specs.declared.fault.Known.{Known}
use Rattle.instance_shape.specs.declared.fault.Known.TheVariants as known
use Rattle.instance_shape.specs.Keys.{text_of}
use Rattle.instance_shape.specs.FileTables.{lists_below}
use Rattle.instance_writer.specs.text.Styles.{Style}

-- ---- numbers, lists and objects

abbrev pub whole_number : ℕ → Value
whole_number n = Value.number (decimal n)

abbrev pub count_number : Style → ℤ → Value
count_number style z = Value.number (style.count z)

abbrev pub whole_list : List ℕ → Value
whole_list ns = Value.list (values_of (map whole_number ns))

abbrev pub count_list : Style → List ℤ → Value
count_list style zs = Value.list (values_of (map (count_number style) zs))

abbrev pub object_of : List Field → Value
object_of fs = Value.object (fields_of fs)

-- the value under a required key
abbrev pub under : Known → Value → Field
under k v = field (text_of k) v

-- the value under a key, where there is one
abbrev pub optional : List ℕ → Option Value → List Field
optional key None = []
optional key (Some v) = field key v ∷ []

-- an object of some fields; none where there is no field
abbrev pub filled : List Field → Option Value
filled [] = None
filled (f ∷ fs) = Some (object_of (f ∷ fs))

-- the values under the periods or starts from 1 to n, in ascending order, where there is one
abbrev pub numbered : ℕ → (ℕ → Option Value) → List Field
numbered n f = lists_below n (λ k. optional (decimal (k + 1)) (f (k + 1)))

-- the values under some names, by place, where there is one
abbrev pub named : List (List ℕ) → (ℕ → Option Value) → List Field
named names f = lists_below (length names) (λ k. optional (slice_index_or names k []) (f k))

-- ---- resources, seasons and exclusions

abbrev pub resource_value : Style → Tables → ℕ → Value
resource_value style inst c = object_of (
    under known.Max (count_list style (list_of inst.periods (λ k. upper_of inst c (k + 1))))
    ∷ under known.Min (count_list style (list_of inst.periods (λ k. lower_of inst c (k + 1)))) ∷ [])

-- the periods of a season, in ascending order
abbrev pub season_periods : Tables → ℕ → List ℕ
season_periods inst q = lists_below inst.periods (λ k. cond (in_season_of inst q (k + 1)) ((k + 1) ∷ []) [])

abbrev pub season_value : Tables → ℕ → Value
season_value inst q = whole_list (season_periods inst q)

-- the names of the two interventions and of the season
abbrev pub exclusion_words : Tables → Exclusion → List (List ℕ)
exclusion_words inst e =
    slice_index_or inst.names e.first [] ∷ slice_index_or inst.names e.second []
    ∷ slice_index_or inst.season_names e.season [] ∷ []

abbrev pub exclusion_value : Tables → ℕ → Value
exclusion_value inst e = Value.list (values_of (map Value.text (exclusion_words inst (exclusion_of inst e))))

-- ---- interventions

-- the workload of resource c in period t at start s of an intervention with these load cells, where there is a cell
abbrev pub load_value : Style → List LoadCell → ℕ → ℕ → ℕ → Option Value
load_value style cells c t s = option_map (λ cell. count_number style cell.load) (find (is_cell_of s t c) cells)

-- the workloads of resource c, by period and start; none where there is no cell
abbrev pub workload_of : Style → Tables → ℕ → ℕ → Option Value
workload_of style inst i c =
    filled (numbered inst.periods (λ t. filled (numbered (tmax inst i)
    (λ s. load_value style (slice_index_or inst.loads i []) c t s))))

abbrev pub workload_value : Style → Tables → ℕ → Value
workload_value style inst i = object_of (named inst.resource_names (workload_of style inst i))

-- the risks of intervention i in period t at start s, where it may start there and its run holds the period
abbrev pub risks_of : Style → Tables → ℕ → ℕ → ℕ → Option Value
risks_of style inst i t s = cond (is_allowed inst i s && in_run inst i s t)
    (Some (count_list style (list_of (scenarios_of inst t) (λ k. risk_of inst i s t (k + 1))))) None

abbrev pub risk_value : Style → Tables → ℕ → Value
risk_value style inst i =
    object_of (numbered inst.periods (λ t. filled (numbered (tmax inst i) (risks_of style inst i t))))

abbrev pub intervention_value : Style → Tables → ℕ → Value
intervention_value style inst i = object_of (
    under known.Tmax (whole_number (tmax inst i))
    ∷ under known.Delta (whole_list (durations inst i))
    ∷ under known.Workload (workload_value style inst i)
    ∷ under known.Risk (risk_value style inst i) ∷ [])

-- ---- the whole

abbrev pub instance_value : Style → Tables → Value
instance_value style inst = object_of (
    under known.Resources (object_of (named inst.resource_names (λ c. Some (resource_value style inst c))))
    ∷ under known.Seasons (object_of (named inst.season_names (λ q. Some (season_value inst q))))
    ∷ under known.Interventions (object_of (named inst.names (λ i. Some (intervention_value style inst i))))
    ∷ under known.Exclusions (object_of (named inst.exclusion_names (λ e. Some (exclusion_value inst e))))
    ∷ under known.T (whole_number inst.periods)
    ∷ under known.ScenariosNumber (whole_list inst.scenarios)
    ∷ under known.Quantile (Value.number (style.part inst.quantile))
    ∷ under known.Alpha (Value.number (style.part inst.alpha)) ∷ [])

-- the text of an instance
abbrev pub instance_text : Style → Tables → List ℕ
instance_text style inst = spell (instance_value style inst)
