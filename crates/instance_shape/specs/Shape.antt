-- Defines the shape of an instance: the spots at which values stand, and what has to stand at each.
use Rattle.std.specs.Prelude.{ℕ, ◌+◌, Bool, true, false, ◌&&◌, List, [], ◌∷◌, ◌++◌, cond, nat_le, nat_lt, bytes_eq}
use Rattle.std.specs.Prelude.{is_some, option_map, unwrap_or}
use Rattle.json_grammar.specs.Tree.{Tree, tree, Node, Trees, no_trees, and_tree, Members, no_members, and_member}
use Rattle.decimal_numbers.specs.Exact.{whole, millionths}
use Rattle.instance_shape.specs.declared.fault.Known.{Known}
use Rattle.instance_shape.specs.declared.fault.Known.TheVariants as known
use Rattle.instance_shape.specs.declared.spot.Spot.{Spot}
use Rattle.instance_shape.specs.declared.spot.Spot.TheVariants as spot
use Rattle.instance_shape.specs.declared.spot.Kind.{Kind}
use Rattle.instance_shape.specs.declared.spot.Kind.TheVariants as kind
use Rattle.instance_shape.specs.Keys.{text_of}

-- what has to stand at a spot
abbrev pub kind_of : Spot → Kind
kind_of spot.Root = kind.Record
kind_of spot.Resources = kind.Names
kind_of spot.Resource = kind.Record
kind_of spot.Max = kind.List
kind_of spot.Min = kind.List
kind_of spot.BandLimit = kind.Count
kind_of spot.Seasons = kind.Names
kind_of spot.Season = kind.List
kind_of spot.SeasonPeriod = kind.Whole
kind_of spot.Interventions = kind.Names
kind_of spot.Intervention = kind.Record
kind_of spot.Tmax = kind.Whole
kind_of spot.Delta = kind.List
kind_of spot.Duration = kind.Whole
kind_of spot.Workload = kind.Names
kind_of spot.WorkloadResource = kind.Numbers
kind_of spot.WorkloadPeriod = kind.Numbers
kind_of spot.WorkloadNumber = kind.Count
kind_of spot.Risk = kind.Numbers
kind_of spot.RiskPeriod = kind.Numbers
kind_of spot.RiskStart = kind.List
kind_of spot.RiskNumber = kind.Count
kind_of spot.Exclusions = kind.Names
kind_of spot.Exclusion = kind.Triple
kind_of spot.Word = kind.Name
kind_of spot.Beyond = kind.Nothing
kind_of spot.T = kind.Whole
kind_of spot.ScenariosNumber = kind.List
kind_of spot.Scenario = kind.Whole
kind_of spot.Quantile = kind.Quantile
kind_of spot.Alpha = kind.Alpha
kind_of spot.Skipped = kind.Anything

-- the later ones of the required keys of the root
abbrev pub late_keys : List (Known × Spot)
late_keys = (known.T, spot.T) ∷ (known.ScenariosNumber, spot.ScenariosNumber) ∷ (known.Quantile, spot.Quantile)
    ∷ (known.Alpha, spot.Alpha) ∷ []

-- the required keys of an object, and the spot of the value under each
abbrev pub required : Spot → List (Known × Spot)
required spot.Root =
    (known.Resources, spot.Resources) ∷ (known.Seasons, spot.Seasons) ∷ (known.Interventions, spot.Interventions)
    ∷ (known.Exclusions, spot.Exclusions) ∷ late_keys
required spot.Resource = (known.Max, spot.Max) ∷ (known.Min, spot.Min) ∷ []
required spot.Intervention =
    (known.Tmax, spot.Tmax) ∷ (known.Delta, spot.Delta) ∷ (known.Workload, spot.Workload) ∷ (known.Risk, spot.Risk) ∷ []
required _ = []

-- the spot under a key among required ones; other keys are skipped
abbrev pub among : List (Known × Spot) → List ℕ → Spot
among [] key = spot.Skipped
among (r ∷ rs) key = cond (bytes_eq key (text_of r.0)) r.1 (among rs key)

-- the spot of the value under a key of the object at a spot
abbrev pub under : Spot → List ℕ → Spot
under spot.Resources key = spot.Resource
under spot.Seasons key = spot.Season
under spot.Interventions key = spot.Intervention
under spot.Workload key = spot.WorkloadResource
under spot.WorkloadResource key = spot.WorkloadPeriod
under spot.WorkloadPeriod key = spot.WorkloadNumber
under spot.Risk key = spot.RiskPeriod
under spot.RiskPeriod key = spot.RiskStart
under spot.Exclusions key = spot.Exclusion
under s key = among (required s) key

-- the spot of the element of a list with so many elements before it
abbrev pub element : Spot → ℕ → Spot
element spot.Max n = spot.BandLimit
element spot.Min n = spot.BandLimit
element spot.Season n = spot.SeasonPeriod
element spot.Delta n = spot.Duration
element spot.RiskStart n = spot.RiskNumber
element spot.ScenariosNumber n = spot.Scenario
element spot.Exclusion n = cond (nat_lt n 3) spot.Word spot.Beyond
element _ n = spot.Skipped

-- a value is an object, a list, a number, a text
abbrev pub is_object : Node → Bool
is_object (Node.object ms) = true
is_object _ = false

abbrev pub is_list : Node → Bool
is_list (Node.list ts) = true
is_list _ = false

abbrev pub is_number : Node → Bool
is_number (Node.number s) = true
is_number _ = false

abbrev pub is_text : Node → Bool
is_text (Node.text s) = true
is_text _ = false

-- a number that is a multiple of 10^-6 and stands from so many of them to 1
abbrev pub is_part : ℕ → Node → Bool
is_part least (Node.number s) = unwrap_or (option_map (λ m. nat_le least m && nat_le m 1_000_000) (millionths s)) false
is_part least _ = false

-- a value has the shape; a list or an object is judged only by being one
abbrev pub has_shape : Kind → Node → Bool
has_shape kind.Record n = is_object n
has_shape kind.Names n = is_object n
has_shape kind.Numbers n = is_object n
has_shape kind.List n = is_list n
has_shape kind.Triple n = is_list n
has_shape kind.Whole n = is_some (whole n)
has_shape kind.Count n = is_number n
has_shape kind.Quantile n = is_part 1 n
has_shape kind.Alpha n = is_part 0 n
has_shape kind.Name n = is_text n
has_shape kind.Nothing n = false
has_shape kind.Anything n = true

-- a value and the spot at which it stands
pub record Placed : Type 0 where
  pub spot : Spot
  pub tree : Tree

-- all values of a text with their spots, each before those in it, in the order of the text
abbrev mutual
  pub placed : Spot → Tree → List Placed
  placed s (tree at end n) = record { spot = s; tree = tree at end n } ∷ placed_node s n

  pub placed_node : Spot → Node → List Placed
  placed_node s (Node.list ts) = placed_elements s 0 ts
  placed_node s (Node.object ms) = placed_members s ms
  placed_node s _ = []

  pub placed_elements : Spot → ℕ → Trees → List Placed
  placed_elements s n no_trees = []
  placed_elements s n (and_tree t ts) = placed (element s n) t ++ placed_elements s (n + 1) ts

  pub placed_members : Spot → Members → List Placed
  placed_members s no_members = []
  placed_members s (and_member at end key t ms) = placed (under s key) t ++ placed_members s ms
