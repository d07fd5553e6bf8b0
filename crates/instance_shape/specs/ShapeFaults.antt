-- Defines the faults of shape of a text, each with its place, and which of them counts.
use Rattle.std.specs.Prelude.{◌≡◌, ℕ, ◌+◌, ◌<◌, ◌⊎◌, Bool, true, false, ◌&&◌, ◌==◌, List, [], ◌∷◌, ◌++◌, Option, Some}
use Rattle.std.specs.Prelude.{None, cond, nat_le, nat_lt, not, is_none, length, slice_get}
use Rattle.std.proofs.Common.{pred}
use Rattle.json_grammar.specs.Tree.{Tree, tree, Node, Trees, no_trees, and_tree, Members, no_members, and_member}
use Rattle.decimal_numbers.specs.Exact.{whole, fixed}
use Rattle.instance_shape.specs.declared.fault.Known.{Known}
use Rattle.instance_shape.specs.declared.fault.Which.{Which}
use Rattle.instance_shape.specs.declared.fault.Which.TheVariants as which
use Rattle.instance_shape.specs.declared.fault.Flaw.{Flaw}
use Rattle.instance_shape.specs.declared.fault.Flaw.TheVariants as flaw
use Rattle.instance_shape.specs.declared.fault.Fault.{Fault}
use Rattle.instance_model.specs.declared.limits.Limits.{Limits}
use Rattle.instance_shape.specs.declared.spot.Spot.{Spot}
use Rattle.instance_shape.specs.declared.spot.Spot.TheVariants as spot
use Rattle.instance_shape.specs.declared.spot.Kind.{Kind}
use Rattle.instance_shape.specs.declared.spot.Kind.TheVariants as kind
use Rattle.instance_shape.specs.Keys.{text_of, is_name, is_digits, Key, by_text, key_of, has_key, is_double}
use Rattle.instance_shape.specs.Shape.{kind_of, required, has_shape, Placed, placed}

-- a fault at a place, if the test holds
abbrev pub where_so : Bool → ℕ → Flaw → List Fault
where_so b at f = cond b (record { at = at; flaw = f } ∷ []) []

-- the keys of such an object are names
abbrev pub takes_names : Kind → Bool
takes_names kind.Names = true
takes_names _ = false

-- the keys of such an object are periods or starts
abbrev pub takes_numbers : Kind → Bool
takes_numbers kind.Numbers = true
takes_numbers _ = false

-- the limit on the number of keys of an object, where there is one
abbrev pub key_limit : Limits → Spot → Option (ℕ × Which)
key_limit limits spot.Resources = Some (limits.resources, which.Resources)
key_limit limits spot.Interventions = Some (limits.interventions, which.Interventions)
key_limit limits spot.Seasons = Some (limits.seasons, which.Seasons)
key_limit limits spot.Exclusions = Some (limits.exclusions, which.Exclusions)
key_limit limits _ = None

-- the key behind as many keys as the limit allows
abbrev pub first_past : Option (ℕ × Which) → ℕ → ℕ → List Fault
first_past None before at = []
first_past (Some l) before at = where_so (before == l.0) at (flaw.Limit l.1)

-- the faults at the opening quote of a key, behind the earlier keys of its object: it equals one of them, it has to be
-- a name and isn't, it has to be a period or start and isn't, it is the first one past the limit
abbrev pub key_faults : Limits → Spot → List Key → ℕ → List ℕ → List Fault
key_faults limits s earlier at key =
    where_so (is_double earlier (key_of (kind_of s) key)) at flaw.Double
    ++ where_so (takes_names (kind_of s) && not (is_name key)) at flaw.BadName
    ++ where_so (takes_numbers (kind_of s) && not (is_digits key)) at flaw.Shape
    ++ first_past (key_limit limits s) (length earlier) at

-- the faults of the keys of an object, behind earlier ones
abbrev pub keys_faults : Limits → Spot → List Key → Members → List Fault
keys_faults limits s earlier no_members = []
keys_faults limits s earlier (and_member at end key t ms) =
    key_faults limits s earlier at key ++ keys_faults limits s (earlier ++ key_of (kind_of s) key) ms

-- the keys of an object
abbrev pub keys_of : Kind → Members → List Key
keys_of kd no_members = []
keys_of kd (and_member at end key t ms) = key_of kd key ++ keys_of kd ms

-- the first required key that an object lacks
abbrev pub first_missing : List (Known × Spot) → List Key → Option Known
first_missing [] keys = None
first_missing (r ∷ rs) keys = cond (has_key keys (by_text (text_of r.0))) (first_missing rs keys) (Some r.0)

abbrev pub missing_at : ℕ → Option Known → List Fault
missing_at at None = []
missing_at at (Some k) = record { at = at; flaw = flaw.Missing k } ∷ []

-- the first required key that an object lacks, as a fault at its closing brace
abbrev pub missing : List (Known × Spot) → List Key → ℕ → List Fault
missing rs keys at = missing_at at (first_missing rs keys)

-- how many elements a list has
abbrev pub count_trees : Trees → ℕ
count_trees no_trees = 0
count_trees (and_tree t ts) = 1 + count_trees ts

-- the limit on a whole number, where there is one
abbrev pub whole_limit : Limits → Spot → Option (ℕ × Which)
whole_limit limits spot.T = Some (limits.periods, which.Periods)
whole_limit limits spot.Scenario = Some (limits.scenarios, which.Scenarios)
whole_limit limits _ = None

-- a whole number outside 1 to its limit
abbrev pub outside : Option (ℕ × Which) → ℕ → Option ℕ → List Fault
outside (Some l) at (Some n) = where_so (not (nat_le 1 n && nat_le n l.0)) at (flaw.Limit l.1)
outside _ at _ = []

-- what a value is judged by, besides having its shape
abbrev pub value_rows : Limits → Spot → Kind → ℕ → Node → List Fault
value_rows limits s kind.Count at (Node.number x) = where_so (is_none (fixed x)) at flaw.TooLarge
value_rows limits s kind.Name at (Node.text x) = where_so (not (is_name x)) at flaw.BadName
value_rows limits s kind.Whole at n = outside (whole_limit limits s) at (whole n)
value_rows limits s _ at n = []

-- the faults at the first byte of a value
abbrev pub own_faults : Limits → Spot → ℕ → Node → List Fault
own_faults limits s at n =
    where_so (not (has_shape (kind_of s) n)) at flaw.Shape ++ value_rows limits s (kind_of s) at n

-- the closing bracket of an exclusion with fewer than three elements
abbrev pub too_few : Kind → ℕ → ℕ → List Fault
too_few kind.Triple n at = where_so (nat_lt n 3) at flaw.Shape
too_few _ n at = []

-- the faults at the keys and at the closing bracket or brace of a value
abbrev pub inside_faults : Limits → Spot → ℕ → Node → List Fault
inside_faults limits s last (Node.object ms) =
    keys_faults limits s [] ms ++ missing (required s) (keys_of (kind_of s) ms) last
inside_faults limits s last (Node.list ts) = too_few (kind_of s) (count_trees ts) last
inside_faults limits s last n = []

-- the faults of a value, but for those of the values in it
abbrev pub tree_faults : Limits → Spot → Tree → List Fault
tree_faults limits s (tree at end n) = own_faults limits s at n ++ inside_faults limits s (pred end) n

-- the same of a value at its spot
abbrev pub value_faults : Limits → Placed → List Fault
value_faults limits p = tree_faults limits p.spot p.tree

-- the faults of values, one after another
abbrev pub values_faults : Limits → List Placed → List Fault
values_faults limits [] = []
values_faults limits (p ∷ ps) = value_faults limits p ++ values_faults limits ps

-- a spot of the numbers under risk, and of those under workload
abbrev pub is_risk : Spot → Bool
is_risk spot.RiskNumber = true
is_risk _ = false

abbrev pub is_workload : Spot → Bool
is_workload spot.WorkloadNumber = true
is_workload _ = false

-- where a number stands
abbrev pub place_of_number : Tree → List ℕ
place_of_number (tree at end (Node.number s)) = at ∷ []
place_of_number (tree at end _) = []

-- where the numbers at some spots stand
abbrev pub numbers_at : (Spot → Bool) → List Placed → List ℕ
numbers_at p [] = []
numbers_at p (v ∷ vs) = cond (p v.spot) (place_of_number v.tree) [] ++ numbers_at p vs

-- the first number past a limit, where there is one
abbrev pub count_faults : Option ℕ → Which → List Fault
count_faults None w = []
count_faults (Some at) w = record { at = at; flaw = flaw.Limit w } ∷ []

-- all faults of shape of a text
abbrev pub shape_faults : Limits → Tree → List Fault
shape_faults limits root =
    let all = placed spot.Root root in
    values_faults limits all
    ++ count_faults (slice_get (numbers_at is_risk all) limits.risk_cells) which.RiskCells
    ++ count_faults (slice_get (numbers_at is_workload all) limits.workload_entries) which.WorkloadEntries

-- the row of a flaw in the table
abbrev pub row_of : Flaw → ℕ
row_of flaw.Double = 0
row_of flaw.BadName = 1
row_of (flaw.Missing k) = 2
row_of flaw.Shape = 3
row_of flaw.TooLarge = 4
row_of (flaw.Limit w) = 5

-- one fault counts before another: its place is less, or it is the same place and an earlier row
abbrev pub IsBefore : Fault → Fault → Type 0
IsBefore f g = (f.at < g.at) ⊎ ((f.at ≡ g.at) × (row_of f.flaw < row_of g.flaw))

-- a fault is one of a list
abbrev pub Among : List Fault → Fault → Type 0
Among [] f = ⊥
Among (g ∷ gs) f = (g ≡ f) ⊎ Among gs f

-- the fault of shape that counts
pub record IsLeast (faults : List Fault) (f : Fault) : Type 0 where
  pub among : Among faults f
  pub least : (g : Fault) → Among faults g → (g ≡ f) ⊎ IsBefore f g
