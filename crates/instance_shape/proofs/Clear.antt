-- Faults of shape that aren't there: of lists of faults, of values one after
-- another, and of a value with what is in it.
use Rattle.std.proofs.Common.{◌≡◌, ℕ, ◌≤◌, Bool, true, false, not, List, [], ◌∷◌, ◌++◌, length, refl, sym, ◌∙◌, ap}
use Rattle.std.proofs.Common.{arith, append_assoc, pred, zero, suc}
use Rattle.std.specs.Prelude.{slice_get}
use Rattle.json_grammar.specs.Tree.{Tree, tree, Node}
use Rattle.instance_model.specs.declared.limits.Limits.{Limits}
use Rattle.instance_shape.specs.declared.fault.Fault.{Fault}
use Rattle.instance_shape.specs.declared.fault.Flaw.{Flaw}
use Rattle.instance_shape.specs.declared.fault.Which.{Which}
use Rattle.instance_shape.specs.declared.fault.Which.TheVariants as which
use Rattle.instance_shape.specs.declared.spot.Spot.{Spot}
use Rattle.instance_shape.specs.declared.spot.Spot.TheVariants as spot
use Rattle.instance_shape.specs.Shape.{Placed, placed, placed_node}
use Rattle.instance_shape.specs.ShapeFaults.{where_so, own_faults, inside_faults, value_faults, values_faults}
use Rattle.instance_shape.specs.ShapeFaults.{numbers_at, is_risk, is_workload, count_faults, shape_faults}

-- ---- lists of faults

pub clear_left : (xs ys : List Fault) → xs ++ ys ≡ [] → xs ≡ []
clear_left [] ys h = refl
clear_left (x ∷ xs) ys h = cc

pub clear_right : (xs ys : List Fault) → xs ++ ys ≡ [] → ys ≡ []
clear_right [] ys h = h
clear_right (x ∷ xs) ys h = cc

pub clear_both : (xs ys : List Fault) → xs ≡ [] → ys ≡ [] → xs ++ ys ≡ []
clear_both [] ys h k = k
clear_both (x ∷ xs) ys h k = cc

-- where a test makes no fault it fails
pub not_so : (b : Bool) (at : ℕ) (f : Flaw) → where_so b at f ≡ [] → b ≡ false
not_so false at f h = refl
not_so true at f h = cc

pub is_so : (b : Bool) (at : ℕ) (f : Flaw) → where_so (not b) at f ≡ [] → b ≡ true
is_so true at f h = refl
is_so false at f h = cc

-- ---- values one after another

pub values_faults-append : (limits : Limits) (xs ys : List Placed)
    → values_faults limits (xs ++ ys) ≡ values_faults limits xs ++ values_faults limits ys
values_faults-append limits [] ys = refl
values_faults-append limits (x ∷ xs) ys = ap (λ r. value_faults limits x ++ r) (values_faults-append limits xs ys)
    ∙ sym (append_assoc (value_faults limits x) (values_faults limits xs) (values_faults limits ys))

pub clear_front : (limits : Limits) (xs ys : List Placed) → values_faults limits (xs ++ ys) ≡ []
    → values_faults limits xs ≡ []
clear_front limits xs ys h =
    clear_left (values_faults limits xs) (values_faults limits ys) (sym (values_faults-append limits xs ys) ∙ h)

pub clear_rest : (limits : Limits) (xs ys : List Placed) → values_faults limits (xs ++ ys) ≡ []
    → values_faults limits ys ≡ []
clear_rest limits xs ys h =
    clear_right (values_faults limits xs) (values_faults limits ys) (sym (values_faults-append limits xs ys) ∙ h)

-- ---- a value

-- a value at a spot has no fault of shape, and neither has what is in it
abbrev pub IsClear : Limits → Spot → Tree → Type 0
IsClear limits s t = values_faults limits (placed s t) ≡ []

pub own_clear : (limits : Limits) (s : Spot) (at end : ℕ) (n : Node) → IsClear limits s (tree at end n)
    → own_faults limits s at n ≡ []
own_clear limits s at end n h = clear_left (own_faults limits s at n) _
    (clear_left (value_faults limits (record { spot = s; tree = tree at end n })) _ h)

pub inside_clear : (limits : Limits) (s : Spot) (at end : ℕ) (n : Node) → IsClear limits s (tree at end n)
    → inside_faults limits s (pred end) n ≡ []
inside_clear limits s at end n h = clear_right (own_faults limits s at n) _
    (clear_left (value_faults limits (record { spot = s; tree = tree at end n })) _ h)

pub node_clear : (limits : Limits) (s : Spot) (at end : ℕ) (n : Node) → IsClear limits s (tree at end n)
    → values_faults limits (placed_node s n) ≡ []
node_clear limits s at end n h = clear_right (value_faults limits (record { spot = s; tree = tree at end n })) _ h

-- ---- a text

within_limit : (ns : List ℕ) (limit : ℕ) (w : Which) → count_faults (slice_get ns limit) w ≡ [] → length ns ≤ limit
within_limit [] limit w h = omega arith
within_limit (n ∷ ns) zero w h = cc
within_limit (n ∷ ns) (suc limit) w h = omega (arith, within_limit ns limit w h)

values_and_risks : (limits : Limits) (root : Tree) → shape_faults limits root ≡ []
    → values_faults limits (placed spot.Root root)
    ++ count_faults (slice_get (numbers_at is_risk (placed spot.Root root)) limits.risk_cells) which.RiskCells ≡ []
values_and_risks limits root h = clear_left
    (values_faults limits (placed spot.Root root)
    ++ count_faults (slice_get (numbers_at is_risk (placed spot.Root root)) limits.risk_cells) which.RiskCells) _ h

-- a text without a fault of shape has none in a value, and no more numbers
-- under risk and under workload than the limits
pub root_clear : (limits : Limits) (root : Tree) → shape_faults limits root ≡ [] → IsClear limits spot.Root root
root_clear limits root h = clear_left (values_faults limits (placed spot.Root root)) _ (values_and_risks limits root h)

pub risks_within : (limits : Limits) (root : Tree) → shape_faults limits root ≡ []
    → length (numbers_at is_risk (placed spot.Root root)) ≤ limits.risk_cells
risks_within limits root h = within_limit (numbers_at is_risk (placed spot.Root root)) limits.risk_cells which.RiskCells
    (clear_right (values_faults limits (placed spot.Root root)) _ (values_and_risks limits root h))

pub workloads_within : (limits : Limits) (root : Tree) → shape_faults limits root ≡ []
    → length (numbers_at is_workload (placed spot.Root root)) ≤ limits.workload_entries
workloads_within limits root h =
    within_limit (numbers_at is_workload (placed spot.Root root)) limits.workload_entries which.WorkloadEntries
    (clear_right
    (values_faults limits (placed spot.Root root)
    ++ count_faults (slice_get (numbers_at is_risk (placed spot.Root root)) limits.risk_cells) which.RiskCells) _ h)
