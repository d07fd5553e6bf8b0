-- The numbers at the root of a text without a fault of shape: periods, scenarios and quantile.
use Rattle.std.proofs.Common.{◌≡◌, ℕ, ◌≤◌, ◌&&◌, true, false, not, [], ◌++◌, Option, Some, None, refl, arith, is_some}
use Rattle.std.proofs.Common.{unwrap_or, option_map}
use Rattle.std.specs.Prelude.{All, nat_le}
use Rattle.std.proofs.lemmas.Bool.Decides.{nat_tests}
use Rattle.std.proofs.lemmas.List.Elements.{All-nil, All-map}
use Rattle.json_grammar.specs.Tree.{Tree, tree, Node}
use Rattle.decimal_numbers.specs.Exact.{whole, millionths}
use Rattle.instance_model.specs.declared.limits.Limits.{Limits}
use Rattle.instance_shape.specs.declared.fault.Flaw.TheVariants as flaw
use Rattle.instance_shape.specs.declared.fault.Known.TheVariants as is
use Rattle.instance_shape.specs.declared.fault.Which.{Which}
use Rattle.instance_shape.specs.declared.spot.Spot.TheVariants as spot
use Rattle.instance_shape.specs.Shape.{is_part}
use Rattle.instance_shape.specs.ShapeFaults.{where_so, outside}
use Rattle.instance_shape.specs.LookUp.{elements, known, whole_at, part_at, periods, scenarios}
use Rattle.instance_shape.proofs.Clear.{IsClear, own_clear, clear_left, not_so, is_so}
use Rattle.instance_shape.proofs.ClearParts.{elements_clear, known_clear, root_known}

-- ---- whole numbers within a limit

pub record Between (least most n : ℕ) : Type 0 where
  pub low : least ≤ n
  pub high : n ≤ most

in_range : (n m : ℕ) → not (nat_le 1 n && nat_le n m) ≡ false → Between 1 m n
in_range n m h = record { low = grind (arith, nat_tests); high = grind (arith, nat_tests) }

limited : (l : ℕ × Which) (o : Option ℕ) (at : ℕ) → where_so (not (is_some o)) at flaw.Shape ++ outside (Some l) at o
    ≡ [] → Between 1 l.0 (unwrap_or o 0)
limited l None at h = cc
limited l (Some n) at h = in_range n l.0 (not_so (not (nat_le 1 n && nat_le n l.0)) at (flaw.Limit l.1) h)

period_number : (limits : Limits) (v : Tree) → IsClear limits spot.T v → Between 1 limits.periods (whole_at v)
period_number limits (tree at end n) h = limited (limits.periods, _) (whole n) at (own_clear limits spot.T at end n h)

scenario_number : (limits : Limits) (v : Tree) → IsClear limits spot.Scenario v
    → Between 1 limits.scenarios (whole_at v)
scenario_number limits (tree at end n) h =
    limited (limits.scenarios, _) (whole n) at (own_clear limits spot.Scenario at end n h)

-- ---- at the root

pub periods_range : (limits : Limits) (root : Tree) → IsClear limits spot.Root root
    → Between 1 limits.periods (periods root)
periods_range limits root h = root_known limits root 4 is.T spot.T (λ v. Between 1 limits.periods (whole_at v)) h
    (omega arith) refl refl (period_number limits)

pub scenarios_range : (limits : Limits) (root : Tree) → IsClear limits spot.Root root
    → All (λ n. Between 1 limits.scenarios n) (scenarios root)
scenarios_range limits root h =
    All-map (λ n. Between 1 limits.scenarios n) whole_at (elements (known is.ScenariosNumber root))
    (known_clear limits spot.Root is.ScenariosNumber root (λ v. All (λ t. Between 1 limits.scenarios (whole_at t))
    (elements v)) h (All-nil (λ t. Between 1 limits.scenarios (whole_at t)))
    (λ v c. elements_clear limits spot.ScenariosNumber v (λ t. Between 1 limits.scenarios (whole_at t)) c
    (λ m t d. scenario_number limits t d)))

part_low : (least : ℕ) (o : Option ℕ) → unwrap_or (option_map (λ m. nat_le least m && nat_le m 1_000_000) o) false
    ≡ true → least ≤ unwrap_or o 0
part_low least None h = cc
part_low least (Some m) h = grind (arith, nat_tests)

quantile_low : (limits : Limits) (v : Tree) → IsClear limits spot.Quantile v → 1 ≤ part_at v
quantile_low limits (tree at end (Node.number x)) h = part_low 1 (millionths x)
    (is_so (is_part 1 (Node.number x)) at flaw.Shape
    (clear_left (where_so (not (is_part 1 (Node.number x))) at flaw.Shape) []
    (own_clear limits spot.Quantile at end (Node.number x) h)))
quantile_low limits (tree at end _) h = cc

pub quantile_some : (limits : Limits) (root : Tree) → IsClear limits spot.Root root
    → 1 ≤ part_at (known is.Quantile root)
quantile_some limits root h = root_known limits root 6 is.Quantile spot.Quantile (λ v. 1 ≤ part_at v) h (omega arith)
    refl refl (quantile_low limits)
