-- A walk over a tree whose leaves are looked at.
use Rattle.std.proofs.Common.{◌≡◌, ℕ, ◌+◌, ◌<◌, List, [], ◌∷◌, length, get_or}
use Rattle.instance_model.specs.Tables.{Tables}
use Rattle.instance_model.specs.Fitting.{IsFitting}
use Rattle.lagrange_bound.specs.declared.span.Span.{Span}
use Rattle.lagrange_bound.specs.Boxes.{IsBox}
use Rattle.certificate_tree.specs.declared.node.Node.{Node}
use Rattle.certificate_tree.specs.declared.node.Node.TheVariants.{Split}
use Rattle.certificate_tree.specs.Walk.{first_box, other_boxes}
use Rattle.certificate_tree.specs.Trees.{Tree, root_box, below, above, IsSplit}
use Rattle.certificate_tree.specs.Ranges.{AreNodesOf}
use Rattle.certificate_check.proofs.FlatLemmas.{flat_leaves}
use Rattle.certificate_check.proofs.StepLemmas.{IsAt, NotSplit, leaf_step, split_step, start_at}

-- the walk stands at node k, behind some leaves
pub record IsWalking (inst : Tables) (lists : ℕ) (nodes : List Node) (k : ℕ) (path : List (List Span)) : Type 0 where
  pub passed : ℕ
  pub here : IsAt inst lists nodes (flat_leaves nodes (root_box inst ∷ [])) k passed path

pub walk_start : (inst : Tables) (lists : ℕ) (nodes : List Node) (path : List (List Span)) (t : Tree) → IsFitting inst
    → path ≡ root_box inst ∷ [] → AreNodesOf inst lists (root_box inst) t nodes → IsWalking inst lists nodes 0 path
walk_start inst lists nodes path t fit is of_nodes =
    record { passed = 0; here = start_at inst lists nodes path t fit is of_nodes }

-- past a leaf
pub record PassesLeaf (inst : Tables) (lists : ℕ) (nodes : List Node) (k : ℕ) (path : List (List Span)) : Type 0 where
  pub is_box : IsBox inst (first_box path)
  pub after : IsWalking inst lists nodes (k + 1) (other_boxes path)

pub walk_leaf : (inst : Tables) (lists : ℕ) (nodes : List Node) (k : ℕ) (path : List (List Span)) (n : Node)
    → k < length nodes → n ≡ get_or nodes k n → NotSplit n → 0 < length path → IsWalking inst lists nodes k path
    → PassesLeaf inst lists nodes k path
walk_leaf inst lists nodes k path n l is leaf some w =
    let total = flat_leaves nodes (root_box inst ∷ []) in
    let step = leaf_step inst lists nodes total k w.passed path n l is leaf some w.here in
    record { is_box = step.is_box; after = record { passed = w.passed + 1; here = step.after } }

-- past a split
pub record PassesSplit (inst : Tables) (lists : ℕ) (nodes : List Node) (k : ℕ) (path : List (List Span)) (i m : ℕ)
    : Type 0 where
  pub splits : IsSplit (first_box path) i m
  pub after : IsWalking inst lists nodes (k + 1)
      (below (first_box path) i m ∷ above (first_box path) i m ∷ other_boxes path)

pub walk_split : (inst : Tables) (lists : ℕ) (nodes : List Node) (k : ℕ) (path : List (List Span)) (n : Node) (i m : ℕ)
    → k < length nodes → n ≡ get_or nodes k n → n ≡ Split i m → 0 < length path → IsWalking inst lists nodes k path
    → PassesSplit inst lists nodes k path i m
walk_split inst lists nodes k path n i m l is split some w =
    let total = flat_leaves nodes (root_box inst ∷ []) in
    let step = split_step inst lists nodes total k w.passed path n i m l is split some w.here in
    record { splits = step.splits; after = record { passed = w.passed; here = step.after } }
