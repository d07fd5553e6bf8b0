-- The faults of a tree in the order of its text, and how many numbers of a sort stand in it.
use Rattle.std.specs.Prelude.{ℕ, ◌+◌, List, [], ◌++◌, Bool, cond}
use Rattle.std.proofs.Common.{pred}
use Rattle.json_grammar.specs.Tree.{Tree, tree, Node, Trees, no_trees, and_tree, Members, no_members, and_member}
use Rattle.instance_model.specs.declared.limits.Limits.{Limits}
use Rattle.instance_shape.specs.declared.fault.Fault.{Fault}
use Rattle.instance_shape.specs.declared.spot.Spot.{Spot}
use Rattle.instance_shape.specs.Keys.{Key, key_of}
use Rattle.instance_shape.specs.Shape.{kind_of, required, under, element}
use Rattle.instance_shape.specs.ShapeFaults.{own_faults, key_faults, keys_of, count_trees, missing, too_few, is_risk}
use Rattle.instance_shape.specs.ShapeFaults.{is_workload}
use Rattle.shape_walk.specs.Machine.{number_past}

abbrev pub one_if : Bool → ℕ
one_if b = cond b 1 0

-- how many numbers stand at the spots of a test
abbrev mutual
  pub numbers_in : (Spot → Bool) → Spot → Tree → ℕ
  numbers_in p s (tree at end n) = node_numbers p s n

  pub node_numbers : (Spot → Bool) → Spot → Node → ℕ
  node_numbers p s (Node.number x) = one_if (p s)
  node_numbers p s (Node.list ts) = elements_numbers p s 0 ts
  node_numbers p s (Node.object ms) = members_numbers p s ms
  node_numbers p s n = 0

  pub elements_numbers : (Spot → Bool) → Spot → ℕ → Trees → ℕ
  elements_numbers p s n no_trees = 0
  elements_numbers p s n (and_tree t ts) = numbers_in p (element s n) t + elements_numbers p s (n + 1) ts

  pub members_numbers : (Spot → Bool) → Spot → Members → ℕ
  members_numbers p s no_members = 0
  members_numbers p s (and_member at end k t ms) = numbers_in p (under s k) t + members_numbers p s ms

-- the faults, behind so many numbers under risk and under workload
abbrev mutual
  pub in_order : Limits → Spot → Tree → ℕ → ℕ → List Fault
  in_order limits s (tree at end n) r w = node_in_order limits s at end n r w

  pub node_in_order : Limits → Spot → ℕ → ℕ → Node → ℕ → ℕ → List Fault
  node_in_order limits s at end (Node.number x) r w =
      own_faults limits s at (Node.number x) ++ number_past limits s at r w
  node_in_order limits s at end (Node.list ts) r w =
      own_faults limits s at (Node.list no_trees)
      ++ (elements_in_order limits s 0 ts r w ++ too_few (kind_of s) (count_trees ts) (pred end))
  node_in_order limits s at end (Node.object ms) r w =
      own_faults limits s at (Node.object no_members)
      ++ (members_in_order limits s [] ms r w ++ missing (required s) (keys_of (kind_of s) ms) (pred end))
  node_in_order limits s at end n r w = own_faults limits s at n

  pub elements_in_order : Limits → Spot → ℕ → Trees → ℕ → ℕ → List Fault
  elements_in_order limits s n no_trees r w = []
  elements_in_order limits s n (and_tree t ts) r w =
      in_order limits (element s n) t r w
      ++ elements_in_order limits s (n + 1) ts (r + numbers_in is_risk (element s n) t)
      (w + numbers_in is_workload (element s n) t)

  pub members_in_order : Limits → Spot → List Key → Members → ℕ → ℕ → List Fault
  members_in_order limits s ks no_members r w = []
  members_in_order limits s ks (and_member at end k t ms) r w =
      key_faults limits s ks at k ++ (in_order limits (under s k) t r w
      ++ members_in_order limits s (ks ++ key_of (kind_of s) k) ms (r + numbers_in is_risk (under s k) t)
      (w + numbers_in is_workload (under s k) t))

-- the spot that the last key of an object leads to
abbrev pub last_next : Spot → Spot → Members → Spot
last_next s n no_members = n
last_next s n (and_member at end k t ms) = last_next s (under s k) ms
