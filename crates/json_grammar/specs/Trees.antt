-- The tree that a value of Rust's types stands for.
use Rattle.std.specs.Prelude.{ℕ, List, [], ◌∷◌, map}
use Rattle.json_grammar.specs.Tree as spec
use Rattle.json_grammar.specs.Tree.{Trees, no_trees, and_tree, Members, no_members, and_member}
use Rattle.json_grammar.specs.declared.tree.Node.{Node, Node-F, fold-Node}
use Rattle.json_grammar.specs.declared.tree.Member.{Member, Member-F, fold-Member}
use Rattle.json_grammar.specs.declared.tree.Tree.{Tree, Tree-F, fold-Tree}

pub record Member_view : Type 0 where
  pub at : ℕ
  pub end : ℕ
  pub key : List ℕ
  pub value : spec.Tree

abbrev pub trees_of : List spec.Tree → Trees
trees_of [] = no_trees
trees_of (t ∷ ts) = and_tree t (trees_of ts)

abbrev pub members_of : List Member_view → Members
members_of [] = no_members
members_of (m ∷ ms) = and_member m.at m.end m.key m.value (members_of ms)

abbrev pub node_step : Node-F spec.Node Member_view spec.Tree → spec.Node
node_step Node-F.Null = spec.Node.null
node_step (Node-F.Bool b) = spec.Node.boolean b
node_step (Node-F.Num n) = spec.Node.number n
node_step (Node-F.Text t) = spec.Node.text t
node_step (Node-F.List v) = spec.Node.list (trees_of v.items)
node_step (Node-F.Object v) = spec.Node.object (members_of v.items)

abbrev pub member_step : Member-F spec.Node Member_view spec.Tree → Member_view
member_step m = record { at = m.at; end = m.end; key = m.key; value = m.value }

abbrev pub tree_step : Tree-F spec.Node Member_view spec.Tree → spec.Tree
tree_step t = spec.tree t.at t.end t.node

abbrev pub tree_view : Tree → spec.Tree
tree_view = fold-Tree spec.Node Member_view spec.Tree node_step member_step tree_step

abbrev pub node_view : Node → spec.Node
node_view = fold-Node spec.Node Member_view spec.Tree node_step member_step tree_step

abbrev pub member_view : Member → Member_view
member_view = fold-Member spec.Node Member_view spec.Tree node_step member_step tree_step

abbrev pub trees_view : List Tree → Trees
trees_view ts = trees_of (map tree_view ts)

abbrev pub members_view : List Member → Members
members_view ms = members_of (map member_view ms)
