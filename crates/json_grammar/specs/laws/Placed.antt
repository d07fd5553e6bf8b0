-- Defines the tree of a value's text that begins at an offset, and the value that a tree stands for.
use Rattle.std.specs.Prelude.{ℕ, suc, ◌+◌, length}
use Rattle.json_grammar.specs.Tree.{Tree, tree, Node, Trees, no_trees, and_tree, Members, no_members, and_member}
use Rattle.json_grammar.specs.laws.Value.{Value, Values, no_values, and_value, Fields, no_fields, and_field}
use Rattle.json_grammar.specs.laws.Spelling.{spell, quoted}

-- The offset of the first byte comes first.
abbrev mutual
  pub placed_node : ℕ → Value → Node
  placed_node k Value.null = Node.null
  placed_node k (Value.boolean b) = Node.boolean b
  placed_node k (Value.number s) = Node.number s
  placed_node k (Value.text s) = Node.text s
  placed_node k (Value.list vs) = Node.list (placed_values (suc k) vs)
  placed_node k (Value.object fs) = Node.object (placed_fields (suc k) fs)

  -- behind each element stands a comma or the closing bracket
  pub placed_values : ℕ → Values → Trees
  placed_values k no_values = no_trees
  placed_values k (and_value v vs) =
      and_tree (tree k (k + length (spell v)) (placed_node k v)) (placed_values (suc (k + length (spell v))) vs)

  -- behind each key stands a colon, behind each value a comma or the closing brace
  pub placed_fields : ℕ → Fields → Members
  placed_fields k no_fields = no_members
  placed_fields k (and_field key v fs) =
      let end = k + length (quoted key) in
      and_member k end key (tree (suc end) (suc end + length (spell v)) (placed_node (suc end) v))
      (placed_fields (suc (suc end + length (spell v))) fs)

-- the tree of a value whose text begins at the offset
abbrev pub placed_at : ℕ → Value → Tree
placed_at k v = tree k (k + length (spell v)) (placed_node k v)

-- the value of a tree, without its places
abbrev mutual
  pub value_of : Tree → Value
  value_of (tree at end node) = node_value node

  pub node_value : Node → Value
  node_value Node.null = Value.null
  node_value (Node.boolean b) = Value.boolean b
  node_value (Node.number s) = Value.number s
  node_value (Node.text s) = Value.text s
  node_value (Node.list ts) = Value.list (tree_values ts)
  node_value (Node.object ms) = Value.object (member_fields ms)

  pub tree_values : Trees → Values
  tree_values no_trees = no_values
  tree_values (and_tree t ts) = and_value (value_of t) (tree_values ts)

  pub member_fields : Members → Fields
  member_fields no_members = no_fields
  member_fields (and_member at end key t ms) = and_field key (value_of t) (member_fields ms)
