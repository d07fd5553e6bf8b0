-- How deep the tree of a value is nested, and that it stands for the value.
use Rattle.std.proofs.Common.{◌≡◌, ℕ, zero, suc, ◌+◌, ◌≤◌, length, None, refl, ap, ◌∙◌, arith}
use Rattle.json_grammar.specs.Prefix.{first_past, node_first_past, trees_first_past, members_first_past}
use Rattle.json_grammar.specs.laws.Value.{Value, Values, no_values, and_value, Fields, no_fields, and_field, depth}
use Rattle.json_grammar.specs.laws.Value.{values_depth, fields_depth}
use Rattle.json_grammar.specs.laws.Spelling.{quoted, spell}
use Rattle.json_grammar.specs.laws.Placed.{placed_node, placed_at, placed_values, placed_fields, value_of, node_value}
use Rattle.json_grammar.specs.laws.Placed.{tree_values, member_fields}

mutual
  node_is_shallow : (n at k : ℕ) (v : Value) → depth v ≤ n → node_first_past n at (placed_node k v) ≡ None
  node_is_shallow n at k Value.null h = refl
  node_is_shallow n at k (Value.boolean b) h = refl
  node_is_shallow n at k (Value.number s) h = refl
  node_is_shallow n at k (Value.text s) h = refl
  node_is_shallow zero at k (Value.list vs) h = absurd (omega arith)
  node_is_shallow (suc n) at k (Value.list vs) h = values_are_shallow n (suc k) vs (omega arith)
  node_is_shallow zero at k (Value.object fs) h = absurd (omega arith)
  node_is_shallow (suc n) at k (Value.object fs) h = fields_are_shallow n (suc k) fs (omega arith)

  values_are_shallow : (n k : ℕ) (vs : Values) → values_depth vs ≤ n → trees_first_past n (placed_values k vs) ≡ None
  values_are_shallow n k no_values h = refl
  values_are_shallow n k (and_value v vs) h = rw (node_is_shallow n k k v (omega arith))
      (values_are_shallow n (suc (k + length (spell v))) vs (omega arith))

  fields_are_shallow : (n k : ℕ) (fs : Fields) → fields_depth fs ≤ n → members_first_past n (placed_fields k fs) ≡ None
  fields_are_shallow n k no_fields h = refl
  fields_are_shallow n k (and_field key v fs) h =
      let at = suc (k + length (quoted key)) in rw (node_is_shallow n at at v (omega arith))
      (fields_are_shallow n (suc (at + length (spell v))) fs (omega arith))

pub tree_is_shallow : (n k : ℕ) (v : Value) → depth v ≤ n → first_past n (placed_at k v) ≡ None
tree_is_shallow n k v h = node_is_shallow n k k v h

mutual
  node_value-placed_node : (k : ℕ) (v : Value) → node_value (placed_node k v) ≡ v
  node_value-placed_node k Value.null = refl
  node_value-placed_node k (Value.boolean b) = refl
  node_value-placed_node k (Value.number s) = refl
  node_value-placed_node k (Value.text s) = refl
  node_value-placed_node k (Value.list vs) = ap Value.list (tree_values-placed_values (suc k) vs)
  node_value-placed_node k (Value.object fs) = ap Value.object (member_fields-placed_fields (suc k) fs)

  tree_values-placed_values : (k : ℕ) (vs : Values) → tree_values (placed_values k vs) ≡ vs
  tree_values-placed_values k no_values = refl
  tree_values-placed_values k (and_value v vs) =
      let next = suc (k + length (spell v)) in
      ap (λ w. and_value w (tree_values (placed_values next vs))) (node_value-placed_node k v)
      ∙ ap (and_value v) (tree_values-placed_values next vs)

  member_fields-placed_fields : (k : ℕ) (fs : Fields) → member_fields (placed_fields k fs) ≡ fs
  member_fields-placed_fields k no_fields = refl
  member_fields-placed_fields k (and_field key v fs) =
      let at = suc (k + length (quoted key)) in let next = suc (at + length (spell v)) in
      ap (λ w. and_field key w (member_fields (placed_fields next fs))) (node_value-placed_node at v)
      ∙ ap (and_field key v) (member_fields-placed_fields next fs)

pub value_of-placed_at : (k : ℕ) (v : Value) → value_of (placed_at k v) ≡ v
value_of-placed_at k v = node_value-placed_node k v
