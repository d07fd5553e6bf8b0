-- The text of a value is read as the value's tree.
use Rattle.std.proofs.Common.{◌≡◌, ℕ, suc, ◌+◌, List, [], ◌∷◌, ◌++◌, length, true, false, sym, ◌∙◌, ap, subst}
use Rattle.std.proofs.Common.{add-zero, append-nil, append_assoc, length-append, arith}
use Rattle.json_grammar.specs.Tree.{Tree, tree, Node}
use Rattle.json_grammar.specs.Grammar.{AreBlanks, IsString, IsValue, value, IsNode, IsElement, element, IsMoreTrees}
use Rattle.json_grammar.specs.Grammar.{no_more, more, IsMember, member, IsMoreMembers, no_more_members, more_members}
use Rattle.json_grammar.specs.Grammar.{IsText}
use Rattle.json_grammar.specs.laws.Value.{Value, Values, no_values, and_value, Fields, no_fields, and_field}
use Rattle.json_grammar.specs.laws.Spelling.{quoted, spell, spell_more_values, spell_more_fields}
use Rattle.json_grammar.specs.laws.Spellable.{IsSpellableText, IsSound, AreSound, AreSoundFields}
use Rattle.json_grammar.specs.laws.Placed.{placed_node, placed_at, placed_values, placed_fields}
use Rattle.json_grammar.proofs.LawsSpelledCharacters.{quoted_is_read}

-- a value with no blanks round it
as_element : (k : ℕ) (v : List ℕ) (n : Node) → IsNode k v n → IsElement k v (tree k (k + length v) n)
as_element k v n h =
    let t = tree k (k + length v) n in
    subst (λ x. IsElement k x t) (append-nil v)
    (element {before = []} AreBlanks.none (subst (λ j. IsValue j v t) (sym (add-zero k)) (value h)) AreBlanks.none)

-- a key and a value with no blanks round them
as_member : (k : ℕ) (s e text : List ℕ) (t : Tree) → IsString s text → IsElement (suc (k + length s)) e t
    → IsMember k (s ++ 58 ∷ e) k (k + length s) text t
as_member k s e text t h g =
    let zero_is : k + 0 ≡ k = add-zero k in
    let place : suc (k + 0 + length s + 0) ≡ suc (k + length s) = omega arith in
    subst (λ j. IsMember k (s ++ 58 ∷ e) j (j + length s) text t) zero_is
    (member {before = []} {between = []} AreBlanks.none h AreBlanks.none (subst (λ j. IsElement j e t) (sym place) g))

-- where what stands behind a member begins
behind_member : (k : ℕ) (s e : List ℕ) → suc (suc (k + length s) + length e) ≡ suc (k + length (s ++ 58 ∷ e))
behind_member k s e = omega (arith, length-append s (58 ∷ e))

member_joins : (s e m : List ℕ) → (s ++ 58 ∷ e) ++ m ≡ s ++ 58 ∷ (e ++ m)
member_joins s e m = append_assoc s (58 ∷ e) m

member_closes : (s e m : List ℕ) → (s ++ 58 ∷ e) ++ (m ++ 125 ∷ []) ≡ (s ++ 58 ∷ (e ++ m)) ++ 125 ∷ []
member_closes s e m = sym (append_assoc (s ++ 58 ∷ e) m (125 ∷ [])) ∙ ap (λ z. z ++ 125 ∷ []) (member_joins s e m)

-- a field's text, without what follows
abbrev member_text : List ℕ → Value → List ℕ
member_text key v = quoted key ++ 58 ∷ spell v

field_is_read : (k : ℕ) (key : List ℕ) (v : Value) → IsSpellableText key
    → IsNode (suc (k + length (quoted key))) (spell v) (placed_node (suc (k + length (quoted key))) v)
    → IsMember k (member_text key v) k (k + length (quoted key)) key (placed_at (suc (k + length (quoted key))) v)
field_is_read k key v h g = let at = suc (k + length (quoted key)) in
    as_member k (quoted key) (spell v) key (placed_at at v) (quoted_is_read key h)
    (as_element at (spell v) (placed_node at v) g)

rest_is_read : (k : ℕ) (key : List ℕ) (v : Value) (fs : Fields) → IsMoreMembers (k + length (member_text key v))
    (spell_more_fields fs) (placed_fields (suc (k + length (member_text key v))) fs)
    → IsMoreMembers (k + length (member_text key v)) (spell_more_fields fs)
    (placed_fields (suc (suc (k + length (quoted key)) + length (spell v))) fs)
rest_is_read k key v fs h = let behind = k + length (member_text key v) in
    subst (λ j. IsMoreMembers behind (spell_more_fields fs) (placed_fields j fs))
    (sym (behind_member k (quoted key) (spell v))) h

mutual
  unfolding spell

  pub node_is_read : (k : ℕ) (v : Value) → IsSound v → IsNode k (spell v) (placed_node k v)
  node_is_read k Value.null h = IsNode.null
  node_is_read k (Value.boolean true) h = IsNode.yes
  node_is_read k (Value.boolean false) h = IsNode.no
  node_is_read k (Value.number s) h = IsNode.number h
  node_is_read k (Value.text s) h = IsNode.text (quoted_is_read s h)
  node_is_read k (Value.list no_values) h = IsNode.empty_list AreBlanks.none
  node_is_read k (Value.list (and_value v vs)) h =
      subst (λ x. IsNode k (91 ∷ x) (placed_node k (Value.list (and_value v vs))))
      (sym (append_assoc (spell v) (spell_more_values vs) (93 ∷ [])))
      (IsNode.list (as_element (suc k) (spell v) (placed_node (suc k) v) (node_is_read (suc k) v h.0))
      (values_are_read (suc k + length (spell v)) vs h.1))
  node_is_read k (Value.object no_fields) h = IsNode.empty_object AreBlanks.none
  node_is_read k (Value.object (and_field key v fs)) h =
      let at = suc (suc k + length (quoted key)) in let behind = suc k + length (member_text key v) in
      subst (λ x. IsNode k (123 ∷ x) (placed_node k (Value.object (and_field key v fs))))
      (member_closes (quoted key) (spell v) (spell_more_fields fs))
      (IsNode.object (field_is_read (suc k) key v h.0 (node_is_read at v h.1))
      (rest_is_read (suc k) key v fs (fields_are_read behind fs h.2)))

  values_are_read : (k : ℕ) (vs : Values) → AreSound vs
      → IsMoreTrees k (spell_more_values vs) (placed_values (suc k) vs)
  values_are_read k no_values h = no_more
  values_are_read k (and_value v vs) h =
      more (as_element (suc k) (spell v) (placed_node (suc k) v) (node_is_read (suc k) v h.0))
      (values_are_read (suc k + length (spell v)) vs h.1)

  fields_are_read : (k : ℕ) (fs : Fields) → AreSoundFields fs
      → IsMoreMembers k (spell_more_fields fs) (placed_fields (suc k) fs)
  fields_are_read k no_fields h = no_more_members
  fields_are_read k (and_field key v fs) h =
      let at = suc (suc k + length (quoted key)) in let behind = suc k + length (member_text key v) in
      subst (λ x. IsMoreMembers k (44 ∷ x) (placed_fields (suc k) (and_field key v fs)))
      (member_joins (quoted key) (spell v) (spell_more_fields fs))
      (more_members (field_is_read (suc k) key v h.0 (node_is_read at v h.1))
      (rest_is_read (suc k) key v fs (fields_are_read behind fs h.2)))

-- the whole text is read as the tree
pub text_is_read : (v : Value) → IsSound v → IsText (spell v) (placed_at 0 v)
text_is_read v h = as_element 0 (spell v) (placed_node 0 v) (node_is_read 0 v h)
