-- What stands in a value without a fault of shape: each entry and each element has none, and a required key is there.
use Rattle.std.proofs.Common.{◌≡◌, ℕ, ◌+◌, ◌<◌, Bool, true, false, cond, List, [], ◌∷◌, length, Option, Some, None}
use Rattle.std.proofs.Common.{refl, sym, ap, subst, bytes_eq, pred, unwrap_or}
use Rattle.std.specs.Prelude.{All, ◌||◌, ◌&&◌, ◌==◌, slice_index_or}
use Rattle.std.proofs.lemmas.List.Elements.{All-nil, All-cons, All-head, All-tail}
use Rattle.std.proofs.lemmas.Slice.Eq.{bytes_eq-Decides}
use Rattle.json_grammar.specs.Tree.{Tree, tree, Node, Trees, no_trees, and_tree, Members, no_members, and_member}
use Rattle.instance_model.specs.declared.limits.Limits.{Limits}
use Rattle.instance_shape.specs.declared.fault.Known.{Known}
use Rattle.instance_shape.specs.declared.spot.Spot.{Spot}
use Rattle.instance_shape.specs.declared.spot.Spot.TheVariants as spot
use Rattle.instance_shape.specs.declared.spot.Kind.TheVariants as kind
use Rattle.instance_shape.specs.Keys.{Key, by_text, has_key, is_digits, number_of, text_of}
use Rattle.instance_shape.specs.Shape.{placed, placed_elements, placed_members, element, under, required}
use Rattle.instance_shape.specs.ShapeFaults.{values_faults, keys_faults, keys_of, first_missing, missing_at}
use Rattle.instance_shape.specs.LookUp.{Entry, elements, tree_list, entries, entry_list, first_value, at_key, at_number}
use Rattle.instance_shape.specs.LookUp.{known}
use Rattle.instance_shape.proofs.Clear.{IsClear, clear_front, clear_rest, clear_right, inside_clear, node_clear}

-- ---- elements and entries

trees_clear : (limits : Limits) (s : Spot) (n : ℕ) (ts : Trees) (P : Tree → Type 0)
    → values_faults limits (placed_elements s n ts) ≡ []
    → ((m : ℕ) (v : Tree) → IsClear limits (element s m) v → P v) → All P (tree_list ts)
trees_clear limits s n no_trees P h f = All-nil P
trees_clear limits s n (and_tree t ts) P h f =
    All-cons P t (tree_list ts) (f n t (clear_front limits (placed (element s n) t) (placed_elements s (n + 1) ts) h))
    (trees_clear limits s (n + 1) ts P (clear_rest limits (placed (element s n) t) (placed_elements s (n + 1) ts) h) f)

-- what holds of each value without a fault at the spots of elements holds of the elements
pub elements_clear : (limits : Limits) (s : Spot) (t : Tree) (P : Tree → Type 0) → IsClear limits s t
    → ((m : ℕ) (v : Tree) → IsClear limits (element s m) v → P v) → All P (elements t)
elements_clear limits s (tree at end (Node.list ts)) P h f =
    trees_clear limits s 0 ts P (node_clear limits s at end (Node.list ts) h) f
elements_clear limits s (tree at end _) P h f = All-nil P

members_clear : (limits : Limits) (s : Spot) (ms : Members) (P : Entry → Type 0)
    → values_faults limits (placed_members s ms) ≡ []
    → ((key : List ℕ) (v : Tree) → IsClear limits (under s key) v → P (record { key = key; value = v }))
    → All P (entry_list ms)
members_clear limits s no_members P h f = All-nil P
members_clear limits s (and_member at end key t ms) P h f =
    All-cons P (record { key = key; value = t }) (entry_list ms)
    (f key t (clear_front limits (placed (under s key) t) (placed_members s ms) h))
    (members_clear limits s ms P (clear_rest limits (placed (under s key) t) (placed_members s ms) h) f)

-- what holds of each value without a fault at the spots of entries holds of the entries
pub entries_clear : (limits : Limits) (s : Spot) (t : Tree) (P : Entry → Type 0) → IsClear limits s t
    → ((key : List ℕ) (v : Tree) → IsClear limits (under s key) v → P (record { key = key; value = v }))
    → All P (entries t)
entries_clear limits s (tree at end (Node.object ms)) P h f =
    members_clear limits s ms P (node_clear limits s at end (Node.object ms) h) f
entries_clear limits s (tree at end _) P h f = All-nil P

-- ---- the value under a key

-- a value that is found stands under a key that passes
record IsFound (P : Entry → Type 0) (p : List ℕ → Bool) (v : Tree) : Type 0 where
  key : List ℕ
  passes : p key ≡ true
  holds : P (record { key = key; value = v })

first_found : (P : Entry → Type 0) (p : List ℕ → Bool) (es : List Entry) (v : Tree) → All P es
    → first_value p es ≡ Some v → IsFound P p v
first_found P p [] v a e = cc
first_found P p (x ∷ es) v a e = by (p x.key) refl e (first_found P p es v (All-tail P x es a))
  where
    by : (b : Bool) → p x.key ≡ b → cond b (Some x.value) (first_value p es) ≡ Some v
        → (first_value p es ≡ Some v → IsFound P p v) → IsFound P p v
    by true q e r =
        let same : x.value ≡ v = cc in
        record {
          key = x.key;
          passes = q;
          holds = subst (λ (t : Tree). P (record { key = x.key; value = t })) same (All-head P x es a);
        }
    by false q e r = r e

pub at_key_clear : (limits : Limits) (s : Spot) (key : List ℕ) (t v : Tree) → IsClear limits s t → at_key key t ≡ Some v
    → IsClear limits (under s key) v
at_key_clear limits s key t v h e =
    let found : IsFound (λ x. IsClear limits (under s x.key) x.value) (bytes_eq key) v =
    first_found (λ x. IsClear limits (under s x.key) x.value) (bytes_eq key) (entries t) v
    (entries_clear limits s t (λ x. IsClear limits (under s x.key) x.value) h (λ k x c. c)) e in
    subst (λ (k : List ℕ). IsClear limits (under s k) v)
    (sym ((bytes_eq-Decides key found.key).0 found.passes)) found.holds

-- the value under a period or start, where all keys of the object have one spot
pub at_number_clear : (limits : Limits) (s q : Spot) (n : ℕ) (t v : Tree) → ((key : List ℕ) → under s key ≡ q)
    → IsClear limits s t → at_number n t ≡ Some v → IsClear limits q v
at_number_clear limits s q n t v u h e =
    let found : IsFound (λ x. IsClear limits (under s x.key) x.value) (λ key. is_digits key && (number_of key == n)) v =
    first_found (λ x. IsClear limits (under s x.key) x.value) (λ key. is_digits key && (number_of key == n)) (entries t)
    v (entries_clear limits s t (λ x. IsClear limits (under s x.key) x.value) h (λ k x c. c)) e in
    subst (λ (r : Spot). IsClear limits r v) (u found.key) found.holds

-- what holds of null and of each value without a fault at a spot holds of the value under a required key
pub known_clear : (limits : Limits) (s : Spot) (k : Known) (t : Tree) (P : Tree → Type 0) → IsClear limits s t
    → P (tree 0 0 Node.null) → ((v : Tree) → IsClear limits (under s (text_of k)) v → P v) → P (known k t)
known_clear limits s k t P h n f = by (at_key (text_of k) t) refl
  where
    by : (o : Option Tree) → at_key (text_of k) t ≡ o → P (unwrap_or o (tree 0 0 Node.null))
    by None e = n
    by (Some v) e = f v (at_key_clear limits s (text_of k) t v h e)

-- ---- required keys

missing_none : (at : ℕ) (o : Option Known) → missing_at at o ≡ [] → o ≡ None
missing_none at None h = refl
missing_none at (Some k) h = cc

each_there : (rs : List (Known × Spot)) (ks : List Key) → first_missing rs ks ≡ None
    → All (λ r. has_key ks (by_text (text_of r.0)) ≡ true) rs
each_there [] ks h = All-nil (λ r. has_key ks (by_text (text_of r.0)) ≡ true)
each_there (r ∷ rs) ks h = by (has_key ks (by_text (text_of r.0))) refl h (each_there rs ks)
  where
    by : (b : Bool) → has_key ks (by_text (text_of r.0)) ≡ b → cond b (first_missing rs ks) (Some r.0) ≡ None
        → (first_missing rs ks ≡ None → All (λ r. has_key ks (by_text (text_of r.0)) ≡ true) rs)
        → All (λ r. has_key ks (by_text (text_of r.0)) ≡ true) (r ∷ rs)
    by true e h f = All-cons (λ r. has_key ks (by_text (text_of r.0)) ≡ true) r rs e (f h)
    by false e h f = cc

-- the value under a key that an object has
pub record HasValue (key : List ℕ) (t : Tree) : Type 0 where
  pub value : Tree
  pub found : at_key key t ≡ Some value

value_in : (key : List ℕ) (ms : Members) → has_key (keys_of kind.Record ms) (by_text key) ≡ true
    → (x : Tree) × (first_value (bytes_eq key) (entry_list ms) ≡ Some x)
value_in key no_members h = cc
value_in key (and_member at end k t ms) h = by (bytes_eq key k) h (value_in key ms)
  where
    by : (b : Bool) → b || has_key (keys_of kind.Record ms) (by_text key) ≡ true
        → (has_key (keys_of kind.Record ms) (by_text key) ≡ true
        → (x : Tree) × (first_value (bytes_eq key) (entry_list ms) ≡ Some x))
        → (x : Tree) × (cond b (Some t) (first_value (bytes_eq key) (entry_list ms)) ≡ Some x)
    by true h r = (t, refl)
    by false h r = r h

-- the root has a value under each of its required keys
pub root_has : (limits : Limits) (root : Tree) → IsClear limits spot.Root root
    → All (λ r. HasValue (text_of r.0) root) (required spot.Root)
root_has limits (tree at end (Node.object ms)) h =
    let missing = missing_none (pred end) (first_missing (required spot.Root) (keys_of kind.Record ms))
    (clear_right (keys_faults limits spot.Root [] ms) _ (inside_clear limits spot.Root at end (Node.object ms) h)) in
    λ i d l.
    let found = value_in (text_of (slice_index_or (required spot.Root) i d).0) ms
    (each_there (required spot.Root) (keys_of kind.Record ms) missing i d l) in
    record { value = found.0; found = found.1 }
root_has limits (tree at end _) h = cc

-- what holds of each value without a fault at the spot of a required key of the root holds of the value under it
pub root_known : (limits : Limits) (root : Tree) (i : ℕ) (k : Known) (s : Spot) (P : Tree → Type 0)
    → IsClear limits spot.Root root → i < length (required spot.Root)
    → slice_index_or (required spot.Root) i (k, s) ≡ (k, s) → under spot.Root (text_of k) ≡ s
    → ((v : Tree) → IsClear limits s v → P v) → P (known k root)
root_known limits root i k s P h l e u f =
    let has : HasValue (text_of k) root =
    subst (λ (r : Known × Spot). HasValue (text_of r.0) root) e (root_has limits root h i (k, s) l) in
    let clear : IsClear limits s has.value = subst (λ (q : Spot). IsClear limits q has.value) u
    (at_key_clear limits spot.Root (text_of k) root has.value h has.found) in
    subst P (sym (ap (λ o. unwrap_or o (tree 0 0 Node.null)) has.found)) (f has.value clear)
