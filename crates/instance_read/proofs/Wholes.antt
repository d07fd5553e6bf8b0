-- What is kept of a list or an object without a fault: something of each element or entry, one after another, and
-- what its closing bracket or brace makes of it.
use Rattle.std.proofs.Common.{◌≡◌, ℕ, ◌+◌, ◌&&◌, Bool, true, false, not, List, [], ◌∷◌, ◌++◌, length, map, refl, sym}
use Rattle.std.proofs.Common.{◌∙◌, ap, pred, append_assoc, append-nil}
use Rattle.std.specs.Prelude.{flat_map}
use Rattle.json_grammar.specs.Tree.{Tree, tree, Node, Trees, no_trees, and_tree, Members, no_members, and_member, Event}
use Rattle.json_grammar.specs.Tree.{begin, finish, key}
use Rattle.instance_model.specs.declared.limits.Limits.{Limits}
use Rattle.instance_shape.specs.declared.fault.Flaw.TheVariants as flaw
use Rattle.instance_shape.specs.declared.spot.Spot.{Spot}
use Rattle.instance_shape.specs.declared.spot.Kind.{Kind}
use Rattle.instance_shape.specs.Keys.{Key, key_of, is_double, is_name, is_digits}
use Rattle.instance_shape.specs.Shape.{kind_of, has_shape, is_list, is_object, under, element, placed, placed_elements}
use Rattle.instance_shape.specs.Shape.{placed_members}
use Rattle.instance_shape.specs.ShapeFaults.{values_faults, where_so, key_faults, keys_faults, key_limit, first_past}
use Rattle.instance_shape.specs.ShapeFaults.{takes_names, takes_numbers}
use Rattle.instance_shape.specs.LookUp.{Entry, elements, tree_list, entries, entry_list}
use Rattle.instance_shape.proofs.Clear.{IsClear, clear_left, clear_right, clear_front, clear_rest, inside_clear}
use Rattle.instance_shape.proofs.Clear.{node_clear, not_so}
use Rattle.shape_walk.specs.Kept.{keep_value, keep_elements, keep_members}
use Rattle.instance_read.proofs.Reading.{shaped}

-- ---- elements

-- something of each value, one after another
abbrev pub each : {A : Type 0} → (Tree → A → A) → List Tree → A → A
each f [] a = a
each f (t ∷ ts) a = each f ts (f t a)

-- what is kept stands for something simpler, to which each value adds
module _ {X A : Type 0} (limits : Limits) (keep : Spot → Event → A → A) (s : Spot) (st : X → A) (make : Tree → X → X)
    (one : (m : ℕ) (t : Tree) (x : X) → IsClear limits (element s m) t
    → keep_value keep (element s m) t (st x) ≡ st (make t x)) where
  elements_kept : (n : ℕ) (ts : Trees) (x : X) → values_faults limits (placed_elements s n ts) ≡ []
      → keep_elements keep s n ts (st x) ≡ st (each make (tree_list ts) x)
  elements_kept n no_trees x h = refl
  elements_kept n (and_tree t ts) x h =
      ap (keep_elements keep s (n + 1) ts)
      (one n t x (clear_front limits (placed (element s n) t) (placed_elements s (n + 1) ts) h))
      ∙ elements_kept (n + 1) ts (make t x)
      (clear_rest limits (placed (element s n) t) (placed_elements s (n + 1) ts) h)

  -- of a list
  pub list_kept : (shut : X → A) → ((n : Node) → has_shape (kind_of s) n ≡ is_list n)
      → ((at : ℕ) (x : X) → keep s (begin at false) (st x) ≡ st x)
      → ((at : ℕ) (x : X) → keep s (finish at) (st x) ≡ shut x)
      → (t : Tree) (x : X) → IsClear limits s t → keep_value keep s t (st x) ≡ shut (each make (elements t) x)
  list_kept shut lists opens closes (tree at end n) x h =
      by n (sym (lists n) ∙ shaped limits s (kind_of s) at end n refl h) h
    where
      by : (n : Node) → is_list n ≡ true → IsClear limits s (tree at end n)
          → keep_value keep s (tree at end n) (st x) ≡ shut (each make (elements (tree at end n)) x)
      by (Node.list ts) i h =
          ap (λ a. keep s (finish (pred end)) (keep_elements keep s 0 ts a)) (opens at x)
          ∙ ap (keep s (finish (pred end))) (elements_kept 0 ts x (node_clear limits s at end (Node.list ts) h))
          ∙ closes (pred end) (each make (tree_list ts) x)
      by Node.null i h = cc
      by (Node.boolean b) i h = cc
      by (Node.number x) i h = cc
      by (Node.text x) i h = cc
      by (Node.object ms) i h = cc

-- ---- entries

-- something of each entry, one after another
abbrev pub each_entry : {A : Type 0} → (List ℕ → Tree → A → A) → List Entry → A → A
each_entry f [] a = a
each_entry f (e ∷ es) a = each_entry f es (f e.key e.value a)

-- a key of an object of periods or starts is one
abbrev pub IsKeyOf : Kind → List ℕ → Type 0
IsKeyOf kd k = takes_numbers kd ≡ true → is_digits k ≡ true

is_key : (limits : Limits) (s : Spot) (earlier : List Key) (at : ℕ) (k : List ℕ) → key_faults limits s earlier at k ≡ []
    → IsKeyOf (kind_of s) k
is_key limits s earlier at k h takes =
    let double = where_so (is_double earlier (key_of (kind_of s) k)) at flaw.Double in
    let name = where_so (takes_names (kind_of s) && not (is_name k)) at flaw.BadName in
    let shape = where_so (takes_numbers (kind_of s) && not (is_digits k)) at flaw.Shape in
    let none = clear_right (double ++ name) shape
    (clear_left (double ++ name ++ shape) (first_past (key_limit limits s) (length earlier) at) h) in
    by (is_digits k)
    (ap (λ b. b && not (is_digits k)) (sym takes)
    ∙ not_so (takes_numbers (kind_of s) && not (is_digits k)) at flaw.Shape none)
  where
    by : (b : Bool) → not b ≡ false → b ≡ true
    by true e = refl
    by false e = cc

module _ {X A : Type 0} (limits : Limits) (keep : Spot → Event → A → A) (s : Spot) (st : X → A)
    (make : List ℕ → Tree → X → X)
    (one : (at end : ℕ) (k : List ℕ) (t : Tree) (x : X) → IsKeyOf (kind_of s) k → IsClear limits (under s k) t
    → keep_value keep (under s k) t (keep s (key at end k) (st x)) ≡ st (make k t x)) where
  members_kept : (earlier : List Key) (ms : Members) (x : X) → keys_faults limits s earlier ms ≡ []
      → values_faults limits (placed_members s ms) ≡ []
      → keep_members keep s ms (st x) ≡ st (each_entry make (entry_list ms) x)
  members_kept earlier no_members x g h = refl
  members_kept earlier (and_member at end k t ms) x g h =
      ap (keep_members keep s ms)
      (one at end k t x (is_key limits s earlier at k (clear_left (key_faults limits s earlier at k) _ g))
      (clear_front limits (placed (under s k) t) (placed_members s ms) h))
      ∙ members_kept (earlier ++ key_of (kind_of s) k) ms (make k t x)
      (clear_right (key_faults limits s earlier at k) _ g)
      (clear_rest limits (placed (under s k) t) (placed_members s ms) h)

  -- of an object
  pub object_kept : (shut : X → A) → ((n : Node) → has_shape (kind_of s) n ≡ is_object n)
      → ((at : ℕ) (x : X) → keep s (begin at true) (st x) ≡ st x)
      → ((at : ℕ) (x : X) → keep s (finish at) (st x) ≡ shut x)
      → (t : Tree) (x : X) → IsClear limits s t → keep_value keep s t (st x) ≡ shut (each_entry make (entries t) x)
  object_kept shut objects opens closes (tree at end n) x h =
      by n (sym (objects n) ∙ shaped limits s (kind_of s) at end n refl h) h
    where
      by : (n : Node) → is_object n ≡ true → IsClear limits s (tree at end n)
          → keep_value keep s (tree at end n) (st x) ≡ shut (each_entry make (entries (tree at end n)) x)
      by (Node.object ms) i h =
          ap (λ a. keep s (finish (pred end)) (keep_members keep s ms a)) (opens at x)
          ∙ ap (keep s (finish (pred end)))
          (members_kept [] ms x
          (clear_left (keys_faults limits s [] ms) _ (inside_clear limits s at end (Node.object ms) h))
          (node_clear limits s at end (Node.object ms) h))
          ∙ closes (pred end) (each_entry make (entry_list ms) x)
      by Node.null i h = cc
      by (Node.boolean b) i h = cc
      by (Node.number x) i h = cc
      by (Node.text x) i h = cc
      by (Node.list ts) i h = cc

-- ---- one behind another

pub each_added : {B : Type 0} (f : Tree → B) (ts : List Tree) (bs : List B)
    → each (λ t bs. bs ++ f t ∷ []) ts bs ≡ bs ++ map f ts
each_added f [] bs = sym (append-nil bs)
each_added f (t ∷ ts) bs = each_added f ts (bs ++ f t ∷ []) ∙ append_assoc bs (f t ∷ []) (map f ts)

pub each_entry_added : {B : Type 0} (f : Entry → B) (es : List Entry) (bs : List B)
    → each_entry (λ k t bs. bs ++ f (record { key = k; value = t }) ∷ []) es bs ≡ bs ++ map f es
each_entry_added f [] bs = sym (append-nil bs)
each_entry_added f (e ∷ es) bs = each_entry_added f es (bs ++ f e ∷ []) ∙ append_assoc bs (f e ∷ []) (map f es)

pub each_entry_joined : {B : Type 0} (f : Entry → List B) (es : List Entry) (bs : List B)
    → each_entry (λ k t bs. bs ++ f (record { key = k; value = t })) es bs ≡ bs ++ flat_map f es
each_entry_joined f [] bs = sym (append-nil bs)
each_entry_joined f (e ∷ es) bs = each_entry_joined f es (bs ++ f e) ∙ append_assoc bs (f e) (flat_map f es)
