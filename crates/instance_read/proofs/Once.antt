-- In an object without a fault each key stands once: what the values under a key make
-- one after another is what the first makes.
use Rattle.std.proofs.Common.{◌≡◌, ℕ, ◌&&◌, ◌||◌, Bool, true, false, not, cond, List, [], ◌∷◌, ◌++◌, length, Option}
use Rattle.std.proofs.Common.{Some, None, refl, sym, ◌∙◌, ap, bytes_eq}
use Rattle.std.proofs.lemmas.Slice.Eq.{bytes_eq-Decides}
use Rattle.json_grammar.specs.Tree.{Tree, tree, Node, Members, no_members, and_member}
use Rattle.instance_model.specs.declared.limits.Limits.{Limits}
use Rattle.instance_shape.specs.declared.fault.Flaw.TheVariants as flaw
use Rattle.instance_shape.specs.declared.spot.Spot.{Spot}
use Rattle.instance_shape.specs.Keys.{Key, by_text, key_of, same_key, has_key, is_double, is_name, is_digits}
use Rattle.instance_shape.specs.Shape.{kind_of}
use Rattle.instance_shape.specs.ShapeFaults.{where_so, keys_faults, key_faults, key_limit, first_past, takes_names}
use Rattle.instance_shape.specs.ShapeFaults.{takes_numbers}
use Rattle.instance_shape.specs.LookUp.{Entry, entry_list, entries, first_value, at_key}
use Rattle.instance_shape.proofs.Clear.{IsClear, clear_left, clear_right, not_so, inside_clear}

-- ---- keys

-- a key without a fault is none of those before it
pub new_key : (limits : Limits) (s : Spot) (earlier : List Key) (at : ℕ) (k : List ℕ)
    → key_of (kind_of s) k ≡ by_text k ∷ [] → key_faults limits s earlier at k ≡ []
    → has_key earlier (by_text k) ≡ false
new_key limits s earlier at k texts h =
    let double = where_so (is_double earlier (key_of (kind_of s) k)) at flaw.Double in
    let name = where_so (takes_names (kind_of s) && not (is_name k)) at flaw.BadName in
    let shape = where_so (takes_numbers (kind_of s) && not (is_digits k)) at flaw.Shape in
    let none = clear_left double name
    (clear_left (double ++ name) shape
    (clear_left (double ++ name ++ shape) (first_past (key_limit limits s) (length earlier) at) h)) in
    ap (is_double earlier) (sym texts) ∙ not_so (is_double earlier (key_of (kind_of s) k)) at flaw.Double none

has_before : (earlier more : List Key) (k : Key) → has_key earlier k ≡ true → has_key (earlier ++ more) k ≡ true
has_before [] more k h = cc
has_before (j ∷ js) more k h = by (same_key k j) h (has_before js more k)
  where
    by : (b : Bool) → b || has_key js k ≡ true → (has_key js k ≡ true → has_key (js ++ more) k ≡ true)
        → b || has_key (js ++ more) k ≡ true
    by true h r = refl
    by false h r = r h

has_last : (earlier : List Key) (k : List ℕ) → has_key (earlier ++ by_text k ∷ []) (by_text k) ≡ true
has_last [] k = ap (λ b. b || false) ((bytes_eq-Decides k k).1 refl)
has_last (j ∷ js) k = by (same_key (by_text k) j) (has_last js k)
  where
    by : (b : Bool) → has_key (js ++ by_text k ∷ []) (by_text k) ≡ true
        → b || has_key (js ++ by_text k ∷ []) (by_text k) ≡ true
    by true h = refl
    by false h = h

-- ---- values

-- what the values under a key make, one after another
abbrev pub through : {A : Type 0} → List ℕ → (Tree → A → A) → List Entry → A → A
through key f [] a = a
through key f (e ∷ es) a = through key f es (cond (bytes_eq key e.key) (f e.value a) a)

-- what a value makes, if there is one
abbrev pub with_value : {A : Type 0} → (Tree → A → A) → Option Tree → A → A
with_value f None a = a
with_value f (Some t) a = f t a

module _ {A : Type 0} (limits : Limits) (s : Spot) (texts : (k : List ℕ) → key_of (kind_of s) k ≡ by_text k ∷ [])
    (key : List ℕ) (f : Tree → A → A) where
  none_again : (earlier : List Key) (ms : Members) (a : A) → keys_faults limits s earlier ms ≡ []
      → has_key earlier (by_text key) ≡ true → through key f (entry_list ms) a ≡ a
  none_again earlier no_members a h there = refl
  none_again earlier (and_member at end k t ms) a h there =
      let new : has_key earlier (by_text k) ≡ false =
      new_key limits s earlier at k (texts k) (clear_left (key_faults limits s earlier at k) _ h) in
      let rest : through key f (entry_list ms) a ≡ a =
      none_again (earlier ++ key_of (kind_of s) k) ms a (clear_right (key_faults limits s earlier at k) _ h)
      (has_before earlier (key_of (kind_of s) k) (by_text key) there) in
      by (bytes_eq key k) refl new rest
    where
      by : (b : Bool) → bytes_eq key k ≡ b → has_key earlier (by_text k) ≡ false → through key f (entry_list ms) a ≡ a
          → through key f (entry_list ms) (cond b (f t a) a) ≡ a
      by true e new rest =
          let same : has_key earlier (by_text key) ≡ has_key earlier (by_text k) =
          ap (λ x. has_key earlier (by_text x)) ((bytes_eq-Decides key k).0 e) in
          cc
      by false e new rest = rest

  pub through_once : (earlier : List Key) (ms : Members) (a : A) → keys_faults limits s earlier ms ≡ []
      → through key f (entry_list ms) a ≡ with_value f (first_value (bytes_eq key) (entry_list ms)) a
  through_once earlier no_members a h = refl
  through_once earlier (and_member at end k t ms) a h =
      let later : keys_faults limits s (earlier ++ key_of (kind_of s) k) ms ≡ [] =
      clear_right (key_faults limits s earlier at k) _ h in
      by (bytes_eq key k) refl later (through_once (earlier ++ key_of (kind_of s) k) ms a later)
    where
      by : (b : Bool) → bytes_eq key k ≡ b → keys_faults limits s (earlier ++ key_of (kind_of s) k) ms ≡ []
          → through key f (entry_list ms) a ≡ with_value f (first_value (bytes_eq key) (entry_list ms)) a
          → through key f (entry_list ms) (cond b (f t a) a)
          ≡ with_value f (cond b (Some t) (first_value (bytes_eq key) (entry_list ms))) a
      by true e later rest =
          none_again (earlier ++ key_of (kind_of s) k) ms (f t a) later
          (ap (λ ks. has_key (earlier ++ ks) (by_text key)) (texts k)
          ∙ ap (λ x. has_key (earlier ++ by_text x ∷ []) (by_text key)) (sym ((bytes_eq-Decides key k).0 e))
          ∙ has_last earlier key)
      by false e later rest = rest

-- of a value without a fault that is an object with keys that count by their texts
pub entries_once : {A : Type 0} (limits : Limits) (s : Spot) (texts : (k : List ℕ)
    → key_of (kind_of s) k ≡ by_text k ∷ []) (key : List ℕ) (f : Tree → A → A) (t : Tree) (a : A) → IsClear limits s t
    → through key f (entries t) a ≡ with_value f (at_key key t) a
entries_once limits s texts key f (tree at end (Node.object ms)) a h = through_once limits s texts key f [] ms a
    (clear_left (keys_faults limits s [] ms) _ (inside_clear limits s at end (Node.object ms) h))
entries_once limits s texts key f (tree at end _) a h = refl
