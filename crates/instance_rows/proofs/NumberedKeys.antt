-- The keys of a text without a fault of shape: of periods and starts each number comes once.
use Rattle.std.proofs.Common.{◌≡◌, ℕ, ◌==◌, ◌&&◌, ◌||◌, Bool, true, false, cond, not, List, [], ◌∷◌, ◌++◌, Some, refl}
use Rattle.std.proofs.Common.{sym, ◌∙◌, ap, subst, arith, nat_eq}
use Rattle.std.proofs.lemmas.Bool.{not-false}
use Rattle.std.proofs.lemmas.Bool.Decides.{nat_tests}
use Rattle.json_grammar.specs.Tree.{Tree, tree, Node, Members, no_members, and_member}
use Rattle.instance_model.specs.declared.limits.Limits.{Limits}
use Rattle.instance_shape.specs.declared.fault.Flaw.TheVariants as flaw
use Rattle.instance_shape.specs.declared.spot.Spot.{Spot}
use Rattle.instance_shape.specs.declared.spot.Kind.TheVariants as kind
use Rattle.instance_shape.specs.Keys.{Key, by_text, by_number, number_of, is_digits, is_name, same_key, has_key, key_of}
use Rattle.instance_shape.specs.Keys.{is_double}
use Rattle.instance_shape.specs.Shape.{placed, placed_members, kind_of, under}
use Rattle.instance_shape.specs.ShapeFaults.{where_so, values_faults, key_faults, keys_faults, first_past, key_limit}
use Rattle.instance_shape.specs.ShapeFaults.{takes_names, takes_numbers}
use Rattle.instance_shape.specs.LookUp.{Entry, entries, entry_list, first_value}
use Rattle.instance_shape.proofs.Clear.{IsClear, clear_left, clear_right, clear_front, clear_rest, not_so, inside_clear}
use Rattle.instance_shape.proofs.Clear.{node_clear}

-- the values under some keys have no fault of shape
abbrev pub AreClear : Limits → Spot → List Entry → Type 0
AreClear limits s [] = Unit {0}
AreClear limits s (e ∷ es) = IsClear limits (under s e.key) e.value × AreClear limits s es

members_clear : (limits : Limits) (s : Spot) (ms : Members) → values_faults limits (placed_members s ms) ≡ []
    → AreClear limits s (entry_list ms)
members_clear limits s no_members h = tt
members_clear limits s (and_member at end k t ms) h = (
  clear_front limits (placed (under s k) t) (placed_members s ms) h,
  members_clear limits s ms (clear_rest limits (placed (under s k) t) (placed_members s ms) h),
)

pub entries_clear : (limits : Limits) (s : Spot) (t : Tree) → IsClear limits s t → AreClear limits s (entries t)
entries_clear limits s (tree at end (Node.object ms)) h =
    members_clear limits s ms (node_clear limits s at end (Node.object ms) h)
entries_clear limits s (tree at end _) h = tt

-- the faults at the keys of an object without a fault
pub object_clear : (limits : Limits) (s : Spot) (at end : ℕ) (ms : Members)
    → IsClear limits s (tree at end (Node.object ms)) → keys_faults limits s [] ms ≡ []
object_clear limits s at end ms h =
    clear_left (keys_faults limits s [] ms) _ (inside_clear limits s at end (Node.object ms) h)

-- ---- what is found has what all have

pub found_clear : (limits : Limits) (s q : Spot) (p : List ℕ → Bool) (es : List Entry) (v : Tree)
    → ((key : List ℕ) → p key ≡ true → under s key ≡ q) → AreClear limits s es
    → first_value p es ≡ Some v → IsClear limits q v
found_clear limits s q p [] v f a h = cc
found_clear limits s q p (e ∷ es) v f a h = by (p e.key) refl h (found_clear limits s q p es v f a.1)
  where
    by : (b : Bool) → p e.key ≡ b → cond b (Some e.value) (first_value p es) ≡ Some v
        → (first_value p es ≡ Some v → IsClear limits q v) → IsClear limits q v
    by true i h r =
        let same : e.value ≡ v = cc in
        subst (λ (x : Tree). IsClear limits q x) same (subst (λ (x : Spot). IsClear limits x e.value) (f e.key i) a.0)
    by false i h r = r h

-- ---- numbers

-- no key has the number
abbrev pub HasNot : ℕ → List Entry → Type 0
HasNot n [] = Unit {0}
HasNot n (e ∷ es) = ((number_of e.key == n) ≡ false) × HasNot n es

-- every key is a number, and each number comes once
abbrev pub AreNumbered : List Entry → Type 0
AreNumbered [] = Unit {0}
AreNumbered (e ∷ es) = (is_digits e.key ≡ true) × HasNot (number_of e.key) es × AreNumbered es

-- a period or start key without a fault
record IsNew (earlier : List Key) (k : List ℕ) : Type 0 where
  digits : is_digits k ≡ true
  new : has_key earlier (by_number (number_of k)) ≡ false

is_new : (limits : Limits) (s : Spot) (earlier : List Key) (at : ℕ) (k : List ℕ) → kind_of s ≡ kind.Numbers
    → key_faults limits s earlier at k ≡ [] → IsNew earlier k
is_new limits s earlier at k i h =
    let double = where_so (is_double earlier (key_of (kind_of s) k)) at flaw.Double in
    let name = where_so (takes_names (kind_of s) && not (is_name k)) at flaw.BadName in
    let shape = where_so (takes_numbers (kind_of s) && not (is_digits k)) at flaw.Shape in
    let three = clear_left ((double ++ name) ++ shape) (first_past (key_limit limits s) _ at) h in
    let shape_none = not_so (takes_numbers (kind_of s) && not (is_digits k)) at flaw.Shape
    (clear_right (double ++ name) shape three) in
    let double_none = not_so (is_double earlier (key_of (kind_of s) k)) at flaw.Double
    (clear_left double name (clear_left (double ++ name) shape three)) in
    let d : is_digits k ≡ true =
    not-false (is_digits k) (sym (ap (λ q. takes_numbers q && not (is_digits k)) i) ∙ shape_none) in
    record {
      digits = d;
      new = sym (ap (λ b. has_key earlier (cond b (by_number (number_of k)) (by_text k))) d)
          ∙ sym (ap (λ q. is_double earlier (key_of q k)) i) ∙ double_none;
    }

pub has_key-append : (a b : List Key) (k : Key) → has_key (a ++ b) k ≡ has_key a k || has_key b k
has_key-append [] b k = refl
has_key-append (j ∷ a) b k =
    ap (λ x. same_key k j || x) (has_key-append a b k) ∙ sym (or_assoc (same_key k j) (has_key a k) (has_key b k))
  where
    or_assoc : (a b c : Bool) → (a || b) || c ≡ a || (b || c)
    or_assoc true b c = refl
    or_assoc false b c = refl

pub or_left : (a b : Bool) → a ≡ true → a || b ≡ true
or_left true b h = refl
or_left false b h = cc

pub or_right : (a b : Bool) → b ≡ true → a || b ≡ true
or_right true b h = refl
or_right false b h = h

-- behind a key of the number there is no other
has_not : (limits : Limits) (s : Spot) (earlier : List Key) (ms : Members) (n : ℕ) → kind_of s ≡ kind.Numbers
    → keys_faults limits s earlier ms ≡ [] → has_key earlier (by_number n) ≡ true → HasNot n (entry_list ms)
has_not limits s earlier no_members n i h e = tt
has_not limits s earlier (and_member at end k t ms) n i h e =
    let new : IsNew earlier k = is_new limits s earlier at k i (clear_left (key_faults limits s earlier at k) _ h) in (
      other (number_of k == n) refl new.new,
      has_not limits s (earlier ++ key_of (kind_of s) k) ms n i (clear_right (key_faults limits s earlier at k) _ h)
          (has_key-append earlier (key_of (kind_of s) k) (by_number n) ∙ or_left (has_key earlier (by_number n)) _ e),
    )
  where
    other : (b : Bool) → (number_of k == n) ≡ b → has_key earlier (by_number (number_of k)) ≡ false → b ≡ false
    other true j f = let q : number_of k ≡ n = grind (arith, nat_tests) in
        sym e ∙ ap (λ m. has_key earlier (by_number m)) (sym q) ∙ f
    other false j f = refl

same_number : (n : ℕ) → nat_eq n n ≡ true
same_number n = grind (arith, nat_tests)

numbered : (limits : Limits) (s : Spot) (earlier : List Key) (ms : Members) → kind_of s ≡ kind.Numbers
    → keys_faults limits s earlier ms ≡ [] → AreNumbered (entry_list ms)
numbered limits s earlier no_members i h = tt
numbered limits s earlier (and_member at end k t ms) i h =
    let new : IsNew earlier k = is_new limits s earlier at k i (clear_left (key_faults limits s earlier at k) _ h) in
    let rest = clear_right (key_faults limits s earlier at k) _ h in
    let mine : key_of (kind_of s) k ≡ by_number (number_of k) ∷ [] =
    ap (λ q. key_of q k) i ∙ ap (λ b. cond b (by_number (number_of k)) (by_text k) ∷ []) new.digits in
    let here : has_key (earlier ++ key_of (kind_of s) k) (by_number (number_of k)) ≡ true =
    has_key-append earlier (key_of (kind_of s) k) (by_number (number_of k))
    ∙ or_right (has_key earlier (by_number (number_of k))) _
    (ap (λ q. has_key q (by_number (number_of k))) mine
    ∙ or_left (nat_eq (number_of k) (number_of k)) false (same_number (number_of k))) in (
      new.digits,
      has_not limits s (earlier ++ key_of (kind_of s) k) ms (number_of k) i rest here,
      numbered limits s (earlier ++ key_of (kind_of s) k) ms i rest,
    )

pub entries_numbered : (limits : Limits) (s : Spot) (t : Tree) → kind_of s ≡ kind.Numbers → IsClear limits s t
    → AreNumbered (entries t)
entries_numbered limits s (tree at end (Node.object ms)) i h =
    numbered limits s [] ms i (object_clear limits s at end ms h)
entries_numbered limits s (tree at end _) i h = tt
