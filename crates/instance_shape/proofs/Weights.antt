-- What is looked up in a value under different keys weighs no more than the value, and what a
-- value weighs is no more than the numbers in it.
use Rattle.std.proofs.Common.{◌≡◌, ◌≢◌, ℕ, ◌+◌, ◌<◌, ◌≤◌, ◌&&◌, Bool, true, false, cond, List, [], ◌∷◌, ◌++◌, length}
use Rattle.std.proofs.Common.{Option, Some, None, refl, sym, ◌∙◌, ap, subst, arith, length-append, append_assoc}
use Rattle.std.proofs.Common.{unwrap_or, bytes_eq, ◌⊎◌, inl, inr}
use Rattle.std.specs.Prelude.{AllPairs, slice_index_or, ◌==◌}
use Rattle.std.specs.List.{sum_by}
use Rattle.std.proofs.lemmas.Bool.{and_parts, eqb-true, cases_order}
use Rattle.std.proofs.lemmas.List.Sums.{sum_by-cons}
use Rattle.std.proofs.lemmas.Slice.Eq.{bytes_eq-Decides}
use Rattle.json_grammar.specs.Tree.{Tree, tree, Node, Trees, no_trees, and_tree, Members, no_members, and_member}
use Rattle.instance_model.specs.Naturals.{count_sum}
use Rattle.instance_model.specs.declared.limits.Limits.{Limits}
use Rattle.instance_shape.specs.declared.fault.Known.{Known}
use Rattle.instance_shape.specs.declared.spot.Spot.{Spot}
use Rattle.instance_shape.specs.Keys.{is_digits, number_of, text_of}
use Rattle.instance_shape.specs.Shape.{Placed, placed, placed_elements, placed_members, element, under}
use Rattle.instance_shape.specs.ShapeFaults.{values_faults, numbers_at, place_of_number}
use Rattle.instance_shape.specs.LookUp.{Entry, entries, entry_list, elements, tree_list, first_value, at_key, at_number}
use Rattle.instance_shape.specs.LookUp.{number_in, known}
use Rattle.instance_shape.proofs.Clear.{IsClear, clear_front, clear_rest, node_clear}
use Rattle.instance_shape.proofs.ClearParts.{at_key_clear}
use Rattle.instance_shape.proofs.CountSums.{count_sum_below, count_sum-zeros, count_sum-plus, at_most_one}

-- ---- values under different keys

-- the weight of a value, if there is one
abbrev pub weight_of : (Tree → ℕ) → Option Tree → ℕ
weight_of w None = 0
weight_of w (Some t) = w t

-- the values in a value weigh so much together
abbrev pub inner_weight : (Tree → ℕ) → Tree → ℕ
inner_weight w t = sum_by (λ e. w e.value) (entries t)

-- the first values that pass tests, of which no key passes two, weigh no more than all values
few_under : (w : Tree → ℕ) (test : ℕ → List ℕ → Bool) (n : ℕ) (es : List Entry)
    → ((key : List ℕ) (a b : ℕ) → a < n → b < n → test a key ≡ true → test b key ≡ true → a ≡ b)
    → count_sum n (λ k. weight_of w (first_value (test k) es)) ≤ sum_by (λ e. w e.value) es
few_under w test n [] u = omega (arith, count_sum-zeros n)
few_under w test n (e ∷ es) u =
    let each = count_sum_below n (λ k. weight_of w (first_value (test k) (e ∷ es)))
    (λ k. cond (test k e.key) (w e.value) 0 + weight_of w (first_value (test k) es))
    (λ k l. split (test k e.key) (first_value (test k) es)) in
    omega (
      arith,
      each,
      count_sum-plus n (λ k. cond (test k e.key) (w e.value) 0) (λ k. weight_of w (first_value (test k) es)),
      at_most_one n (λ k. test k e.key) (w e.value) (u e.key),
      few_under w test n es u,
      sum_by-cons (λ (x : Entry). w x.value) e es,
    )
  where
    split : (b : Bool) (o : Option Tree) → weight_of w (cond b (Some e.value) o) ≤ cond b (w e.value) 0 + weight_of w o
    split true o = omega arith
    split false o = omega arith

-- under different periods or starts
numbers_of : (w : Tree → ℕ) (n : ℕ) (t : Tree) → count_sum n (λ k. weight_of w (at_number k t)) ≤ inner_weight w t
numbers_of w n t = few_under w (λ k key. is_digits key && (number_of key == k)) n (entries t) (λ key a b l m p q.
    sym (eqb-true (number_of key) a (and_parts (is_digits key) (number_of key == a) p).1)
    ∙ eqb-true (number_of key) b (and_parts (is_digits key) (number_of key == b) q).1)

same_place : (names : List (List ℕ)) (a b : ℕ) → AllPairs (λ x y. x ≢ y) names → a < length names → b < length names
    → slice_index_or names a [] ≡ slice_index_or names b [] → a ≡ b
same_place names a b p l m e = by (cases_order a b)
  where
    by : (a ≡ b) ⊎ ((a < b) ⊎ (b < a)) → a ≡ b
    by (inl q) = q
    by (inr (inl q)) = absurd (p a b [] q m e)
    by (inr (inr q)) = absurd (p b a [] q l (sym e))

-- under different names
pub names_under : (w : Tree → ℕ) (names : List (List ℕ)) (t : Tree) → AllPairs (λ x y. x ≢ y) names
    → count_sum (length names) (λ c. weight_of w (at_key (slice_index_or names c []) t)) ≤ inner_weight w t
names_under w names t p =
    few_under w (λ c key. bytes_eq (slice_index_or names c []) key) (length names) (entries t) (λ key a b l m q r.
    same_place names a b p l m ((bytes_eq-Decides (slice_index_or names a []) key).0 q
    ∙ sym ((bytes_eq-Decides (slice_index_or names b []) key).0 r)))

numbers_under : (w : Tree → ℕ) (n : ℕ) (o : Option Tree) → count_sum n (λ k. weight_of w (number_in k o))
    ≤ weight_of (inner_weight w) o
numbers_under w n None = omega (arith, count_sum-zeros n)
numbers_under w n (Some t) = numbers_of w n t

-- under different pairs of a period and a start
pub pairs_in : (w : Tree → ℕ) (m n : ℕ) (o : Option Tree)
    → count_sum m (λ t. count_sum n (λ s. weight_of w (number_in s (number_in t o))))
    ≤ weight_of (inner_weight (inner_weight w)) o
pairs_in w m n o = omega (
  arith,
  count_sum_below m (λ t. count_sum n (λ s. weight_of w (number_in s (number_in t o))))
      (λ t. weight_of (inner_weight w) (number_in t o)) (λ t l. numbers_under w n (number_in t o)),
  numbers_under (inner_weight w) m o,
)

-- ---- the numbers in a value

numbers_at-append : (p : Spot → Bool) (xs ys : List Placed)
    → numbers_at p (xs ++ ys) ≡ numbers_at p xs ++ numbers_at p ys
numbers_at-append p [] ys = refl
numbers_at-append p (x ∷ xs) ys = ap (λ r. cond (p x.spot) (place_of_number x.tree) [] ++ r) (numbers_at-append p xs ys)
    ∙ sym (append_assoc (cond (p x.spot) (place_of_number x.tree) []) (numbers_at p xs) (numbers_at p ys))

pub numbers_sum : (p : Spot → Bool) (xs ys : List Placed)
    → length (numbers_at p (xs ++ ys)) ≡ length (numbers_at p xs) + length (numbers_at p ys)
numbers_sum p xs ys = ap length (numbers_at-append p xs ys) ∙ length-append (numbers_at p xs) (numbers_at p ys)

-- how many numbers at some spots a value at a spot has in it
abbrev pub numbers_in : (Spot → Bool) → Spot → Tree → ℕ
numbers_in p s t = length (numbers_at p (placed s t))

-- a value without a fault weighs no more than the numbers in it
abbrev pub IsCounted : Limits → (Spot → Bool) → Spot → (Tree → ℕ) → Type 0
IsCounted limits p s w = (t : Tree) → IsClear limits s t → w t ≤ numbers_in p s t

trees_counted : (limits : Limits) (p : Spot → Bool) (s q : Spot) (n : ℕ) (ts : Trees) → ((m : ℕ) → element s m ≡ q)
    → IsCounted limits p q (λ t. 1) → values_faults limits (placed_elements s n ts) ≡ []
    → length (tree_list ts) ≤ length (numbers_at p (placed_elements s n ts))
trees_counted limits p s q n no_trees e f h = omega arith
trees_counted limits p s q n (and_tree t ts) e f h =
    let here : 1 ≤ numbers_in p (element s n) t = subst (λ (x : Spot). IsCounted limits p x (λ t. 1)) (sym (e n)) f t
    (clear_front limits (placed (element s n) t) (placed_elements s (n + 1) ts) h) in
    omega (
      arith,
      here,
      trees_counted limits p s q (n + 1) ts e f
          (clear_rest limits (placed (element s n) t) (placed_elements s (n + 1) ts) h),
      numbers_sum p (placed (element s n) t) (placed_elements s (n + 1) ts),
    )

-- a list, by its elements
pub elements_counted : (limits : Limits) (p : Spot → Bool) (s q : Spot) → ((m : ℕ) → element s m ≡ q)
    → IsCounted limits p q (λ t. 1) → IsCounted limits p s (λ t. length (elements t))
elements_counted limits p s q e f (tree at end (Node.list ts)) h =
    omega (
      arith,
      trees_counted limits p s q 0 ts e f (node_clear limits s at end (Node.list ts) h),
      numbers_sum p (record { spot = s; tree = tree at end (Node.list ts) } ∷ []) (placed_elements s 0 ts),
    )
elements_counted limits p s q e f (tree at end _) h = omega arith

members_counted : (limits : Limits) (p : Spot → Bool) (s q : Spot) (w : Tree → ℕ) (ms : Members)
    → ((key : List ℕ) → under s key ≡ q) → IsCounted limits p q w → values_faults limits (placed_members s ms) ≡ []
    → sum_by (λ e. w e.value) (entry_list ms) ≤ length (numbers_at p (placed_members s ms))
members_counted limits p s q w no_members e f h = omega arith
members_counted limits p s q w (and_member at end k t ms) e f h =
    let here : w t ≤ numbers_in p (under s k) t = subst (λ (x : Spot). IsCounted limits p x w) (sym (e k)) f t
    (clear_front limits (placed (under s k) t) (placed_members s ms) h) in
    omega (
      arith,
      here,
      members_counted limits p s q w ms e f (clear_rest limits (placed (under s k) t) (placed_members s ms) h),
      numbers_sum p (placed (under s k) t) (placed_members s ms),
      sum_by-cons (λ (x : Entry). w x.value) (record { key = k; value = t }) (entry_list ms),
    )

-- an object, by the values in it
pub entries_counted : (limits : Limits) (p : Spot → Bool) (s q : Spot) (w : Tree → ℕ)
    → ((key : List ℕ) → under s key ≡ q) → IsCounted limits p q w → IsCounted limits p s (inner_weight w)
entries_counted limits p s q w e f (tree at end (Node.object ms)) h =
    omega (
      arith,
      members_counted limits p s q w ms e f (node_clear limits s at end (Node.object ms) h),
      numbers_sum p (record { spot = s; tree = tree at end (Node.object ms) } ∷ []) (placed_members s ms),
    )
entries_counted limits p s q w e f (tree at end _) h = omega arith

-- a value under a key has no more numbers than the object
member_numbers : (p : Spot → Bool) (s : Spot) (key : List ℕ) (ms : Members) (v : Tree)
    → first_value (bytes_eq key) (entry_list ms) ≡ Some v
    → numbers_in p (under s key) v ≤ length (numbers_at p (placed_members s ms))
member_numbers p s key no_members v e = cc
member_numbers p s key (and_member at end k t ms) v e = by (bytes_eq key k) refl e (member_numbers p s key ms v)
    (numbers_sum p (placed (under s k) t) (placed_members s ms))
  where
    by : (b : Bool) → bytes_eq key k ≡ b → cond b (Some t) (first_value (bytes_eq key) (entry_list ms)) ≡ Some v
        → (first_value (bytes_eq key) (entry_list ms) ≡ Some v
        → numbers_in p (under s key) v ≤ length (numbers_at p (placed_members s ms)))
        → length (numbers_at p (placed (under s k) t ++ placed_members s ms))
        ≡ numbers_in p (under s k) t + length (numbers_at p (placed_members s ms))
        → numbers_in p (under s key) v ≤ length (numbers_at p (placed (under s k) t ++ placed_members s ms))
    by true q e r n =
        let kk : key ≡ k = (bytes_eq-Decides key k).0 q in let tv : t ≡ v = cc in
        omega (arith, n, ap (λ x. numbers_in p (under s x) v) kk, ap (λ x. numbers_in p (under s k) x) tv)
    by false q e r n = omega (arith, n, r e)

key_numbers : (p : Spot → Bool) (s : Spot) (key : List ℕ) (t v : Tree) → at_key key t ≡ Some v
    → numbers_in p (under s key) v ≤ numbers_in p s t
key_numbers p s key (tree at end (Node.object ms)) v e = omega (
  arith,
  member_numbers p s key ms v e,
  numbers_sum p (record { spot = s; tree = tree at end (Node.object ms) } ∷ []) (placed_members s ms),
)
key_numbers p s key (tree at end _) v e = cc

-- an object, by the value under a required key
pub known_counted : (limits : Limits) (p : Spot → Bool) (s : Spot) (k : Known) (w : Tree → ℕ) → w (tree 0 0 Node.null)
    ≡ 0 → IsCounted limits p (under s (text_of k)) w → IsCounted limits p s (λ t. w (known k t))
known_counted limits p s k w n f t h = by (at_key (text_of k) t) refl
  where
    by : (o : Option Tree) → at_key (text_of k) t ≡ o → w (unwrap_or o (tree 0 0 Node.null)) ≤ numbers_in p s t
    by None e = omega (arith, n)
    by (Some v) e = omega (arith, f v (at_key_clear limits s (text_of k) t v h e), key_numbers p s (text_of k) t v e)
