-- What is kept of a value, part by part: of a part that is kept by itself, and
-- of a value at a spot at which nothing is kept.
use Rattle.std.proofs.Common.{◌≡◌, ℕ, ◌+◌, Bool, true, false, List, refl, ◌∙◌, ap, pred}
use Rattle.json_grammar.specs.Tree.{Tree, tree, Node, Trees, no_trees, and_tree, Members, no_members, and_member, Event}
use Rattle.json_grammar.specs.Tree.{begin, finish, key}
use Rattle.instance_shape.specs.declared.spot.Spot.{Spot}
use Rattle.instance_shape.specs.Shape.{under, element}
use Rattle.shape_walk.specs.Kept.{keep_value, keep_node, keep_elements, keep_members}

-- a part of what is kept, kept by itself
module _ {A B : Type 0} (part : A → B) (keep : Spot → Event → A → A) (keep_part : Spot → Event → B → B)
    (same : (s : Spot) (e : Event) (a : A) → part (keep s e a) ≡ keep_part s e (part a)) where
  mutual
    pub value_part : (s : Spot) (t : Tree) (a : A) → part (keep_value keep s t a) ≡ keep_value keep_part s t (part a)
    value_part s (tree at end n) a = node_part s at end n a

    node_part : (s : Spot) (at end : ℕ) (n : Node) (a : A)
        → part (keep_node keep s at end n a) ≡ keep_node keep_part s at end n (part a)
    node_part s at end Node.null a = same s (Event.null at) a
    node_part s at end (Node.boolean b) a = same s (Event.boolean at b) a
    node_part s at end (Node.number x) a = same s (Event.number at x) a
    node_part s at end (Node.text x) a = same s (Event.text at end x) a
    node_part s at end (Node.list ts) a =
        same s (finish (pred end)) (keep_elements keep s 0 ts (keep s (begin at false) a))
        ∙ ap (keep_part s (finish (pred end)))
        (elements_part s 0 ts (keep s (begin at false) a)
        ∙ ap (keep_elements keep_part s 0 ts) (same s (begin at false) a))
    node_part s at end (Node.object ms) a =
        same s (finish (pred end)) (keep_members keep s ms (keep s (begin at true) a))
        ∙ ap (keep_part s (finish (pred end)))
        (members_part s ms (keep s (begin at true) a) ∙ ap (keep_members keep_part s ms) (same s (begin at true) a))

    elements_part : (s : Spot) (n : ℕ) (ts : Trees) (a : A)
        → part (keep_elements keep s n ts a) ≡ keep_elements keep_part s n ts (part a)
    elements_part s n no_trees a = refl
    elements_part s n (and_tree t ts) a = elements_part s (n + 1) ts (keep_value keep (element s n) t a)
        ∙ ap (keep_elements keep_part s (n + 1) ts) (value_part (element s n) t a)

    members_part : (s : Spot) (ms : Members) (a : A)
        → part (keep_members keep s ms a) ≡ keep_members keep_part s ms (part a)
    members_part s no_members a = refl
    members_part s (and_member at end k t ms) a =
        members_part s ms (keep_value keep (under s k) t (keep s (key at end k) a))
        ∙ ap (keep_members keep_part s ms)
        (value_part (under s k) t (keep s (key at end k) a)
        ∙ ap (keep_value keep_part (under s k) t) (same s (key at end k) a))

-- at some spots nothing is kept, and at no spot in a value there
module _ {A : Type 0} (keep : Spot → Event → A → A) (idle : Spot → Bool)
    (idle_under : (s : Spot) (k : List ℕ) → idle s ≡ true → idle (under s k) ≡ true)
    (idle_element : (s : Spot) (n : ℕ) → idle s ≡ true → idle (element s n) ≡ true)
    (same : (s : Spot) (e : Event) (a : A) → idle s ≡ true → keep s e a ≡ a) where
  mutual
    pub value_idle : (s : Spot) (t : Tree) (a : A) → idle s ≡ true → keep_value keep s t a ≡ a
    value_idle s (tree at end n) a i = node_idle s at end n a i

    node_idle : (s : Spot) (at end : ℕ) (n : Node) (a : A) → idle s ≡ true → keep_node keep s at end n a ≡ a
    node_idle s at end Node.null a i = same s (Event.null at) a i
    node_idle s at end (Node.boolean b) a i = same s (Event.boolean at b) a i
    node_idle s at end (Node.number x) a i = same s (Event.number at x) a i
    node_idle s at end (Node.text x) a i = same s (Event.text at end x) a i
    node_idle s at end (Node.list ts) a i =
        same s (finish (pred end)) (keep_elements keep s 0 ts (keep s (begin at false) a)) i
        ∙ elements_idle s 0 ts (keep s (begin at false) a) i ∙ same s (begin at false) a i
    node_idle s at end (Node.object ms) a i =
        same s (finish (pred end)) (keep_members keep s ms (keep s (begin at true) a)) i
        ∙ members_idle s ms (keep s (begin at true) a) i ∙ same s (begin at true) a i

    elements_idle : (s : Spot) (n : ℕ) (ts : Trees) (a : A) → idle s ≡ true → keep_elements keep s n ts a ≡ a
    elements_idle s n no_trees a i = refl
    elements_idle s n (and_tree t ts) a i = elements_idle s (n + 1) ts (keep_value keep (element s n) t a) i
        ∙ value_idle (element s n) t a (idle_element s n i)

    members_idle : (s : Spot) (ms : Members) (a : A) → idle s ≡ true → keep_members keep s ms a ≡ a
    members_idle s no_members a i = refl
    members_idle s (and_member at end k t ms) a i =
        members_idle s ms (keep_value keep (under s k) t (keep s (key at end k) a)) i
        ∙ value_idle (under s k) t (keep s (key at end k) a) (idle_under s k i) ∙ same s (key at end k) a i
