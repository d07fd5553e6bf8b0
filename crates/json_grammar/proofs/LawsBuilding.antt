-- The events of a tree build it.
use Rattle.std.proofs.Common.{◌≡◌, ℕ, ◌+◌, List, [], ◌∷◌, ◌++◌, length, Option, Some, None, refl, sym, ◌∙◌, ap, arith}
use Rattle.json_grammar.specs.Tree.{Tree, tree, Node, Trees, no_trees, and_tree, Members, no_members, and_member, Event}
use Rattle.json_grammar.specs.Tree.{finish, events_of, node_events, trees_events, members_events}
use Rattle.json_grammar.specs.Grammar.{IsValue, value, IsNode, IsElement, element, IsMoreTrees, no_more, more, IsMember}
use Rattle.json_grammar.specs.Grammar.{member, IsMoreMembers, no_more_members, more_members}
use Rattle.json_grammar.specs.laws.Builder.{Open, open_list, open_object, open_member, Built, bt, tree_last}
use Rattle.json_grammar.specs.laws.Builder.{member_last}
use Rattle.json_grammar.specs.laws.Builder.{attach, feed, feeds}

pub feeds_append : (a b : List Event) (s : Built) → feeds (a ++ b) s ≡ feeds b (feeds a s)
feeds_append [] b s = refl
feeds_append (e ∷ a) b s = feeds_append a b (feed e s)

last_assoc : (ts : Trees) (t : Tree) (us : Trees) → tree_last (tree_last ts (and_tree t no_trees)) us
    ≡ tree_last ts (and_tree t us)
last_assoc no_trees t us = refl
last_assoc (and_tree x ts) t us = ap (and_tree x) (last_assoc ts t us)

last_none : (ts : Trees) → tree_last ts no_trees ≡ ts
last_none no_trees = refl
last_none (and_tree t ts) = ap (and_tree t) (last_none ts)

member_assoc : (ms : Members) (at end : ℕ) (k : List ℕ) (t : Tree) (ns : Members)
    → member_last (member_last ms (and_member at end k t no_members)) ns ≡ member_last ms (and_member at end k t ns)
member_assoc no_members at end k t ns = refl
member_assoc (and_member a b l x ms) at end k t ns = ap (and_member a b l x) (member_assoc ms at end k t ns)

member_none : (ms : Members) → member_last ms no_members ≡ ms
member_none no_members = refl
member_none (and_member at end k t ms) = ap (and_member at end k t) (member_none ms)

mutual
  unfolding feed

  value_feeds : {k : ℕ} {v : List ℕ} {t : Tree} → IsValue k v t → (b : Built) → feeds (events_of t) b ≡ attach t b
  value_feeds (value n) b = node_feeds n b

  node_feeds : {k : ℕ} {v : List ℕ} {n : Node} → IsNode k v n → (b : Built)
      → feeds (node_events k (k + length v) n) b ≡ attach (tree k (k + length v) n) b
  node_feeds IsNode.null b = refl
  node_feeds IsNode.yes b = refl
  node_feeds IsNode.no b = refl
  node_feeds (IsNode.number h) b = refl
  node_feeds (IsNode.text h) b = refl
  node_feeds {k} (IsNode.empty_list h) b = ap (λ z. attach (tree k z (Node.list no_trees)) b) (omega arith)
  node_feeds {k} (IsNode.list {t = t} {ts} h g) b =
      feeds_append (events_of t ++ trees_events ts) (finish _ ∷ []) (bt (open_list k no_trees ∷ b.levels) b.done)
      ∙ ap (feeds (finish _ ∷ []))
      (feeds_append (events_of t) (trees_events ts) (bt (open_list k no_trees ∷ b.levels) b.done)
      ∙ ap (feeds (trees_events ts)) (element_feeds h (bt (open_list k no_trees ∷ b.levels) b.done))
      ∙ more_feeds g k (and_tree t no_trees) b.levels b.done)
      ∙ ap (λ z. attach (tree k z (Node.list (and_tree t ts))) b) (omega arith)
  node_feeds {k} (IsNode.empty_object h) b = ap (λ z. attach (tree k z (Node.object no_members)) b) (omega arith)
  node_feeds {k} (IsNode.object {at = at} {end} {key = x} {t} {ms} h g) b =
      feeds_append (events_of t ++ members_events ms) (finish _ ∷ [])
      (bt (open_member k no_members at end x ∷ b.levels) b.done)
      ∙ ap (feeds (finish _ ∷ []))
      (feeds_append (events_of t) (members_events ms) (bt (open_member k no_members at end x ∷ b.levels) b.done)
      ∙ ap (feeds (members_events ms)) (member_feeds h k no_members b.levels b.done)
      ∙ more_members_feeds g k (and_member at end x t no_members) b.levels b.done)
      ∙ ap (λ z. attach (tree k z (Node.object (and_member at end x t ms))) b) (omega arith)

  element_feeds : {k : ℕ} {e : List ℕ} {t : Tree} → IsElement k e t → (b : Built) → feeds (events_of t) b ≡ attach t b
  element_feeds (element h g f) b = value_feeds g b

  more_feeds : {k : ℕ} {m : List ℕ} {ts : Trees} → IsMoreTrees k m ts
      → (at : ℕ) (us : Trees) (os : List Open) (d : Option Tree) → feeds (trees_events ts) (bt (open_list at us ∷ os) d)
      ≡ bt (open_list at (tree_last us ts) ∷ os) d
  more_feeds no_more at us os d = ap (λ z. bt (open_list at z ∷ os) d) (sym (last_none us))
  more_feeds (more {t = t} {ts} h g) at us os d =
      feeds_append (events_of t) (trees_events ts) (bt (open_list at us ∷ os) d)
      ∙ ap (feeds (trees_events ts)) (element_feeds h (bt (open_list at us ∷ os) d))
      ∙ more_feeds g at (tree_last us (and_tree t no_trees)) os d
      ∙ ap (λ z. bt (open_list at z ∷ os) d) (last_assoc us t ts)

  member_feeds : {k at end : ℕ} {e x : List ℕ} {t : Tree} → IsMember k e at end x t
      → (a : ℕ) (ns : Members) (os : List Open) (d : Option Tree)
      → feeds (events_of t) (bt (open_member a ns at end x ∷ os) d)
      ≡ bt (open_object a (member_last ns (and_member at end x t no_members)) ∷ os) d
  member_feeds (member h g f j) a ns os d = element_feeds j _

  more_members_feeds : {k : ℕ} {m : List ℕ} {ms : Members} → IsMoreMembers k m ms
      → (a : ℕ) (ns : Members) (os : List Open) (d : Option Tree)
      → feeds (members_events ms) (bt (open_object a ns ∷ os) d) ≡ bt (open_object a (member_last ns ms) ∷ os) d
  more_members_feeds no_more_members a ns os d = ap (λ z. bt (open_object a z ∷ os) d) (sym (member_none ns))
  more_members_feeds (more_members {at = at} {end} {key = x} {t} {ms} h g) a ns os d =
      feeds_append (events_of t) (members_events ms) (bt (open_member a ns at end x ∷ os) d)
      ∙ ap (feeds (members_events ms)) (member_feeds h a ns os d)
      ∙ more_members_feeds g a (member_last ns (and_member at end x t no_members)) os d
      ∙ ap (λ z. bt (open_object a z ∷ os) d) (member_assoc ns at end x t ms)

-- a text's events build its tree
pub text_built : {bytes : List ℕ} {t : Tree} → IsElement 0 bytes t → feeds (events_of t) (bt [] None) ≡ bt [] (Some t)
text_built h = element_feeds h (bt [] None)
