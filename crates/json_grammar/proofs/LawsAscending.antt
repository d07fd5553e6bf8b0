-- The events of a text begin at ascending offsets.
use Rattle.std.proofs.Common.{◌≡◌, ℕ, suc, pred, ◌+◌, ◌≤◌, List, [], ◌∷◌, ◌++◌, length, ap, subst, append_assoc}
use Rattle.std.proofs.Common.{length-append, arith}
use Rattle.json_grammar.specs.Tree.{Tree, Node, Trees, Members, Event, finish, key, events_of, node_events}
use Rattle.json_grammar.specs.Tree.{trees_events, members_events}
use Rattle.json_grammar.specs.Events.{event_at}
use Rattle.json_grammar.specs.Stream.{AscendFrom}
use Rattle.json_grammar.specs.Grammar.{IsInt, HasParts, IsNumber, IsString, quoted, IsValue, value, IsNode, IsElement}
use Rattle.json_grammar.specs.Grammar.{element, IsMoreTrees, no_more, more, IsMember, member, IsMoreMembers}
use Rattle.json_grammar.specs.Grammar.{no_more_members, more_members, IsText}

-- the events ascend between two offsets
abbrev Ascend : ℕ → ℕ → List Event → Type 0
Ascend from end [] = from ≤ end
Ascend from end (e ∷ es) = (from ≤ event_at e) × Ascend (event_at e + 1) end es

further : (a b c d : ℕ) (es : List Event) → Ascend b c es → a ≤ b → c ≤ d → Ascend a d es
further a b c d [] h i j = omega arith
further a b c d (e ∷ es) h i j =
    (omega (arith, h.0), further (event_at e + 1) (event_at e + 1) c d es h.1 (omega arith) j)

joined : (a b c : ℕ) (xs ys : List Event) → Ascend a b xs → Ascend b c ys → Ascend a c (xs ++ ys)
joined a b c [] ys h g = further a b c c ys g h (omega arith)
joined a b c (e ∷ xs) ys h g = (h.0, joined (event_at e + 1) b c xs ys h.1 g)

from_there : (a b : ℕ) (es : List Event) → Ascend a b es → AscendFrom a es
from_there a b [] h = tt
from_there a b (e ∷ es) h = (h.0, from_there (event_at e + 1) b es h.1)

int_length : {w : List ℕ} → IsInt w → 1 ≤ length w
int_length IsInt.zero = omega arith
int_length (IsInt.nonzero n h hs) = omega arith

number_length : (s : List ℕ) → IsNumber s → 1 ≤ length s
number_length s n = by_parts n.1
  where
    by_parts : {s : List ℕ} {p : Rattle.json_grammar.specs.Grammar.Parts} → HasParts s p → 1 ≤ length s
    by_parts (HasParts.positive {w = w} {f} {e} i g x) = omega (arith, length-append w (f ++ e), int_length i)
    by_parts (HasParts.negative {w = w} {f} {e} i g x) = omega arith

string_length : {s x : List ℕ} → IsString s x → 1 ≤ length s
string_length (quoted h) = omega arith

-- the closing bracket or brace comes last
closed : (k : ℕ) (first last : ℕ) (w : List ℕ)
    → Ascend (suc k + length w) (k + length (first ∷ (w ++ last ∷ [])))
    (finish (pred (k + length (first ∷ (w ++ last ∷ [])))) ∷ [])
closed k first last w =
    let n : k + length (first ∷ (w ++ last ∷ [])) ≡ suc (suc k + length w) =
    omega (arith, length-append w (last ∷ [])) in
    let place : pred (k + length (first ∷ (w ++ last ∷ []))) ≡ suc k + length w = ap pred n in
    (omega arith, omega arith)

closed_both : (k : ℕ) (first last : ℕ) (v w : List ℕ)
    → Ascend (suc k + length v + length w) (k + length (first ∷ (v ++ (w ++ last ∷ []))))
    (finish (pred (k + length (first ∷ (v ++ (w ++ last ∷ []))))) ∷ [])
closed_both k first last v w =
    let all : (v ++ w) ++ last ∷ [] ≡ v ++ (w ++ last ∷ []) = append_assoc v w (last ∷ []) in
    let n : suc k + length (v ++ w) ≡ suc k + length v + length w = omega (arith, length-append v w) in
    subst (λ z. Ascend (suc k + length v + length w) (k + length (first ∷ z))
    (finish (pred (k + length (first ∷ z))) ∷ [])) all
    (subst (λ z. Ascend z (k + length (first ∷ ((v ++ w) ++ last ∷ [])))
    (finish (pred (k + length (first ∷ ((v ++ w) ++ last ∷ [])))) ∷ [])) n (closed k first last (v ++ w)))

mutual
  value_ascends : {k : ℕ} {v : List ℕ} {t : Tree} → IsValue k v t → Ascend k (k + length v) (events_of t)
  value_ascends (value n) = node_ascends n

  node_ascends : {k : ℕ} {v : List ℕ} {n : Node} → IsNode k v n
      → Ascend k (k + length v) (node_events k (k + length v) n)
  node_ascends IsNode.null = (omega arith, omega arith)
  node_ascends IsNode.yes = (omega arith, omega arith)
  node_ascends IsNode.no = (omega arith, omega arith)
  node_ascends (IsNode.number {s = s} h) = (omega arith, omega (arith, number_length s h))
  node_ascends (IsNode.text h) = (omega arith, omega (arith, string_length h))
  node_ascends {k} (IsNode.empty_list {ws = ws} h) = let c = closed k 91 93 ws in (omega arith, (omega arith, c.1))
  node_ascends {k} (IsNode.list {e = e} {m} {t} {ts} h g) =
      let end = k + length (91 ∷ (e ++ (m ++ 93 ∷ []))) in (
        omega arith,
        joined (k + 1) (suc k + length e + length m) end (events_of t ++ trees_events ts) (finish (pred end) ∷ [])
            (joined (k + 1) (suc k + length e) (suc k + length e + length m) (events_of t) (trees_events ts)
            (further (k + 1) (suc k) (suc k + length e) (suc k + length e) (events_of t) (element_ascends h)
            (omega arith) (omega arith)) (trees_ascend g))
            (closed_both k 91 93 e m),
      )
  node_ascends {k} (IsNode.empty_object {ws = ws} h) = let c = closed k 123 125 ws in (omega arith, (omega arith, c.1))
  node_ascends {k} (IsNode.object {at = at} {end} {e = e} {m} {key = x} {t} {ms} h g) =
      let last = k + length (123 ∷ (e ++ (m ++ 125 ∷ []))) in (
        omega arith,
        joined (k + 1) (suc k + length e + length m) last (key at end x ∷ (events_of t ++ members_events ms))
            (finish (pred last) ∷ [])
            (joined (k + 1) (suc k + length e) (suc k + length e + length m)
            (key at end x ∷ events_of t) (members_events ms)
            (further (k + 1) (suc k) (suc k + length e) (suc k + length e) (key at end x ∷ events_of t)
            (member_ascends h) (omega arith) (omega arith)) (members_ascend g))
            (closed_both k 123 125 e m),
      )

  element_ascends : {k : ℕ} {e : List ℕ} {t : Tree} → IsElement k e t → Ascend k (k + length e) (events_of t)
  element_ascends {k} (element {before = before} {v} {after} {t} h g f) =
      further k (k + length before) (k + length before + length v) (k + length (before ++ (v ++ after))) (events_of t)
      (value_ascends g) (omega arith) (omega (arith, length-append before (v ++ after), length-append v after))

  trees_ascend : {k : ℕ} {m : List ℕ} {ts : Trees} → IsMoreTrees k m ts → Ascend k (k + length m) (trees_events ts)
  trees_ascend no_more = omega arith
  trees_ascend {k} (more {e = e} {m} {t} {ts} h g) =
      joined k (suc k + length e) (k + length (44 ∷ (e ++ m))) (events_of t) (trees_events ts)
      (further k (suc k) (suc k + length e) (suc k + length e) (events_of t) (element_ascends h)
      (omega arith) (omega arith))
      (further (suc k + length e) (suc k + length e) (suc k + length e + length m) (k + length (44 ∷ (e ++ m)))
      (trees_events ts) (trees_ascend g) (omega arith) (omega (arith, length-append e m)))

  member_ascends : {k at end : ℕ} {e x : List ℕ} {t : Tree} → IsMember k e at end x t
      → Ascend k (k + length e) (key at end x ∷ events_of t)
  member_ascends {k} (member {before = before} {s} {between} {e} {text} {t} h g f j) =
      let a = k + length before in
      let start = suc (a + length s + length between) in
      let all : k + length (before ++ (s ++ (between ++ 58 ∷ e))) ≡ start + length e = omega (
        arith,
        length-append before (s ++ (between ++ 58 ∷ e)),
        length-append s (between ++ 58 ∷ e),
        length-append between (58 ∷ e),
      ) in (
        omega arith,
        further (a + 1) start (start + length e) (k + length (before ++ (s ++ (between ++ 58 ∷ e))))
            (events_of t) (element_ascends j) (omega arith) (omega arith),
      )

  members_ascend : {k : ℕ} {m : List ℕ} {ms : Members} → IsMoreMembers k m ms
      → Ascend k (k + length m) (members_events ms)
  members_ascend no_more_members = omega arith
  members_ascend {k} (more_members {at = at} {end} {e = e} {m} {key = x} {t} {ms} h g) =
      joined k (suc k + length e) (k + length (44 ∷ (e ++ m))) (key at end x ∷ events_of t) (members_events ms)
      (further k (suc k) (suc k + length e) (suc k + length e) (key at end x ∷ events_of t) (member_ascends h)
      (omega arith) (omega arith))
      (further (suc k + length e) (suc k + length e) (suc k + length e + length m) (k + length (44 ∷ (e ++ m)))
      (members_events ms) (members_ascend g) (omega arith) (omega (arith, length-append e m)))

pub events_ascend : (bytes : List ℕ) (t : Tree) → IsText bytes t → AscendFrom 0 (events_of t)
events_ascend bytes t h = from_there 0 (0 + length bytes) (events_of t) (element_ascends h)
