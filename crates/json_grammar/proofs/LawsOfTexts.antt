-- What follows of the grammar.
use Rattle.std.proofs.Common.{arith, ◌≡◌, ℕ, ◌+◌, List, [], ◌∷◌, ◌++◌, length, Option, Some, None, sym, ◌∙◌, ap, subst}
use Rattle.std.proofs.Common.{append-nil}
use Rattle.std.specs.Str.{IsUtf8}
use Rattle.json_grammar.specs.Tree.{Tree, Node, Trees, Members, Event, events_of, node_events, trees_events}
use Rattle.json_grammar.specs.Tree.{members_events}
use Rattle.json_grammar.specs.Grammar.{IsValue, value, IsNode, IsElement, element, IsMoreTrees, no_more, more, IsMember}
use Rattle.json_grammar.specs.Grammar.{member, IsMoreMembers, no_more_members, more_members}
use Rattle.json_grammar.specs.Grammar.{IsString, quoted}
use Rattle.json_grammar.specs.laws.Sound.{AreSound}
use Rattle.json_grammar.proofs.LawsUtf.{utf_characters}
use Rattle.json_grammar.proofs.LawsBackward.{reads_text}
use Rattle.json_grammar.proofs.LawsViable.{complete}
use Rattle.json_grammar.proofs.LawsForward.{at_offset}
use Rattle.json_grammar.specs.laws.Builder.{bt, feeds}
use Rattle.json_grammar.specs.laws.Machine.{State, st, want, run, ending, Reads, ends}
use Rattle.json_grammar.proofs.LawsPrefixes.{taken_text, join}
use Rattle.json_grammar.proofs.LawsBuilding.{text_built}

nothing_left : {k : ℕ} {s : State} {es : List Event} → Reads k s [] es → ending s.levels s.mode ≡ Some es
nothing_left (ends e) = e

-- a text has one tree
pub one_tree : (bytes : List ℕ) (t u : Tree) → IsElement 0 bytes t → IsElement 0 bytes u → t ≡ u
one_tree bytes t u h g =
    let p = taken_text bytes [] t (subst (λ z. IsElement 0 z t) (sym (append-nil bytes)) h) in
    let q = taken_text bytes [] u (subst (λ z. IsElement 0 z u) (sym (append-nil bytes)) g) in
    let runs : ◌≡◌ {A = State × List Event} (p.state, p.front) (q.state, q.front) = let a = p.runs in let b = q.runs in
    cc in
    let last : ◌≡◌ {A = Option (List Event)} (Some p.back) (Some q.back) = sym (nothing_left p.reads)
    ∙ ap (λ (z : State × List Event). ending z.0.levels z.0.mode) runs ∙ nothing_left q.reads in
    let backs : p.back ≡ q.back = cc in
    let events : events_of t ≡ events_of u = p.events ∙ ap (λ z. z ++ p.back) (ap (λ (z : State × List Event). z.1)
    runs) ∙ ap (λ z. q.front ++ z) backs ∙ sym q.events in
    let built : ◌≡◌ {A = Option Tree} (Some t) (Some u) =
    ap (λ b. b.done) (sym (text_built h) ∙ ap (λ z. feeds z (bt [] None)) events ∙ text_built g) in
    cc

join_sound : (a b : List Event) → AreSound a → AreSound b → AreSound (a ++ b)
join_sound [] b h g = g
join_sound (e ∷ a) b h g = (h.0, join_sound a b h.1 g)

string_sound : {s x : List ℕ} → IsString s x → IsUtf8 x
string_sound (quoted h) = utf_characters h

key_sound : {k at end : ℕ} {e x : List ℕ} {t : Tree} → IsMember k e at end x t → IsUtf8 x
key_sound (member h g f j) = string_sound g

mutual
  value_sound : {k : ℕ} {v : List ℕ} {t : Tree} → IsValue k v t → AreSound (events_of t)
  value_sound (value n) = node_sound n

  node_sound : {k : ℕ} {v : List ℕ} {n : Node} → IsNode k v n → AreSound (node_events k (k + length v) n)
  node_sound IsNode.null = (tt, tt)
  node_sound IsNode.yes = (tt, tt)
  node_sound IsNode.no = (tt, tt)
  node_sound (IsNode.number h) = (h, tt)
  node_sound (IsNode.text h) = (string_sound h, tt)
  node_sound (IsNode.empty_list h) = (tt, (tt, tt))
  node_sound (IsNode.list {t = t} {ts} h g) = (
    tt,
    join_sound (events_of t ++ trees_events ts) _
        (join_sound (events_of t) (trees_events ts) (element_sound h) (trees_sound g)) (tt, tt),
  )
  node_sound (IsNode.empty_object h) = (tt, (tt, tt))
  node_sound (IsNode.object {t = t} {ms} h g) = (
    tt,
    (
      key_sound h,
      join_sound (events_of t ++ members_events ms) _
          (join_sound (events_of t) (members_events ms) (member_sound h) (members_sound g)) (tt, tt),
    ),
  )

  element_sound : {k : ℕ} {e : List ℕ} {t : Tree} → IsElement k e t → AreSound (events_of t)
  element_sound (element h g f) = value_sound g

  trees_sound : {k : ℕ} {m : List ℕ} {ts : Trees} → IsMoreTrees k m ts → AreSound (trees_events ts)
  trees_sound no_more = tt
  trees_sound (more {t = t} {ts} h g) = join_sound (events_of t) (trees_events ts) (element_sound h) (trees_sound g)

  member_sound : {k at end : ℕ} {e x : List ℕ} {t : Tree} → IsMember k e at end x t → AreSound (events_of t)
  member_sound (member h g f j) = element_sound j

  members_sound : {k : ℕ} {m : List ℕ} {ms : Members} → IsMoreMembers k m ms → AreSound (members_events ms)
  members_sound no_more_members = tt
  members_sound (more_members {t = t} {ms} h g) =
      (key_sound h, join_sound (events_of t) (members_events ms) (member_sound h) (members_sound g))

pub text_sound : {bytes : List ℕ} {t : Tree} → IsElement 0 bytes t → AreSound (events_of t)
text_sound h = element_sound h

first_sound : (a b : List Event) → AreSound (a ++ b) → AreSound a
first_sound [] b h = tt
first_sound (e ∷ a) b h = (h.0, first_sound a b h.1)

pub last_sound : (a b : List Event) → AreSound (a ++ b) → AreSound b
last_sound [] b h = h
last_sound (e ∷ a) b h = last_sound a b h.1

-- what is told on the way is sound
pub run_sound : (p : List ℕ) (s : State) (es : List Event) → run 0 (st [] want) p ≡ Some (s, es) → AreSound es
run_sound p s es e =
    let c = complete (length p) s.levels s.mode in
    let w = reads_text (join p c.bytes 0 (st [] want) s es c.events e (at_offset (omega arith) c.reads)) in
    first_sound es c.events (subst AreSound w.events (text_sound w.text))
