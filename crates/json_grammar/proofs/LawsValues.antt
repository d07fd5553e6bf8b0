-- Values, and so whole texts, that the grammar allows are read.
use Rattle.std.specs.Prelude.{◌==◌}
use Rattle.std.proofs.Common.{suc, ◌≡◌, ◌≢◌, ℕ, ◌+◌, List, [], ◌∷◌, ◌++◌, length, Bool, true, false, refl, sym, ◌∙◌, ap}
use Rattle.std.proofs.Common.{subst, append_assoc, append-nil, length-append, arith}
use Rattle.std.proofs.lemmas.Bool.Decides.{nat_tests}
use Rattle.json_grammar.specs.Tree.{Tree, Node, Trees, Members, Event, begin, finish, key, events_of, node_events}
use Rattle.json_grammar.specs.Tree.{trees_events, members_events}
use Rattle.json_grammar.specs.Grammar.{IsDigit, IsInt, HasParts, IsNumber, IsString, IsValue, value, IsNode, IsElement}
use Rattle.json_grammar.specs.Grammar.{element, IsMoreTrees, no_more, more, IsMember, member, IsMoreMembers}
use Rattle.json_grammar.specs.Grammar.{no_more_members, more_members}
use Rattle.json_grammar.specs.laws.Machine.{Phase, Mode, want, first, first_key, next_key, after, number, string, st}
use Rattle.json_grammar.specs.laws.Machine.{go}
use Rattle.json_grammar.specs.laws.Machine.{is_blank, step, value_step, after_step, phase_step, Reads, ends, then}
use Rattle.json_grammar.specs.laws.Machine as machine
use Rattle.json_grammar.proofs.LawsForward.{at_offset, same, skip, in_want, in_first, in_first_key, in_next_key}
use Rattle.json_grammar.proofs.LawsForward.{in_colon}
use Rattle.json_grammar.proofs.LawsForward.{in_after, Waits, unsigned_reads}
use Rattle.json_grammar.proofs.LawsStrings.{string_reads}

want_digit : (k d : ℕ) (levels : List Bool) → d ≢ 48 → IsDigit d
    → step k levels want d ≡ step k levels (number k [] Phase.minus) d
unfolding step value_step phase_step
want_digit k d levels n h = let f = h.low in let g = h.high in grind (arith, nat_tests)

as_minus : {k : ℕ} {levels : List Bool} {i : List ℕ} {es : List Event} (w : List ℕ) → IsInt i
    → Reads k (st levels (number k [] Phase.minus)) (i ++ w) es → Reads k (st levels want) (i ++ w) es
unfolding step value_step phase_step
as_minus w IsInt.zero (then e r) = then e r
as_minus {k} {levels} w (IsInt.nonzero {d} n h hs) (then e r) = then (want_digit k d levels n h ∙ e) r

number_reads : {k : ℕ} {levels : List Bool} {s w : List ℕ} {fs : List Event} → IsNumber s
    → Reads (k + length s) (st levels after) w fs → Reads k (st levels want) (s ++ w) (Event.number k s ∷ fs)
unfolding step value_step
number_reads {w = w} (_, HasParts.positive {w = i} {f} {e} a b c) r = same refl (simp append_assoc) refl
    (as_minus (f ++ (e ++ w)) a (unsigned_reads [] a b c refl (at_offset (simp length-append (omega arith)) r)))
number_reads {w = w} (_, HasParts.negative {w = i} {f} {e} a b c) r = then refl
    (same refl (simp append_assoc) refl
    (unsigned_reads (45 ∷ []) a b c refl (at_offset (simp length-append (omega arith)) r)))

-- the first byte of a value: a value may come in both modes
record Starts (v : List ℕ) : Type 0 where
  first : ℕ
  rest : List ℕ
  is : v ≡ first ∷ rest
  no_blank : is_blank first ≡ false
  no_bracket : (first == 93) ≡ false

whole_starts : {i : List ℕ} (tail : List ℕ) → IsInt i → Starts (i ++ tail)
whole_starts tail IsInt.zero = record { first = 48; rest = tail; is = refl; no_blank = refl; no_bracket = refl }
whole_starts tail (IsInt.nonzero {d} {ds} n h hs) = record {
  first = d;
  rest = ds ++ tail;
  is = refl;
  no_blank = (let f = h.low in grind (arith, nat_tests));
  no_bracket = (let f = h.high in grind (arith, nat_tests));
}

starts : {k : ℕ} {v : List ℕ} {n : Node} → IsNode k v n → Starts v
starts IsNode.null = record { first = 110; rest = _; is = refl; no_blank = refl; no_bracket = refl }
starts IsNode.yes = record { first = 116; rest = _; is = refl; no_blank = refl; no_bracket = refl }
starts IsNode.no = record { first = 102; rest = _; is = refl; no_blank = refl; no_bracket = refl }
starts (IsNode.number (_, HasParts.positive a b c)) = whole_starts _ a
starts (IsNode.number (_, HasParts.negative a b c)) =
    record { first = 45; rest = _; is = refl; no_blank = refl; no_bracket = refl }
starts (IsNode.text (IsString.quoted h)) =
    record { first = 34; rest = _; is = refl; no_blank = refl; no_bracket = refl }
starts (IsNode.empty_list h) = record { first = 91; rest = _; is = refl; no_blank = refl; no_bracket = refl }
starts (IsNode.list h g) = record { first = 91; rest = _; is = refl; no_blank = refl; no_bracket = refl }
starts (IsNode.empty_object h) = record { first = 123; rest = _; is = refl; no_blank = refl; no_bracket = refl }
starts (IsNode.object h g) = record { first = 123; rest = _; is = refl; no_blank = refl; no_bracket = refl }

first_is_want : (k b : ℕ) (levels : List Bool) → is_blank b ≡ false → (b == 93) ≡ false
    → step k levels first b ≡ step k levels want b
unfolding step
first_is_want k b levels e f = rw (e, f) refl

as_first_at : {k b : ℕ} {levels : List Bool} {w : List ℕ} {es : List Event} → is_blank b ≡ false → (b == 93) ≡ false
    → Reads k (st levels want) (b ∷ w) es → Reads k (st levels first) (b ∷ w) es
as_first_at {k} {b} {levels} p q (then e r) = then (first_is_want k b levels p q ∙ e) r

as_first : {k : ℕ} {levels : List Bool} {v : List ℕ} {es : List Event} (w : List ℕ) → Starts v
    → Reads k (st levels want) (v ++ w) es → Reads k (st levels first) (v ++ w) es
as_first {k} {levels} {v} {es} w s r = subst (λ x. Reads k (st levels first) (x ++ w) es) (sym s.is)
    (as_first_at s.no_blank s.no_bracket (subst (λ x. Reads k (st levels want) (x ++ w) es) s.is r))

-- where a value, or a key, may come
data StartsValue : Mode → Type 0 where
  value_wanted : StartsValue want
  value_first : StartsValue first

data StartsKey : Mode → Type 0 where
  key_first : StartsKey first_key
  key_next : StartsKey next_key

value_waits : {m : Mode} → StartsValue m → Waits m
value_waits value_wanted = in_want
value_waits value_first = in_first

key_waits : {m : Mode} → StartsKey m → Waits m
key_waits key_first = in_first_key
key_waits key_next = in_next_key

key_opens : {m : Mode} (k : ℕ) (levels : List Bool) → StartsKey m
    → step k levels m 34 ≡ go levels (string true k [] machine.plain)
unfolding step
key_opens k levels key_first = refl
key_opens k levels key_next = refl

closed : (e : Event) (a b fs : List Event) (j i : ℕ) → j ≡ i
    → e ∷ (a ++ (b ++ finish j ∷ fs)) ≡ e ∷ (((a ++ b) ++ finish i ∷ []) ++ fs)
closed e a b fs j i h = rw h (simp append_assoc)

-- where a key ends
key_end : (k : ℕ) (a bs : List ℕ)
    → suc (k + length a) + length (bs ++ 34 ∷ []) ≡ k + length a + length (34 ∷ (bs ++ 34 ∷ []))
key_end k a bs = omega arith

mutual
  unfolding step value_step after_step

  value_reads : {k : ℕ} {v : List ℕ} {t : Tree} {levels : List Bool} {m : Mode} {w : List ℕ} {fs : List Event}
      → StartsValue m → IsValue k v t → Reads (k + length v) (st levels after) w fs
      → Reads k (st levels m) (v ++ w) (events_of t ++ fs)
  value_reads value_wanted (value n) r = node_reads n r
  value_reads {w = w} value_first (value n) r = as_first w (starts n) (node_reads n r)

  node_reads : {k : ℕ} {v : List ℕ} {n : Node} {levels : List Bool} {w : List ℕ} {fs : List Event} → IsNode k v n
      → Reads (k + length v) (st levels after) w fs
      → Reads k (st levels want) (v ++ w) (node_events k (k + length v) n ++ fs)
  node_reads IsNode.null r = then refl (then refl (then refl (then refl (at_offset (omega arith) r))))
  node_reads IsNode.yes r = then refl (then refl (then refl (then refl (at_offset (omega arith) r))))
  node_reads IsNode.no r = then refl (then refl (then refl (then refl (then refl (at_offset (omega arith) r)))))
  node_reads (IsNode.number h) r = number_reads h r
  node_reads {k} {fs = fs} (IsNode.text (IsString.quoted {bs} {text = x} h)) r = same refl refl
      (ap (λ z. Event.text k z x ∷ fs) (omega arith))
      (then refl (string_reads (IsString.quoted h) (at_offset (omega arith) r)))
  node_reads {k} {w = w} {fs = fs} (IsNode.empty_list {ws} h) r =
      same {v = 91 ∷ (ws ++ 93 ∷ w)} refl (simp append_assoc)
      (ap (λ z. begin k false ∷ finish z ∷ fs) (simp length-append (omega arith)))
      (then refl (skip in_first h (then refl (at_offset (simp length-append (omega arith)) r))))
  node_reads {k} {w = w} {fs = fs} (IsNode.list {e} {m} {t} {ts} h g) r =
      same {v = 91 ∷ (e ++ (m ++ 93 ∷ w))} refl (simp append_assoc)
      (closed (begin k false) (events_of t) (trees_events ts) fs _ _ (simp length-append (omega arith)))
      (then refl
      (element_reads value_first h (more_reads g (then refl (at_offset (simp length-append (omega arith)) r)))))
  node_reads {k} {w = w} {fs = fs} (IsNode.empty_object {ws} h) r =
      same {v = 123 ∷ (ws ++ 125 ∷ w)} refl (simp append_assoc)
      (ap (λ z. begin k true ∷ finish z ∷ fs) (simp length-append (omega arith)))
      (then refl (skip in_first_key h (then refl (at_offset (simp length-append (omega arith)) r))))
  node_reads {k} {w = w} {fs = fs} (IsNode.object {at = at} {end} {e} {m} {key = x} {t} {ms} h g) r =
      same {v = 123 ∷ (e ++ (m ++ 125 ∷ w))} refl (simp append_assoc)
      (ap (λ es. begin k true ∷ es)
      (closed (key at end x) (events_of t) (members_events ms) fs _ _ (simp length-append (omega arith))))
      (then refl
      (member_reads key_first h (more_members_reads g (then refl (at_offset (simp length-append (omega arith)) r)))))

  element_reads : {k : ℕ} {e : List ℕ} {t : Tree} {levels : List Bool} {m : Mode} {w : List ℕ} {fs : List Event}
      → StartsValue m → IsElement k e t → Reads (k + length e) (st levels after) w fs
      → Reads k (st levels m) (e ++ w) (events_of t ++ fs)
  element_reads {w = w} s (element {before = a} {v} {after = z} h g f) r = same {v = a ++ (v ++ (z ++ w))} refl
      (simp append_assoc) refl
      (skip (value_waits s) h (value_reads s g (skip in_after f (at_offset (simp length-append (omega arith)) r))))

  more_reads : {k : ℕ} {m : List ℕ} {ts : Trees} {levels : List Bool} {w : List ℕ} {fs : List Event}
      → IsMoreTrees k m ts → Reads (k + length m) (st (false ∷ levels) after) w fs
      → Reads k (st (false ∷ levels) after) (m ++ w) (trees_events ts ++ fs)
  more_reads no_more r = at_offset (omega arith) r
  more_reads {w = w} {fs = fs} (more {e} {m} {t} {ts} h g) r = same {v = 44 ∷ (e ++ (m ++ w))}
      {es = events_of t ++ (trees_events ts ++ fs)} refl (simp append_assoc) (simp append_assoc)
      (then refl (element_reads value_wanted h (more_reads g (at_offset (simp length-append (omega arith)) r))))

  member_reads : {k at end : ℕ} {e x : List ℕ} {t : Tree} {levels : List Bool} {m : Mode} {w : List ℕ} {fs : List Event}
      → StartsKey m → IsMember k e at end x t → Reads (k + length e) (st levels after) w fs
      → Reads k (st levels m) (e ++ w) (key at end x ∷ (events_of t ++ fs))
  member_reads {k} {levels = levels} {w = w} {fs =
      fs} s (member {before = a} {between = z} {e = e} {text = x} {t = t} h (IsString.quoted {bs} g) f j) r =
      same {v = a ++ (34 ∷ (bs ++ 34 ∷ (z ++ 58 ∷ (e ++ w))))} refl (simp append_assoc)
      (ap (λ n. key (k + length a) n x ∷ (events_of t ++ fs)) (key_end k a bs))
      (skip (key_waits s) h
      (then (key_opens _ levels s) (same {v = (bs ++ 34 ∷ []) ++ (z ++ 58 ∷ (e ++ w))} refl (simp append_assoc) refl
      (string_reads (IsString.quoted g)
      (at_offset {j = k + length a + length (34 ∷ (bs ++ 34 ∷ []))} (omega arith)
      (skip in_colon f
      (then refl (element_reads value_wanted j (at_offset (simp length-append (omega arith)) r)))))))))

  more_members_reads : {k : ℕ} {m : List ℕ} {ts : Members} {levels : List Bool} {w : List ℕ} {fs : List Event}
      → IsMoreMembers k m ts → Reads (k + length m) (st (true ∷ levels) after) w fs
      → Reads k (st (true ∷ levels) after) (m ++ w) (members_events ts ++ fs)
  more_members_reads no_more_members r = at_offset (omega arith) r
  more_members_reads {w = w} {fs = fs} (more_members {at = at} {end} {e} {m} {key = x} {t} {ms} h g) r = same
      {v = 44 ∷ (e ++ (m ++ w))} {es = key at end x ∷ (events_of t ++ (members_events ms ++ fs))}
      refl (simp append_assoc)
      (simp append_assoc)
      (then refl (member_reads key_next h (more_members_reads g (at_offset (simp length-append (omega arith)) r))))

-- a text is read whole, with the events of its tree
pub text_reads : {bytes : List ℕ} {t : Tree} → IsElement 0 bytes t → Reads 0 (st [] want) bytes (events_of t)
unfolding machine.ending
text_reads {bytes} {t} h = same {j = 0} {v = bytes ++ []} {es = events_of t ++ []} refl (append-nil bytes)
    (append-nil (events_of t)) (element_reads value_wanted h (ends refl))
