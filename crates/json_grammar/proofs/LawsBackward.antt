-- What the machine reads is what the grammar allows.
use Rattle.std.specs.Prelude.{◌==◌, ◌&&◌, ◌⊎◌}
use Rattle.std.proofs.Common.{◌≡◌, ◌≢◌, ℕ, suc, ◌+◌, List, [], ◌∷◌, ◌++◌, length, drop, Bool, true, false, Option, Some}
use Rattle.std.proofs.Common.{None, refl, sym, ap, subst, inl, inr, append_assoc, append-nil, length-append, arith}
use Rattle.std.proofs.lemmas.Bool.Decides.{nat_tests}
use Rattle.json_grammar.specs.Tree.{Tree, Node, Trees, Members, Event, begin, finish, key, events_of, node_events}
use Rattle.json_grammar.specs.Tree.{trees_events, members_events}
use Rattle.json_grammar.specs.Grammar.{IsBlank, AreBlanks, IsNumber, AreCharacters, IsString, quoted, IsValue, value}
use Rattle.json_grammar.specs.Grammar.{IsNode, IsElement, element, IsMoreTrees, no_more, more, member, IsMoreMembers}
use Rattle.json_grammar.specs.Grammar.{no_more_members, more_members}
use Rattle.json_grammar.specs.laws.Machine.{Phase, Mode, want, first, first_key, next_key, colon, after, literal}
use Rattle.json_grammar.specs.laws.Machine.{number}
use Rattle.json_grammar.specs.laws.Machine.{string, State, st, is_blank, is_digit, may_end, step, value_step}
use Rattle.json_grammar.specs.laws.Machine.{after_step}
use Rattle.json_grammar.specs.laws.Machine.{phase_step, ending, Reads, ends, then, after_string, string_event}
use Rattle.json_grammar.specs.laws.Machine as machine
use Rattle.json_grammar.proofs.Choices.{branch, taken, guarded, none_some}
use Rattle.json_grammar.proofs.LawsInside.{Completes}
use Rattle.json_grammar.proofs.Digits.{digit}
use Rattle.json_grammar.proofs.LawsInside as inside
use Rattle.json_grammar.proofs.LawsNumbers as numbers

-- what may come after a value
pub data AfterRest : ℕ → List Bool → List ℕ → List Event → Type 0 where
  top : {k : ℕ} {w : List ℕ} → AreBlanks w → AfterRest k [] w []
  in_list : {k : ℕ} {levels : List Bool} {ws m w : List ℕ} {ts : Trees} {es : List Event} → AreBlanks ws
      → IsMoreTrees (k + length ws) m ts → AfterRest (suc (k + length ws + length m)) levels w es
      → AfterRest k (false ∷ levels) (ws ++ (m ++ 93 ∷ w)) (trees_events ts ++ finish (k + length ws + length m) ∷ es)
  in_object : {k : ℕ} {levels : List Bool} {ws m w : List ℕ} {ms : Members} {es : List Event} → AreBlanks ws
      → IsMoreMembers (k + length ws) m ms → AfterRest (suc (k + length ws + length m)) levels w es
      → AfterRest k (true ∷ levels) (ws ++ (m ++ 125 ∷ w)) (members_events ms ++ finish (k + length ws + length m) ∷ es)

-- where a value is wanted
pub data WantRest : ℕ → List Bool → List ℕ → List Event → Type 0 where
  wanted : {k : ℕ} {levels : List Bool} {ws v w : List ℕ} {t : Tree} {es : List Event} → AreBlanks ws
      → IsValue (k + length ws) v t → AfterRest (k + length ws + length v) levels w es
      → WantRest k levels (ws ++ (v ++ w)) (events_of t ++ es)

pub data FirstRest : ℕ → List Bool → List ℕ → List Event → Type 0 where
  no_value : {k : ℕ} {levels : List Bool} {ws w : List ℕ} {es : List Event} → AreBlanks ws
      → AfterRest (suc (k + length ws)) (drop 1 levels) w es
      → FirstRest k levels (ws ++ 93 ∷ w) (finish (k + length ws) ∷ es)
  a_value : {k : ℕ} {levels : List Bool} {w : List ℕ} {es : List Event} → WantRest k levels w es
      → FirstRest k levels w es

pub data ColonRest : ℕ → List Bool → List ℕ → List Event → Type 0 where
  comes : {k : ℕ} {levels : List Bool} {ws w : List ℕ} {es : List Event} → AreBlanks ws
      → WantRest (suc (k + length ws)) levels w es → ColonRest k levels (ws ++ 58 ∷ w) es

pub data KeyRest : ℕ → List Bool → List ℕ → List Event → Type 0 where
  a_key : {k : ℕ} {levels : List Bool} {ws s x w : List ℕ} {es : List Event} → AreBlanks ws → IsString s x
      → ColonRest (k + length ws + length s) levels w es
      → KeyRest k levels (ws ++ (s ++ w)) (key (k + length ws) (k + length ws + length s) x ∷ es)

pub data FirstKeyRest : ℕ → List Bool → List ℕ → List Event → Type 0 where
  no_key : {k : ℕ} {levels : List Bool} {ws w : List ℕ} {es : List Event} → AreBlanks ws
      → AfterRest (suc (k + length ws)) (drop 1 levels) w es
      → FirstKeyRest k levels (ws ++ 125 ∷ w) (finish (k + length ws) ∷ es)
  some_key : {k : ℕ} {levels : List Bool} {w : List ℕ} {es : List Event} → KeyRest k levels w es
      → FirstKeyRest k levels w es

abbrev StringThen : Bool → ℕ → List Bool → List ℕ → List Event → Type 0
StringThen true = ColonRest
StringThen false = AfterRest

pub data StringRest (i : Bool) (at : ℕ) (text : List ℕ) (p : machine.Within) : ℕ → List Bool → List ℕ
    → List Event → Type 0 where
  closes : {k : ℕ} {levels : List Bool} {bs x : List ℕ} (w : List ℕ) (es : List Event) → Completes p bs x
      → StringThen i (suc (k + length bs)) levels w es
      → StringRest i at text p k levels (bs ++ 34 ∷ w) (string_event i at (suc (k + length bs)) (text ++ x) ∷ es)

pub data NumberRest (at : ℕ) (bytes : List ℕ) (p : Phase) : ℕ → List Bool → List ℕ → List Event → Type 0 where
  ended : {k : ℕ} {levels : List Bool} {bs w : List ℕ} {es : List Event} → numbers.Rest p bs
      → AfterRest (k + length bs) levels w es
      → NumberRest at bytes p k levels (bs ++ w) (Event.number at (bytes ++ bs) ∷ es)

pub data LiteralRest (b : ℕ) (bs : List ℕ) (e : Event) : ℕ → List Bool → List ℕ → List Event → Type 0 where
  spelled : {k : ℕ} {levels : List Bool} {w : List ℕ} {es : List Event} → AfterRest (suc (k + length bs)) levels w es
      → LiteralRest b bs e k levels (b ∷ (bs ++ w)) (e ∷ es)

abbrev pub Rest : ℕ → List Bool → Mode → List ℕ → List Event → Type 0
Rest k levels want = WantRest k levels
Rest k levels first = FirstRest k levels
Rest k levels first_key = FirstKeyRest k levels
Rest k levels next_key = KeyRest k levels
Rest k levels colon = ColonRest k levels
Rest k levels after = AfterRest k levels
Rest k levels (literal b bs e) = LiteralRest b bs e k levels
Rest k levels (number at bytes p) = NumberRest at bytes p k levels
Rest k levels (string i at text p) = StringRest i at text p k levels

-- one byte less
abbrev Back : ℕ → List Bool → Mode → ℕ → List ℕ → List Event → (State × List Event) → Type 0
Back k levels m b w es r = Rest (suc k) r.0.levels r.0.mode w es → Rest k levels m (b ∷ w) (r.1 ++ es)

after_at : {j k : ℕ} {levels : List Bool} {v w : List ℕ} {es fs : List Event} → j ≡ k → v ≡ w → es ≡ fs
    → AfterRest j levels v es → AfterRest k levels w fs
after_at {j} {k} {levels} {v} {w} {es} {fs} p q h r = subst (λ x. AfterRest k levels w x) h
    (subst (λ x. AfterRest k levels x es) q (subst (λ x. AfterRest x levels v es) p r))

want_at : {j k : ℕ} {levels : List Bool} {v w : List ℕ} {es fs : List Event} → j ≡ k → v ≡ w → es ≡ fs
    → WantRest j levels v es → WantRest k levels w fs
want_at {j} {k} {levels} {v} {w} {es} {fs} p q h r = subst (λ x. WantRest k levels w x) h
    (subst (λ x. WantRest k levels x es) q (subst (λ x. WantRest x levels v es) p r))

value_at : {j k : ℕ} {v : List ℕ} {t : Tree} → j ≡ k → IsValue j v t → IsValue k v t
value_at {j} {k} {v} {t} e h = subst (λ x. IsValue x v t) e h

more_at : {j k : ℕ} {v : List ℕ} {t : Trees} → j ≡ k → IsMoreTrees j v t → IsMoreTrees k v t
more_at {j} {k} {v} {t} e h = subst (λ x. IsMoreTrees x v t) e h

members_at : {j k : ℕ} {v : List ℕ} {t : Members} → j ≡ k → IsMoreMembers j v t → IsMoreMembers k v t
members_at {j} {k} {v} {t} e h = subst (λ x. IsMoreMembers x v t) e h

blank_of : (b : ℕ) → is_blank b ≡ true → IsBlank b
blank_of b t =
    let o : (b ≡ 32) ⊎ ((b ≡ 10) ⊎ ((b ≡ 13) ⊎ (b ≡ 9))) = grind (arith, nat_tests) in
    elim o [
      | inl i ↦ rw i IsBlank.space
      | inr p ↦ elim p [
        | inl i ↦ rw i IsBlank.line_feed
        | inr q ↦
            elim q [ inl i ↦ rw i IsBlank.carriage_return | inr i ↦ rw i IsBlank.tab ]
      ]
    ]

-- a blank before what comes
blank_after : {k b : ℕ} {levels : List Bool} {w : List ℕ} {es : List Event} → IsBlank b → AfterRest (suc k) levels w es
    → AfterRest k levels (b ∷ w) es
blank_after h (top hs) = top (AreBlanks.more h hs)
blank_after {k} {b} h (in_list {ws = ws} {m} {w} {ts} {es} hs g r) =
    let p : suc k + length ws ≡ k + length (b ∷ ws) = omega arith in
    after_at refl refl (ap (λ z. trees_events ts ++ finish z ∷ es) (omega arith))
    (in_list {ws = b ∷ ws} (AreBlanks.more h hs) (more_at p g) (after_at (omega arith) refl refl r))
blank_after {k} {b} h (in_object {ws = ws} {m} {w} {ms} {es} hs g r) =
    let p : suc k + length ws ≡ k + length (b ∷ ws) = omega arith in
    after_at refl refl (ap (λ z. members_events ms ++ finish z ∷ es) (omega arith))
    (in_object {ws = b ∷ ws} (AreBlanks.more h hs) (members_at p g) (after_at (omega arith) refl refl r))

blank_want : {k b : ℕ} {levels : List Bool} {w : List ℕ} {es : List Event} → IsBlank b → WantRest (suc k) levels w es
    → WantRest k levels (b ∷ w) es
blank_want {k} {b} h (wanted {ws = ws} {v} hs g r) =
    wanted {ws = b ∷ ws} (AreBlanks.more h hs) (value_at (omega arith) g) (after_at (omega arith) refl refl r)

-- a comma, and an element
listed : (a b es : List Event) (i j : ℕ) → i ≡ j → (a ++ b) ++ finish i ∷ es ≡ a ++ (b ++ finish j ∷ es)
listed a b es i j h = rw h (append_assoc a b (finish j ∷ es))

comma_list : {k : ℕ} {levels : List Bool} {w : List ℕ} {es : List Event} → WantRest (suc k) (false ∷ levels) w es
    → AfterRest k (false ∷ levels) (44 ∷ w) es
comma_list {k} (wanted {ws = a} {v} {t = t} h g (in_list {ws = z} {m} {w} {ts} {es} f n r)) =
    after_at {v = 44 ∷ ((a ++ (v ++ z)) ++ m) ++ 93 ∷ w} refl (simp append_assoc)
    (listed (events_of t) (trees_events ts) es _ _ (simp length-append (omega arith)))
    (in_list {ws = []} AreBlanks.none
    (more_at {j = k} (omega arith) (more (element h g f) (more_at (simp length-append (omega arith)) n)))
    (after_at (simp length-append (omega arith)) refl refl r))

keyed : (e : Event) (a b es : List Event) (i j : ℕ) → i ≡ j
    → (e ∷ (a ++ b)) ++ finish i ∷ es ≡ e ∷ (a ++ (b ++ finish j ∷ es))
keyed e a b es i j h = ap (λ z. e ∷ z) (listed a b es i j h)

comma_object : {k : ℕ} {levels : List Bool} {w : List ℕ} {es : List Event} → KeyRest (suc k) (true ∷ levels) w es
    → AfterRest k (true ∷ levels) (44 ∷ w) es
comma_object {k}
    (a_key {ws = o} {s} {x} ho hs
    (comes {ws = p} hp (wanted {ws = a} {v} {t = t} h g (in_object {ws = z} {m} {w} {ms} {es} f n r)))) =
    after_at {v = 44 ∷ ((o ++ (s ++ (p ++ 58 ∷ (a ++ (v ++ z))))) ++ m) ++ 125 ∷ w} refl (simp append_assoc)
    (keyed (key (suc k + length o) (suc k + length o + length s) x) (events_of t) (members_events ms) es _ _
    (simp length-append (omega arith)))
    (in_object {ws = []} AreBlanks.none
    (members_at {j = k} (omega arith)
    (more_members (member ho hs hp (element h g f)) (members_at (simp length-append (omega arith)) n)))
    (after_at (simp length-append (omega arith)) refl refl r))

-- a value that stands there
stands : {k j : ℕ} {levels : List Bool} {v w : List ℕ} {n : Node} {es : List Event} → IsNode k v n → j ≡ k + length v
    → AfterRest j levels w es → WantRest k levels (v ++ w) (node_events k (k + length v) n ++ es)
stands {k} {j} h e r = wanted {ws = []} AreBlanks.none (value_at {j = k} (omega arith) (value h))
    (after_at {j = j} (omega arith) refl refl r)

enclosed : (a b es : List Event) (i j : ℕ) → i ≡ j → ((a ++ b) ++ finish i ∷ []) ++ es ≡ a ++ (b ++ finish j ∷ es)
enclosed a b es i j h = rw h (simp append_assoc)

list_back : {k : ℕ} {levels : List Bool} {w : List ℕ} {es : List Event} → FirstRest (suc k) (false ∷ levels) w es
    → WantRest k levels (91 ∷ w) (begin k false ∷ es)
list_back {k} (no_value {ws = ws} {w} {es} h r) =
    want_at {v = (91 ∷ (ws ++ 93 ∷ [])) ++ w} refl (simp append_assoc)
    (ap (λ z. begin k false ∷ finish z ∷ es) (simp length-append (omega arith)))
    (stands (IsNode.empty_list h) (simp length-append (omega arith)) r)
list_back {k} (a_value (wanted {ws = a} {v} {t = t} h g (in_list {ws = z} {m} {w} {ts} {es} f n r))) =
    want_at {v = (91 ∷ ((a ++ (v ++ z)) ++ (m ++ 93 ∷ []))) ++ w} refl (simp append_assoc)
    (ap (λ z. begin k false ∷ z)
    (enclosed (events_of t) (trees_events ts) es _ _ (simp length-append (omega arith))))
    (stands (IsNode.list (element h g f) (more_at (simp length-append (omega arith)) n))
    (simp length-append (omega arith)) r)

object_back : {k : ℕ} {levels : List Bool} {w : List ℕ} {es : List Event} → FirstKeyRest (suc k) (true ∷ levels) w es
    → WantRest k levels (123 ∷ w) (begin k true ∷ es)
object_back {k} (no_key {ws = ws} {w} {es} h r) =
    want_at {v = (123 ∷ (ws ++ 125 ∷ [])) ++ w} refl (simp append_assoc)
    (ap (λ z. begin k true ∷ finish z ∷ es) (simp length-append (omega arith)))
    (stands (IsNode.empty_object h) (simp length-append (omega arith)) r)
object_back {k}
    (some_key
    (a_key {ws = o} {s} {x} ho hs
    (comes {ws = p} hp (wanted {ws = a} {v} {t = t} h g (in_object {ws = z} {m} {w} {ms} {es} f n r))))) =
    want_at {v = (123 ∷ ((o ++ (s ++ (p ++ 58 ∷ (a ++ (v ++ z))))) ++ (m ++ 125 ∷ []))) ++ w} refl (simp append_assoc)
    (ap (λ y. begin k true ∷ key (suc k + length o) (suc k + length o + length s) x ∷ y)
    (enclosed (events_of t) (members_events ms) es _ _ (simp length-append (omega arith))))
    (stands (IsNode.object (member ho hs hp (element h g f)) (members_at (simp length-append (omega arith)) n))
    (simp length-append (omega arith)) r)

string_back : {k : ℕ} {levels : List Bool} {w : List ℕ} {es : List Event}
    → StringRest false k [] machine.plain (suc k) levels w es → WantRest k levels (34 ∷ w) es
string_back {k} (closes {bs = bs} {x} w es c r) =
    want_at {v = (34 ∷ (bs ++ 34 ∷ [])) ++ w} refl (simp append_assoc)
    (ap (λ z. Event.text k z x ∷ es) (simp length-append (omega arith)))
    (stands (IsNode.text (quoted (inside.whole_chars c))) (simp length-append (omega arith)) r)

number_back : {k : ℕ} {levels : List Bool} {w : List ℕ} {es : List Event} {p : Phase} (b : ℕ)
    → ((bs : List ℕ) → numbers.Rest p bs → IsNumber (b ∷ bs)) → NumberRest k (b ∷ []) p (suc k) levels w es
    → WantRest k levels (b ∷ w) es
number_back {k} b f (ended {bs = bs} {w} q r) = stands (IsNode.number (f bs q)) (omega arith) r

null_back : {k : ℕ} {levels : List Bool} {w : List ℕ} {es : List Event}
    → LiteralRest 117 (108 ∷ 108 ∷ []) (Event.null k) (suc k) levels w es → WantRest k levels (110 ∷ w) es
null_back (spelled r) = stands IsNode.null (omega arith) r

yes_back : {k : ℕ} {levels : List Bool} {w : List ℕ} {es : List Event}
    → LiteralRest 114 (117 ∷ 101 ∷ []) (Event.boolean k true) (suc k) levels w es → WantRest k levels (116 ∷ w) es
yes_back (spelled r) = stands IsNode.yes (omega arith) r

no_back : {k : ℕ} {levels : List Bool} {w : List ℕ} {es : List Event}
    → LiteralRest 97 (108 ∷ 115 ∷ 101 ∷ []) (Event.boolean k false) (suc k) levels w es → WantRest k levels (102 ∷ w) es
no_back (spelled r) = stands IsNode.no (omega arith) r

value_back : (k : ℕ) (levels : List Bool) (b : ℕ) (w : List ℕ) (es : List Event) (r : State × List Event)
    → value_step k levels b ≡ Some r → Back k levels want b w es r
unfolding value_step
value_back k levels b w es r e =
    let G : (State × List Event) → Type 0 = Back k levels want b w es in
    branch G (b == 91) _ _ r e
    (λ t f. taken G _ r f (λ c. let i : b ≡ 91 = grind (arith, nat_tests) in rw i (list_back c)))
    (λ n0 f0. branch G (b == 123) _ _ r f0
    (λ t f. taken G _ r f (λ c. let i : b ≡ 123 = grind (arith, nat_tests) in rw i (object_back c)))
    (λ n1 f1. branch G (b == 34) _ _ r f1
    (λ t f. taken G _ r f (λ c. let i : b ≡ 34 = grind (arith, nat_tests) in rw i (string_back c)))
    (λ n2 f2. branch G (b == 45) _ _ r f2 (λ t f. taken G _ r f (λ c. let i : b ≡ 45 = grind (arith, nat_tests) in
    rw i (number_back 45 (λ bs q. numbers.after_minus q) c)))
    (λ n3 f3. branch G (b == 48) _ _ r f3 (λ t f. taken G _ r f (λ c. let i : b ≡ 48 = grind (arith, nat_tests) in
    rw i (number_back 48 (λ bs q. numbers.after_zero q) c)))
    (λ n4 f4. branch G (is_digit b) _ _ r f4 (λ t f. taken G _ r f (λ c. let i : b ≢ 48 = grind (arith, nat_tests) in
    number_back b (λ bs q. numbers.after_digit i (digit b t) q) c))
    (λ n5 f5. branch G (b == 110) _ _ r f5
    (λ t f. taken G _ r f (λ c. let i : b ≡ 110 = grind (arith, nat_tests) in rw i (null_back c)))
    (λ n6 f6. branch G (b == 116) _ _ r f6
    (λ t f. taken G _ r f (λ c. let i : b ≡ 116 = grind (arith, nat_tests) in rw i (yes_back c)))
    (λ n7 f7. guarded G (b == 102) _ r f7 (λ t c. let i : b ≡ 102 = grind (arith, nat_tests) in
    rw i (no_back c))))))))))

blank_first : {k b : ℕ} {levels : List Bool} {w : List ℕ} {es : List Event} → IsBlank b → FirstRest (suc k) levels w es
    → FirstRest k levels (b ∷ w) es
blank_first {k} {b} {levels} h (no_value {ws = ws} {w} {es} hs r) =
    subst (λ z. FirstRest k levels (b ∷ (ws ++ 93 ∷ w)) (finish z ∷ es)) (omega arith)
    (no_value {k = k} {ws = b ∷ ws} (AreBlanks.more h hs) (after_at (omega arith) refl refl r))
blank_first h (a_value r) = a_value (blank_want h r)

blank_colon : {k b : ℕ} {levels : List Bool} {w : List ℕ} {es : List Event} → IsBlank b → ColonRest (suc k) levels w es
    → ColonRest k levels (b ∷ w) es
blank_colon {k} {b} h (comes {ws = ws} hs r) =
    comes {ws = b ∷ ws} (AreBlanks.more h hs) (want_at (omega arith) refl refl r)

colon_at : {j k : ℕ} {levels : List Bool} {w : List ℕ} {es : List Event} → j ≡ k → ColonRest j levels w es
    → ColonRest k levels w es
colon_at {j} {k} {levels} {w} {es} p r = subst (λ x. ColonRest x levels w es) p r

blank_key : {k b : ℕ} {levels : List Bool} {w : List ℕ} {es : List Event} → IsBlank b → KeyRest (suc k) levels w es
    → KeyRest k levels (b ∷ w) es
blank_key {k} {b} {levels} h (a_key {ws = ws} {s} {x} {w} {es} hs g r) =
    subst (λ z. KeyRest k levels (b ∷ (ws ++ (s ++ w))) (key z (z + length s) x ∷ es)) (omega arith)
    (a_key {k = k} {ws = b ∷ ws} (AreBlanks.more h hs) g (colon_at (omega arith) r))

blank_first_key : {k b : ℕ} {levels : List Bool} {w : List ℕ} {es : List Event} → IsBlank b
    → FirstKeyRest (suc k) levels w es → FirstKeyRest k levels (b ∷ w) es
blank_first_key {k} {b} {levels} h (no_key {ws = ws} {w} {es} hs r) =
    subst (λ z. FirstKeyRest k levels (b ∷ (ws ++ 125 ∷ w)) (finish z ∷ es)) (omega arith)
    (no_key {k = k} {ws = b ∷ ws} (AreBlanks.more h hs) (after_at (omega arith) refl refl r))
blank_first_key h (some_key r) = some_key (blank_key h r)

key_back : {k : ℕ} {levels : List Bool} {w : List ℕ} {es : List Event}
    → StringRest true k [] machine.plain (suc k) levels w es → KeyRest k levels (34 ∷ w) es
key_back {k} {levels} (closes {bs = bs} {x} w es c r) =
    let v : (34 ∷ (bs ++ 34 ∷ [])) ++ w ≡ 34 ∷ (bs ++ 34 ∷ w) = simp append_assoc in
    let e : k + 0 ≡ k = omega arith in
    let n : k + 0 + length (34 ∷ (bs ++ 34 ∷ [])) ≡ suc (suc k + length bs) = simp length-append (omega arith) in
    subst (λ z. KeyRest k levels z (key k (suc (suc k + length bs)) x ∷ es)) v
    (subst (λ z. KeyRest k levels ((34 ∷ (bs ++ 34 ∷ [])) ++ w) (key k z x ∷ es)) n
    (subst (λ z. KeyRest k levels ((34 ∷ (bs ++ 34 ∷ [])) ++ w) (key z (k + 0 + length (34 ∷ (bs ++ 34 ∷ []))) x ∷ es))
    e
    (a_key {k = k} {ws = []} AreBlanks.none (quoted (inside.whole_chars c))
    (colon_at (simp length-append (omega arith)) r))))

empty_back : {k : ℕ} {levels : List Bool} {w : List ℕ} {es : List Event} → AfterRest (suc k) (drop 1 levels) w es
    → FirstRest k levels (93 ∷ w) (finish k ∷ es)
empty_back {k} {levels} {w} {es} r = let e : k + 0 ≡ k = omega arith in
    subst (λ z. FirstRest k levels (93 ∷ w) (finish z ∷ es)) e
    (no_value {k = k} {ws = []} AreBlanks.none (after_at (omega arith) refl refl r))

empty_key_back : {k : ℕ} {levels : List Bool} {w : List ℕ} {es : List Event} → AfterRest (suc k) (drop 1 levels) w es
    → FirstKeyRest k levels (125 ∷ w) (finish k ∷ es)
empty_key_back {k} {levels} {w} {es} r = let e : k + 0 ≡ k = omega arith in
    subst (λ z. FirstKeyRest k levels (125 ∷ w) (finish z ∷ es)) e
    (no_key {k = k} {ws = []} AreBlanks.none (after_at (omega arith) refl refl r))

close_list : {k : ℕ} {levels : List Bool} {w : List ℕ} {es : List Event} → AfterRest (suc k) levels w es
    → AfterRest k (false ∷ levels) (93 ∷ w) (finish k ∷ es)
close_list {k} {levels} {w} {es} r = after_at refl refl (ap (λ z. finish z ∷ es) (omega arith))
    (in_list {k = k} {ws = []} {m = []} AreBlanks.none no_more (after_at (omega arith) refl refl r))

close_object : {k : ℕ} {levels : List Bool} {w : List ℕ} {es : List Event} → AfterRest (suc k) levels w es
    → AfterRest k (true ∷ levels) (125 ∷ w) (finish k ∷ es)
close_object {k} {levels} {w} {es} r = after_at refl refl (ap (λ z. finish z ∷ es) (omega arith))
    (in_object {k = k} {ws = []} {m = []} AreBlanks.none no_more_members (after_at (omega arith) refl refl r))

after_back : (k : ℕ) (levels : List Bool) (b : ℕ) (w : List ℕ) (es : List Event) (r : State × List Event)
    → after_step k levels b ≡ Some r → Back k levels after b w es r
unfolding after_step
after_back k [] b w es r e = guarded (Back k [] after b w es) (is_blank b) _ r e (λ t c. blank_after (blank_of b t) c)
after_back k (false ∷ levels) b w es r e =
    let G : (State × List Event) → Type 0 = Back k (false ∷ levels) after b w es in
    branch G (is_blank b) _ _ r e (λ t f. taken G _ r f (λ c. blank_after (blank_of b t) c))
    (λ n0 f0. branch G (b == 44) _ _ r f0
    (λ t f. taken G _ r f (λ c. let i : b ≡ 44 = grind (arith, nat_tests) in rw i (comma_list c)))
    (λ n1 f1. guarded G (b == 93) _ r f1 (λ t c. let i : b ≡ 93 = grind (arith, nat_tests) in rw i (close_list c))))
after_back k (true ∷ levels) b w es r e =
    let G : (State × List Event) → Type 0 = Back k (true ∷ levels) after b w es in
    branch G (is_blank b) _ _ r e (λ t f. taken G _ r f (λ c. blank_after (blank_of b t) c))
    (λ n0 f0. branch G (b == 44) _ _ r f0
    (λ t f. taken G _ r f (λ c. let i : b ≡ 44 = grind (arith, nat_tests) in rw i (comma_object c)))
    (λ n1 f1. guarded G (b == 125) _ r f1 (λ t c. let i : b ≡ 125 = grind (arith, nat_tests) in rw i (close_object c))))

-- a number that goes on, or ends before the byte
number_more : (k at : ℕ) (levels : List Bool) (bytes : List ℕ) (p q : Phase) (b : ℕ) (w : List ℕ) (es : List Event)
    → phase_step p b ≡ Some q → NumberRest at (bytes ++ b ∷ []) q (suc k) levels w es
    → NumberRest at bytes p k levels (b ∷ w) es
number_more k at levels bytes p q b _ _ e (ended {bs = bs} {w} {es} c r) =
    let t : bytes ++ (b ∷ bs) ≡ (bytes ++ b ∷ []) ++ bs = simp append_assoc in
    subst (λ z. NumberRest at bytes p k levels (b ∷ (bs ++ w)) (Event.number at z ∷ es)) t
    (ended {bs = b ∷ bs} (numbers.phase_back p b bs q e c) (after_at (omega arith) refl refl r))

number_ends : (k at : ℕ) (levels : List Bool) (bytes : List ℕ) (p : Phase) (w : List ℕ) (es : List Event)
    → may_end p ≡ true → AfterRest k levels w es → NumberRest at bytes p k levels w (Event.number at bytes ∷ es)
number_ends k at levels bytes p w es h r =
    subst (λ z. NumberRest at bytes p k levels w (Event.number at z ∷ es)) (append-nil bytes)
    (ended {bs = []} (numbers.phase_end p h) (after_at (omega arith) refl refl r))

front_back : (k at : ℕ) (levels : List Bool) (bytes : List ℕ) (p : Phase) (b : ℕ) (w : List ℕ) (es : List Event)
    (o : machine.Move) (r : State × List Event) → may_end p ≡ true → after_step k levels b ≡ o
    → machine.with_front (Event.number at bytes) o ≡ Some r → Back k levels (number at bytes p) b w es r
front_back k at levels bytes p b w es None r h s e = absurd (none_some r e)
front_back k at levels bytes p b w es (Some q) r h s e = taken (Back k levels (number at bytes p) b w es) _ r e
    (λ c. number_ends k at levels bytes p (b ∷ w) (q.1 ++ es) h (after_back k levels b w es q s c))

number_step_back : (k at : ℕ) (levels : List Bool) (bytes : List ℕ) (p : Phase) (b : ℕ) (w : List ℕ) (es : List Event)
    (o : Option Phase) (r : State × List Event) → phase_step p b ≡ o
    → machine.number_step k levels at bytes p b o ≡ Some r → Back k levels (number at bytes p) b w es r
number_step_back k at levels bytes p b w es (Some q) r s e =
    taken (Back k levels (number at bytes p) b w es) _ r e (λ c. number_more k at levels bytes p q b w es s c)
number_step_back k at levels bytes p b w es None r s e =
    branch (Back k levels (number at bytes p) b w es) (may_end p) _ _ r e
    (λ t f. front_back k at levels bytes p b w es (after_step k levels b) r t refl f)
    (λ t f. absurd (none_some r f))

string_more : (k at : ℕ) (levels : List Bool) (i : Bool) (text : List ℕ) (p q : machine.Within) (xs : List ℕ) (b : ℕ)
    (w : List ℕ) (es : List Event) → machine.inside_step p b ≡ Some (q, xs)
    → StringRest i at (text ++ xs) q (suc k) levels w es → StringRest i at text p k levels (b ∷ w) es
string_more k at levels i text p q xs b _ _ e (closes {bs = bs} {x} w es c r) =
    let t : text ++ (xs ++ x) ≡ (text ++ xs) ++ x = sym (append_assoc text xs x) in
    let j : suc (k + length (b ∷ bs)) ≡ suc (suc k + length bs) = omega arith in
    subst (λ z. StringRest i at text p k levels (b ∷ (bs ++ 34 ∷ w)) (string_event i at z ((text ++ xs) ++ x) ∷ es)) j
    (subst (λ z. StringRest i at text p k levels (b ∷ (bs ++ 34 ∷ w))
    (string_event i at (suc (k + length (b ∷ bs))) z ∷ es)) t
    (closes {bs = b ∷ bs} w es (inside.inside_back p b bs x (q, xs) e c)
    (subst (λ z. StringThen i z levels w es) (sym j) r)))

string_step_back : (k at : ℕ) (levels : List Bool) (i : Bool) (text : List ℕ) (p : machine.Within) (b : ℕ) (w : List ℕ)
    (es : List Event) (o : machine.Inside) (r : State × List Event) → machine.inside_step p b ≡ o
    → machine.inside_move levels i at text o ≡ Some r → Back k levels (string i at text p) b w es r
string_step_back k at levels i text p b w es None r s e = absurd (none_some r e)
string_step_back k at levels i text p b w es (Some q) r s e =
    taken (Back k levels (string i at text p) b w es) _ r e (λ c. string_more k at levels i text p q.0 q.1 b w es s c)

closing : (p : machine.Within) (b : ℕ) → (machine.may_close p && (b == 34)) ≡ true → b ≡ 34
closing machine.plain b t = grind (arith, nat_tests)
closing _ b t = absurd cc

closed : (p : machine.Within) (b : ℕ) → (machine.may_close p && (b == 34)) ≡ true → Completes p [] []
closed machine.plain b t = inside.plain AreCharacters.none
closed _ b t = absurd cc

then_of : (i : Bool) (k : ℕ) (levels : List Bool) (w : List ℕ) (es : List Event) → Rest k levels (after_string i) w es
    → StringThen i k levels w es
then_of true k levels w es r = r
then_of false k levels w es r = r

string_close : (k at : ℕ) (levels : List Bool) (i : Bool) (text : List ℕ) (p : machine.Within) (b : ℕ) (w : List ℕ)
    (es : List Event) → (machine.may_close p && (b == 34)) ≡ true → Rest (suc k) levels (after_string i) w es
    → StringRest i at text p k levels (b ∷ w) (string_event i at (suc k) text ∷ es)
string_close k at levels i text p b w es t r =
    let h : b ≡ 34 = closing p b t in
    let e : text ++ [] ≡ text = append-nil text in
    let j : suc (k + 0) ≡ suc k = omega arith in
    subst (λ z. StringRest i at text p k levels (z ∷ w) (string_event i at (suc k) text ∷ es)) (sym h)
    (subst (λ z. StringRest i at text p k levels (34 ∷ w) (string_event i at z text ∷ es)) j
    (subst (λ z. StringRest i at text p k levels (34 ∷ w) (string_event i at (suc (k + 0)) z ∷ es)) e
    (closes {bs = []} w es (closed p b t)
    (subst (λ z. StringThen i z levels w es) (sym j) (then_of i (suc k) levels w es r)))))

literal_more : (k : ℕ) (levels : List Bool) (b c : ℕ) (cs : List ℕ) (v : Event) (w : List ℕ) (es : List Event)
    → LiteralRest c cs v (suc k) levels w es → LiteralRest b (c ∷ cs) v k levels (b ∷ w) es
literal_more k levels b c cs v w es (spelled r) = spelled (after_at (omega arith) refl refl r)

literal_back : (k : ℕ) (levels : List Bool) (b : ℕ) (bs : List ℕ) (v : Event) (w : List ℕ) (es : List Event)
    (r : State × List Event) → machine.literal_step levels bs v ≡ Some r → Back k levels (literal b bs v) b w es r
literal_back k levels b [] v w es r e =
    taken (Back k levels (literal b [] v) b w es) _ r e (λ c. spelled (after_at (omega arith) refl refl c))
literal_back k levels b (c ∷ cs) v w es r e =
    taken (Back k levels (literal b (c ∷ cs) v) b w es) _ r e (λ q. literal_more k levels b c cs v w es q)

step_back : (k : ℕ) (levels : List Bool) (m : Mode) (b : ℕ) (w : List ℕ) (es : List Event) (r : State × List Event)
    → step k levels m b ≡ Some r → Back k levels m b w es r
unfolding step
step_back k levels want b w es r e =
    branch (Back k levels want b w es) (is_blank b) _ _ r e
    (λ t f. taken (Back k levels want b w es) _ r f (λ c. blank_want (blank_of b t) c))
    (λ n f. value_back k levels b w es r f)
step_back k levels first b w es r e =
    let G : (State × List Event) → Type 0 = Back k levels first b w es in
    branch G (is_blank b) _ _ r e (λ t f. taken G _ r f (λ c. blank_first (blank_of b t) c))
    (λ n0 f0. branch G (b == 93) _ _ r f0
    (λ t f. taken G _ r f (λ c. let i : b ≡ 93 = grind (arith, nat_tests) in rw i (empty_back c)))
    (λ n1 f1 c. a_value (value_back k levels b w es r f1 c)))
step_back k levels first_key b w es r e =
    let G : (State × List Event) → Type 0 = Back k levels first_key b w es in
    branch G (is_blank b) _ _ r e (λ t f. taken G _ r f (λ c. blank_first_key (blank_of b t) c))
    (λ n0 f0. branch G (b == 125) _ _ r f0
    (λ t f. taken G _ r f (λ c. let i : b ≡ 125 = grind (arith, nat_tests) in rw i (empty_key_back c)))
    (λ n1 f1. guarded G (b == 34) _ r f1 (λ t c. let i : b ≡ 34 = grind (arith, nat_tests) in
    rw i (some_key (key_back c)))))
step_back k levels next_key b w es r e =
    let G : (State × List Event) → Type 0 = Back k levels next_key b w es in
    branch G (is_blank b) _ _ r e (λ t f. taken G _ r f (λ c. blank_key (blank_of b t) c))
    (λ n1 f1. guarded G (b == 34) _ r f1 (λ t c. let i : b ≡ 34 = grind (arith, nat_tests) in rw i (key_back c)))
step_back k levels colon b w es r e =
    let G : (State × List Event) → Type 0 = Back k levels colon b w es in
    branch G (is_blank b) _ _ r e (λ t f. taken G _ r f (λ c. blank_colon (blank_of b t) c))
    (λ n1 f1. guarded G (b == 58) _ r f1 (λ t c. let i : b ≡ 58 = grind (arith, nat_tests) in
    rw i (comes {k = k} {ws = []} AreBlanks.none (want_at (omega arith) refl refl c))))
step_back k levels after b w es r e = after_back k levels b w es r e
step_back k levels (literal c cs v) b w es r e =
    branch (Back k levels (literal c cs v) b w es) (b == c) _ _ r e (λ t f. let i : b ≡ c = grind (arith, nat_tests) in
    rw i (literal_back k levels c cs v w es r f)) (λ n f. absurd (none_some r f))
step_back k levels (number at bytes p) b w es r e =
    number_step_back k at levels bytes p b w es (phase_step p b) r refl e
step_back k levels (string i at text p) b w es r e =
    let G : (State × List Event) → Type 0 = Back k levels (string i at text p) b w es in
    branch G (machine.may_close p && (b == 34)) _ _ r e
    (λ t f. taken G _ r f (λ c. string_close k at levels i text p b w es t c))
    (λ n f. string_step_back k at levels i text p b w es (machine.inside_step p b) r refl f)

ending_back : (k : ℕ) (levels : List Bool) (m : Mode) (es : List Event) → ending levels m ≡ Some es
    → Rest k levels m [] es
unfolding ending
ending_back k [] after es e = let h : [] ≡ es = cc in subst (λ z. AfterRest k [] [] z) h (top AreBlanks.none)
ending_back k [] (number at bytes p) es e = guarded (λ z. NumberRest at bytes p k [] [] z) (may_end p) _ es e
    (λ t. number_ends k at [] bytes p [] [] t (top AreBlanks.none))
ending_back k [] want es e = absurd cc
ending_back k [] first es e = absurd cc
ending_back k [] first_key es e = absurd cc
ending_back k [] next_key es e = absurd cc
ending_back k [] colon es e = absurd cc
ending_back k [] (literal c rest v) es e = absurd cc
ending_back k [] (string i at text p) es e = absurd cc
ending_back k (l ∷ levels) m es e = absurd cc

pub rest_of : {k : ℕ} {s : State} {w : List ℕ} {es : List Event} → Reads k s w es → Rest k s.levels s.mode w es
rest_of {k} (ends {levels} {mode} {es} e) = ending_back k levels mode es e
rest_of {k} (then {b} {levels} {mode} {s} {bs} {es} {fs} e r) = step_back k levels mode b bs fs (s, es) e (rest_of r)

-- a text that is read whole is in the grammar, with the tree of the events
pub record Written (bytes : List ℕ) (es : List Event) : Type 0 where
  pub tree : Tree
  pub text : IsElement 0 bytes tree
  pub events : events_of tree ≡ es

written : {bytes : List ℕ} {es : List Event} → WantRest 0 [] bytes es → Written bytes es
written (wanted {t = t} h g (top f)) =
    record { tree = t; text = element h g f; events = sym (append-nil (events_of t)) }

pub reads_text : {bytes : List ℕ} {es : List Event} → Reads 0 (st [] want) bytes es → Written bytes es
reads_text r = written (rest_of r)
