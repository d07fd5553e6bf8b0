-- The levels of the machine are those of the tree.
use Rattle.std.specs.Prelude.{◌==◌, ◌&&◌}
use Rattle.std.proofs.Common.{◌≡◌, ℕ, zero, suc, pred, ◌+◌, ◌≤◌, List, [], ◌∷◌, ◌++◌, length, drop, Bool, true, false}
use Rattle.std.proofs.Common.{Option, Some, None, refl, sym, ◌∙◌, ap, append_assoc, append-nil, arith}
use Rattle.json_grammar.specs.Tree.{Tree, tree, Node, Trees, no_trees, and_tree, Members, no_members, and_member, Event}
use Rattle.json_grammar.specs.Tree.{begin, finish, key, events_of, node_events, trees_events, members_events}
use Rattle.json_grammar.specs.Prefix.{deeper, or_else, first_past, node_first_past, trees_first_past}
use Rattle.json_grammar.specs.Prefix.{members_first_past}
use Rattle.json_grammar.specs.laws.Machine.{Phase, Mode, want, first, first_key, next_key, colon, after, literal}
use Rattle.json_grammar.specs.laws.Machine.{number}
use Rattle.json_grammar.specs.laws.Machine.{string, State, st, is_blank, is_digit, may_end, step, value_step}
use Rattle.json_grammar.specs.laws.Machine.{after_step}
use Rattle.json_grammar.specs.laws.Machine.{phase_step, after_string, string_event}
use Rattle.json_grammar.specs.laws.Machine as machine
use Rattle.json_grammar.proofs.Choices.{branch, taken, guarded, none_some}

abbrev pub scan : ℕ → List Event → Option ℕ
scan n [] = None
scan n (begin at o ∷ es) = deeper n at (λ m. scan m es)
scan n (finish at ∷ es) = scan (suc n) es
scan n (key at end x ∷ es) = scan n es
scan n (Event.null at ∷ es) = scan n es
scan n (Event.boolean at b ∷ es) = scan n es
scan n (Event.number at x ∷ es) = scan n es
scan n (Event.text at end x ∷ es) = scan n es

or_else_assoc : (a b c : Option ℕ) → or_else (or_else a b) c ≡ or_else a (or_else b c)
or_else_assoc None b c = refl
or_else_assoc (Some x) b c = refl

or_else_none : (a : Option ℕ) → or_else a None ≡ a
or_else_none None = refl
or_else_none (Some x) = refl

mutual
  scan_tree : (t : Tree) (n : ℕ) (fs : List Event) → scan n (events_of t ++ fs) ≡ or_else (first_past n t) (scan n fs)
  scan_tree (tree at end node) n fs = scan_node node at end n fs

  scan_node : (x : Node) (at end n : ℕ) (fs : List Event)
      → scan n (node_events at end x ++ fs) ≡ or_else (node_first_past n at x) (scan n fs)
  scan_node Node.null at end n fs = refl
  scan_node (Node.boolean b) at end n fs = refl
  scan_node (Node.number s) at end n fs = refl
  scan_node (Node.text s) at end n fs = refl
  scan_node (Node.list ts) at end zero fs = refl
  scan_node (Node.list ts) at end (suc n) fs =
      ap (scan n) (append_assoc (trees_events ts) (finish (pred end) ∷ []) fs)
      ∙ scan_trees ts n (finish (pred end) ∷ fs)
  scan_node (Node.object ms) at end zero fs = refl
  scan_node (Node.object ms) at end (suc n) fs = ap (scan n) (append_assoc (members_events ms) (finish (pred end) ∷ [])
      fs) ∙ scan_members ms n (finish (pred end) ∷ fs)

  scan_trees : (ts : Trees) (n : ℕ) (fs : List Event)
      → scan n (trees_events ts ++ fs) ≡ or_else (trees_first_past n ts) (scan n fs)
  scan_trees no_trees n fs = refl
  scan_trees (and_tree t ts) n fs = ap (scan n) (append_assoc (events_of t) (trees_events ts) fs)
      ∙ (scan_tree t n (trees_events ts ++ fs) ∙ ap (or_else (first_past n t)) (scan_trees ts n fs)
      ∙ sym (or_else_assoc (first_past n t) (trees_first_past n ts) (scan n fs)))

  scan_members : (ms : Members) (n : ℕ) (fs : List Event)
      → scan n (members_events ms ++ fs) ≡ or_else (members_first_past n ms) (scan n fs)
  scan_members no_members n fs = refl
  scan_members (and_member at end k t ms) n fs = ap (scan n) (append_assoc (events_of t) (members_events ms) fs)
      ∙ (scan_tree t n (members_events ms ++ fs) ∙ ap (or_else (first_past n t)) (scan_members ms n fs)
      ∙ sym (or_else_assoc (first_past n t) (members_first_past n ms) (scan n fs)))

pub deep_is : (t : Tree) (n : ℕ) → first_past n t ≡ scan n (events_of t)
deep_is t n = sym (or_else_none (first_past n t)) ∙ sym (scan_tree t n []) ∙ ap (scan n) (append-nil (events_of t))

-- an event that opens and closes nothing
abbrev IsScalar : Event → Type 0
IsScalar (begin at o) = ⊥
IsScalar (finish at) = ⊥
IsScalar (key at end x) = Unit {0}
IsScalar (Event.null at) = Unit {0}
IsScalar (Event.boolean at b) = Unit {0}
IsScalar (Event.number at x) = Unit {0}
IsScalar (Event.text at end x) = Unit {0}

abbrev IsOpen : List Bool → Type 0
IsOpen [] = ⊥
IsOpen (l ∷ levels) = Unit {0}

abbrev pub Fits : List Bool → Mode → Type 0
Fits levels first = IsOpen levels
Fits levels first_key = IsOpen levels
Fits levels (literal b bs e) = IsScalar e
Fits levels want = Unit {0}
Fits levels next_key = Unit {0}
Fits levels colon = Unit {0}
Fits levels after = Unit {0}
Fits levels (number at bytes p) = Unit {0}
Fits levels (string i at text p) = Unit {0}

-- what a byte does to the levels
pub data Moved (k : ℕ) : List Bool → List Bool → List Event → Type 0 where
  quiet : {levels : List Bool} → Moved k levels levels []
  scalar : {levels : List Bool} {e : Event} → IsScalar e → Moved k levels levels (e ∷ [])
  opens : {levels : List Bool} (o : Bool) → Moved k levels (o ∷ levels) (begin k o ∷ [])
  closes : {l : Bool} {levels : List Bool} → Moved k (l ∷ levels) levels (finish k ∷ [])
  closes_number : {l : Bool} {levels : List Bool} (at : ℕ) (bytes : List ℕ)
      → Moved k (l ∷ levels) levels (Event.number at bytes ∷ finish k ∷ [])

abbrev Goes : ℕ → List Bool → (State × List Event) → Type 0
Goes k levels r = Moved k levels r.0.levels r.1 × Fits r.0.levels r.0.mode

value_goes : (k : ℕ) (levels : List Bool) (b : ℕ) (r : State × List Event)
    → value_step k levels b ≡ Some r → Goes k levels r
unfolding value_step
value_goes k levels b r e =
    let G : (State × List Event) → Type 0 = Goes k levels in
    branch G (b == 91) _ _ r e (λ t f. taken G _ r f (opens false, tt))
    (λ n0 f0. branch G (b == 123) _ _ r f0 (λ t f. taken G _ r f (opens true, tt))
    (λ n1 f1. branch G (b == 34) _ _ r f1 (λ t f. taken G _ r f (quiet, tt))
    (λ n2 f2. branch G (b == 45) _ _ r f2 (λ t f. taken G _ r f (quiet, tt))
    (λ n3 f3. branch G (b == 48) _ _ r f3 (λ t f. taken G _ r f (quiet, tt))
    (λ n4 f4. branch G (is_digit b) _ _ r f4 (λ t f. taken G _ r f (quiet, tt))
    (λ n5 f5. branch G (b == 110) _ _ r f5 (λ t f. taken G _ r f (quiet, tt))
    (λ n6 f6. branch G (b == 116) _ _ r f6 (λ t f. taken G _ r f (quiet, tt))
    (λ n7 f7. guarded G (b == 102) _ r f7 (λ t. (quiet, tt))))))))))

-- the same behind a value: at most one level closes
data AfterMoved (k : ℕ) : List Bool → List Bool → List Event → Type 0 where
  stays : {levels : List Bool} → AfterMoved k levels levels []
  leaves : {l : Bool} {levels : List Bool} → AfterMoved k (l ∷ levels) levels (finish k ∷ [])

abbrev AfterGoes : ℕ → List Bool → (State × List Event) → Type 0
AfterGoes k levels r = AfterMoved k levels r.0.levels r.1 × Fits r.0.levels r.0.mode

after_goes : (k : ℕ) (levels : List Bool) (b : ℕ) (r : State × List Event)
    → after_step k levels b ≡ Some r → AfterGoes k levels r
unfolding after_step
after_goes k [] b r e = guarded (AfterGoes k []) (is_blank b) _ r e (λ t. (stays, tt))
after_goes k (false ∷ levels) b r e =
    let G : (State × List Event) → Type 0 = AfterGoes k (false ∷ levels) in
    branch G (is_blank b) _ _ r e (λ t f. taken G _ r f (stays, tt))
    (λ n0 f0. branch G (b == 44) _ _ r f0 (λ t f. taken G _ r f (stays, tt))
    (λ n1 f1. guarded G (b == 93) _ r f1 (λ t. (leaves, tt))))
after_goes k (true ∷ levels) b r e =
    let G : (State × List Event) → Type 0 = AfterGoes k (true ∷ levels) in
    branch G (is_blank b) _ _ r e (λ t f. taken G _ r f (stays, tt))
    (λ n0 f0. branch G (b == 44) _ _ r f0 (λ t f. taken G _ r f (stays, tt))
    (λ n1 f1. guarded G (b == 125) _ r f1 (λ t. (leaves, tt))))

plain_after : {k : ℕ} {a b : List Bool} {es : List Event} → AfterMoved k a b es → Moved k a b es
plain_after stays = quiet
plain_after leaves = closes

number_after : {k : ℕ} {a b : List Bool} {es : List Event} (at : ℕ) (bytes : List ℕ) → AfterMoved k a b es
    → Moved k a b (Event.number at bytes ∷ es)
number_after at bytes stays = scalar tt
number_after at bytes leaves = closes_number at bytes

closing_goes : (k : ℕ) (levels : List Bool) → IsOpen levels → Moved k levels (drop 1 levels) (finish k ∷ [])
closing_goes k [] h = absurd h
closing_goes k (l ∷ levels) h = closes

string_goes : (i : Bool) (k at : ℕ) (levels : List Bool) (text : List ℕ)
    → Goes k levels (st levels (after_string i), string_event i at (suc k) text ∷ [])
string_goes true k at levels text = (scalar tt, tt)
string_goes false k at levels text = (scalar tt, tt)

literal_goes : (k : ℕ) (levels : List Bool) (bs : List ℕ) (e : Event) (r : State × List Event) → IsScalar e
    → machine.literal_step levels bs e ≡ Some r → Goes k levels r
literal_goes k levels [] e r h f = taken (Goes k levels) _ r f (scalar h, tt)
literal_goes k levels (b ∷ bs) e r h f = taken (Goes k levels) _ r f (quiet, h)

front_goes : (k at : ℕ) (levels : List Bool) (bytes : List ℕ) (b : ℕ) (o : machine.Move) (r : State × List Event)
    → after_step k levels b ≡ o → machine.with_front (Event.number at bytes) o ≡ Some r → Goes k levels r
front_goes k at levels bytes b None r h e = absurd (none_some r e)
front_goes k at levels bytes b (Some q) r h e = let g = after_goes k levels b q h in
    taken (Goes k levels) _ r e (number_after at bytes g.0, g.1)

number_goes : (k at : ℕ) (levels : List Bool) (bytes : List ℕ) (p : Phase) (b : ℕ) (o : Option Phase)
    (r : State × List Event) → machine.number_step k levels at bytes p b o ≡ Some r → Goes k levels r
number_goes k at levels bytes p b (Some q) r e = taken (Goes k levels) _ r e (quiet, tt)
number_goes k at levels bytes p b None r e = branch (Goes k levels) (may_end p) _ _ r e
    (λ t f. front_goes k at levels bytes b (after_step k levels b) r refl f) (λ t f. absurd (none_some r f))

inside_goes : (k at : ℕ) (levels : List Bool) (i : Bool) (text : List ℕ) (o : machine.Inside) (r : State × List Event)
    → machine.inside_move levels i at text o ≡ Some r → Goes k levels r
inside_goes k at levels i text None r e = absurd (none_some r e)
inside_goes k at levels i text (Some q) r e = taken (Goes k levels) _ r e (quiet, tt)

pub step_goes : (k : ℕ) (levels : List Bool) (m : Mode) (b : ℕ) (r : State × List Event) → Fits levels m
    → step k levels m b ≡ Some r → Goes k levels r
unfolding step
step_goes k levels want b r h e = branch (Goes k levels) (is_blank b) _ _ r e
    (λ t f. taken (Goes k levels) _ r f (quiet, tt)) (λ n f. value_goes k levels b r f)
step_goes k levels first b r h e =
    branch (Goes k levels) (is_blank b) _ _ r e (λ t f. taken (Goes k levels) _ r f (quiet, h))
    (λ n0 f0. branch (Goes k levels) (b == 93) _ _ r f0
    (λ t f. taken (Goes k levels) _ r f (closing_goes k levels h, tt)) (λ n f. value_goes k levels b r f))
step_goes k levels first_key b r h e =
    branch (Goes k levels) (is_blank b) _ _ r e (λ t f. taken (Goes k levels) _ r f (quiet, h))
    (λ n0 f0. branch (Goes k levels) (b == 125) _ _ r f0
    (λ t f. taken (Goes k levels) _ r f (closing_goes k levels h, tt))
    (λ n f. guarded (Goes k levels) (b == 34) _ r f (λ t. (quiet, tt))))
step_goes k levels next_key b r h e = branch (Goes k levels) (is_blank b) _ _ r e
    (λ t f. taken (Goes k levels) _ r f (quiet, tt)) (λ n f. guarded (Goes k levels) (b == 34) _ r f (λ t. (quiet, tt)))
step_goes k levels colon b r h e = branch (Goes k levels) (is_blank b) _ _ r e
    (λ t f. taken (Goes k levels) _ r f (quiet, tt)) (λ n f. guarded (Goes k levels) (b == 58) _ r f (λ t. (quiet, tt)))
step_goes k levels after b r h e = let g = after_goes k levels b r e in (plain_after g.0, g.1)
step_goes k levels (literal c cs v) b r h e =
    branch (Goes k levels) (b == c) _ _ r e (λ t f. literal_goes k levels cs v r h f) (λ n f. absurd (none_some r f))
step_goes k levels (number at bytes p) b r h e = number_goes k at levels bytes p b (phase_step p b) r e
step_goes k levels (string i at text p) b r h e =
    branch (Goes k levels) (machine.may_close p && (b == 34)) _ _ r e
    (λ t f. taken (Goes k levels) _ r f (string_goes i k at levels text))
    (λ n f. inside_goes k at levels i text (machine.inside_step p b) r f)

scan_scalar : (e : Event) → IsScalar e → (n : ℕ) (fs : List Event) → scan n (e ∷ fs) ≡ scan n fs
scan_scalar (begin at o) h n fs = absurd h
scan_scalar (finish at) h n fs = absurd h
scan_scalar (key at end x) h n fs = refl
scan_scalar (Event.null at) h n fs = refl
scan_scalar (Event.boolean at b) h n fs = refl
scan_scalar (Event.number at x) h n fs = refl
scan_scalar (Event.text at end x) h n fs = refl

-- with room for n more levels, a byte takes one, gives one back, or is the fault
pub data Scanned (k n : ℕ) (b : List Bool) (es : List Event) : Type 0 where
  too_deep : ((fs : List Event) → scan n (es ++ fs) ≡ Some k) → length b ≡ 17 → Scanned k n b es
  goes : (m : ℕ) → m + length b ≡ 16 → ((fs : List Event) → scan n (es ++ fs) ≡ scan m fs) → Scanned k n b es

opened : (k n : ℕ) (o : Bool) (a : List Bool) → n + length a ≡ 16 → Scanned k n (o ∷ a) (begin k o ∷ [])
opened k zero o a h = too_deep (λ fs. refl) (omega arith)
opened k (suc n) o a h = goes n (omega arith) (λ fs. refl)

pub scanned : {k : ℕ} {a b : List Bool} {es : List Event} (n : ℕ) → n + length a ≡ 16
    → Moved k a b es → Scanned k n b es
scanned n h quiet = goes n h (λ fs. refl)
scanned n h (scalar {e = e} s) = goes n h (scan_scalar e s n)
scanned {k} n h (opens {levels} o) = opened k n o levels h
scanned n h (closes {levels = levels}) = goes (suc n) (omega arith) (λ fs. refl)
scanned n h (closes_number {levels = levels} at bytes) = goes (suc n) (omega arith) (λ fs. refl)

-- the levels that are open behind the bytes p, with what was told there
pub record Levelled (s : State) (es : List Event) : Type 0 where
  pub room : ℕ
  pub open_levels : room + length s.levels ≡ 16
  pub scans : (fs : List Event) → scan 16 (es ++ fs) ≡ scan room fs
  pub fits : Fits s.levels s.mode

pub levelled : Levelled (st [] want) []
levelled = record { room = 16; open_levels = refl; scans = λ fs. refl; fits = tt }

joins : (n m : ℕ) (es more : List Event) → ((fs : List Event) → scan 16 (es ++ fs) ≡ scan n fs)
    → ((fs : List Event) → scan n (more ++ fs) ≡ scan m fs) → (fs : List Event)
    → scan 16 ((es ++ more) ++ fs) ≡ scan m fs
joins n m es more a b fs = ap (scan 16) (append_assoc es more fs) ∙ a (more ++ fs) ∙ b fs

-- one byte more: at most 16 levels are open, or the byte at k opens the 17th
pub data Deeper (k : ℕ) (t : State) (es : List Event) : Type 0 where
  within : Levelled t es → Deeper k t es
  beyond : length t.levels ≡ 17 → ((fs : List Event) → scan 16 (es ++ fs) ≡ Some k) → Deeper k t es

deeper_of : (k : ℕ) (s t : State) (es more : List Event) (l : Levelled s es) → Scanned k l.room t.levels more
    → Fits t.levels t.mode → Deeper k t (es ++ more)
deeper_of k s t es more l (goes m h c) f =
    within (record { room = m; open_levels = h; scans = joins l.room m es more l.scans c; fits = f })
deeper_of k s t es more l (too_deep c h) f =
    beyond h (λ fs. ap (scan 16) (append_assoc es more fs) ∙ l.scans (more ++ fs) ∙ c fs)

pub one_deeper : (k : ℕ) (s t : State) (b : ℕ) (es more : List Event) → Levelled s es
    → step k s.levels s.mode b ≡ Some (t, more) → Deeper k t (es ++ more)
one_deeper k s t b es more l e =
    let g = step_goes k s.levels s.mode b (t, more) l.fits e in
    deeper_of k s t es more l (scanned l.room l.open_levels g.0) g.1

-- later events open at later offsets
moved_late : {k : ℕ} {a b : List Bool} {es : List Event} (n : ℕ) (fs : List Event) → Moved k a b es
    → ((m d : ℕ) → scan m fs ≡ Some d → suc k ≤ d) → (d : ℕ) → scan n (es ++ fs) ≡ Some d → k ≤ d
moved_late {k} n fs quiet late d e = let h = late n d e in omega arith
moved_late {k} n fs (scalar {e = v} s) late d e = let h = late n d (sym (scan_scalar v s n fs) ∙ e) in omega arith
moved_late {k} zero fs (opens o) late d e = let h : k ≡ d = cc in omega arith
moved_late {k} (suc n) fs (opens o) late d e = let h = late n d e in omega arith
moved_late {k} n fs closes late d e = let h = late (suc n) d e in omega arith
moved_late {k} n fs (closes_number at bytes) late d e = let h = late (suc n) d e in omega arith

ending_late : (n d k : ℕ) (levels : List Bool) (m : Mode) (es : List Event) → machine.ending levels m ≡ Some es
    → scan n es ≡ Some d → k ≤ d
unfolding machine.ending
ending_late n d k [] after es e h = absurd (none_some d (ap (scan n) (let i : [] ≡ es = cc in i) ∙ h))
ending_late n d k [] (number at bytes p) es e h =
    absurd (none_some d (guarded (λ es. None ≡ scan n es) (may_end p) _ es e (λ t. refl) ∙ h))
ending_late n d k [] want es e h = absurd cc
ending_late n d k [] first es e h = absurd cc
ending_late n d k [] first_key es e h = absurd cc
ending_late n d k [] next_key es e h = absurd cc
ending_late n d k [] colon es e h = absurd cc
ending_late n d k [] (literal c rest v) es e h = absurd cc
ending_late n d k [] (string i at text p) es e h = absurd cc
ending_late n d k (l ∷ levels) m es e h = absurd cc

pub late : {k : ℕ} {s : State} {w : List ℕ} {es : List Event} → machine.Reads k s w es → Fits s.levels s.mode
    → (n d : ℕ) → scan n es ≡ Some d → k ≤ d
late {k} (machine.ends {levels} {mode} {es} e) f n d h = ending_late n d k levels mode es e h
late {k} (machine.then {b} {levels} {mode} {s} {bs} {es} {fs} e r) f n d h =
    let g = step_goes k levels mode b (s, es) f e in
    moved_late n fs g.0 (λ m d i. late r g.1 m d i) d h

-- nothing opens at the end
pub ending_scan : (n k : ℕ) (levels : List Bool) (m : Mode) (es : List Event)
    → machine.ending levels m ≡ Some es → scan n es ≡ None
ending_scan n k levels m es e = go (scan n es) refl
  where
    go : (o : Option ℕ) → scan n es ≡ o → o ≡ None
    go None h = refl
    go (Some d) h = absurd (let l = ending_late n d (suc d) levels m es e h in omega arith)
