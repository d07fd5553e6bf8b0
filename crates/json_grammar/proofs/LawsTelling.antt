-- Each event is told with the byte that makes it due, and by no byte before.
use Rattle.std.specs.Prelude.{◌==◌, ◌&&◌, nat_le, filter}
use Rattle.std.proofs.Common.{◌≡◌, ℕ, suc, ◌+◌, ◌≤◌, ◌<◌, List, [], ◌∷◌, ◌++◌, length, Bool, true, false, Option, Some}
use Rattle.std.proofs.Common.{None, refl, ◌∙◌, ap, subst, append-nil, length-append, arith}
use Rattle.std.proofs.lemmas.Bool.Decides.{nat_tests}
use Rattle.std.proofs.lemmas.List.Elements.{filter-append}
use Rattle.json_grammar.specs.Tree.{Event}
use Rattle.json_grammar.specs.Stream.{telling}
use Rattle.json_grammar.specs.laws.Machine.{Phase, Mode, want, first, first_key, next_key, colon, after, literal}
use Rattle.json_grammar.specs.laws.Machine.{number}
use Rattle.json_grammar.specs.laws.Machine.{string, State, st, is_blank, is_digit, may_end, step, value_step}
use Rattle.json_grammar.specs.laws.Machine.{after_step}
use Rattle.json_grammar.specs.laws.Machine.{phase_step, after_string, string_event, ending, Reads, ends, then}
use Rattle.json_grammar.specs.laws.Machine as machine
use Rattle.json_grammar.proofs.Choices.{branch, taken, guarded, none_some}

-- what holds of each event
abbrev pub Each : (Event → Type 0) → List Event → Type 0
Each P [] = Unit {0}
Each P (e ∷ es) = P e × Each P es

pub Each-append : (P : Event → Type 0) (a b : List Event) → Each P a → Each P b → Each P (a ++ b)
Each-append P [] b h g = g
Each-append P (e ∷ a) b h g = (h.0, Each-append P a b h.1 g)

pub Each-weaker : (P Q : Event → Type 0) → ((e : Event) → P e → Q e) → (es : List Event) → Each P es → Each Q es
Each-weaker P Q f [] h = tt
Each-weaker P Q f (e ∷ es) h = (f e h.0, Each-weaker P Q f es h.1)

-- what is begun is told where its bytes end
abbrev pub Placed : ℕ → Mode → Type 0
Placed k want = Unit {0}
Placed k first = Unit {0}
Placed k first_key = Unit {0}
Placed k next_key = Unit {0}
Placed k colon = Unit {0}
Placed k after = Unit {0}
Placed k (literal b bs e) = telling e ≡ suc (k + length bs)
Placed k (number at bytes p) = at + length bytes ≡ k
Placed k (string i at text p) = Unit {0}

-- told by the byte at k
abbrev ToldAt : ℕ → Event → Type 0
ToldAt k e = telling e ≡ suc k

abbrev Tells : ℕ → (State × List Event) → Type 0
Tells k r = Placed (suc k) r.0.mode × Each (ToldAt k) r.1

value_tells : (k : ℕ) (levels : List Bool) (b : ℕ) (r : State × List Event) → value_step k levels b ≡ Some r → Tells k r
unfolding value_step
value_tells k levels b r e =
    let G : (State × List Event) → Type 0 = Tells k in
    branch G (b == 91) _ _ r e (λ t f. taken G _ r f (tt, (omega arith, tt)))
    (λ n0 f0. branch G (b == 123) _ _ r f0 (λ t f. taken G _ r f (tt, (omega arith, tt)))
    (λ n1 f1. branch G (b == 34) _ _ r f1 (λ t f. taken G _ r f (tt, tt))
    (λ n2 f2. branch G (b == 45) _ _ r f2 (λ t f. taken G _ r f (omega arith, tt))
    (λ n3 f3. branch G (b == 48) _ _ r f3 (λ t f. taken G _ r f (omega arith, tt))
    (λ n4 f4. branch G (is_digit b) _ _ r f4 (λ t f. taken G _ r f (omega arith, tt))
    (λ n5 f5. branch G (b == 110) _ _ r f5 (λ t f. taken G _ r f (omega arith, tt))
    (λ n6 f6. branch G (b == 116) _ _ r f6 (λ t f. taken G _ r f (omega arith, tt))
    (λ n7 f7. guarded G (b == 102) _ r f7 (λ t. (omega arith, tt))))))))))

after_tells : (k : ℕ) (levels : List Bool) (b : ℕ) (r : State × List Event) → after_step k levels b ≡ Some r → Tells k r
unfolding after_step
after_tells k [] b r e = guarded (Tells k) (is_blank b) _ r e (λ t. (tt, tt))
after_tells k (false ∷ levels) b r e =
    let G : (State × List Event) → Type 0 = Tells k in
    branch G (is_blank b) _ _ r e (λ t f. taken G _ r f (tt, tt))
    (λ n0 f0. branch G (b == 44) _ _ r f0 (λ t f. taken G _ r f (tt, tt))
    (λ n1 f1. guarded G (b == 93) _ r f1 (λ t. (tt, (omega arith, tt)))))
after_tells k (true ∷ levels) b r e =
    let G : (State × List Event) → Type 0 = Tells k in
    branch G (is_blank b) _ _ r e (λ t f. taken G _ r f (tt, tt))
    (λ n0 f0. branch G (b == 44) _ _ r f0 (λ t f. taken G _ r f (tt, tt))
    (λ n1 f1. guarded G (b == 125) _ r f1 (λ t. (tt, (omega arith, tt)))))

string_tells : (i : Bool) (k at : ℕ) (levels : List Bool) (text : List ℕ)
    → Tells k (st levels (after_string i), string_event i at (suc k) text ∷ [])
string_tells true k at levels text = (tt, (refl, tt))
string_tells false k at levels text = (tt, (refl, tt))

literal_tells : (k : ℕ) (levels : List Bool) (b : ℕ) (bs : List ℕ) (e : Event) (r : State × List Event)
    → Placed k (literal b bs e) → machine.literal_step levels bs e ≡ Some r → Tells k r
literal_tells k levels b [] e r h f = taken (Tells k) _ r f (tt, (h ∙ omega arith, tt))
literal_tells k levels b (c ∷ cs) e r h f = taken (Tells k) _ r f (h ∙ omega arith, tt)

front_tells : (k at : ℕ) (levels : List Bool) (bytes : List ℕ) (b : ℕ) (o : machine.Move) (r : State × List Event)
    → at + length bytes ≡ k → after_step k levels b ≡ o
    → machine.with_front (Event.number at bytes) o ≡ Some r → Tells k r
front_tells k at levels bytes b None r p h e = absurd (none_some r e)
front_tells k at levels bytes b (Some q) r p h e = let g = after_tells k levels b q h in
    taken (Tells k) _ r e (g.0, (omega arith, g.1))

number_tells : (k at : ℕ) (levels : List Bool) (bytes : List ℕ) (p : Phase) (b : ℕ) (o : Option Phase)
    (r : State × List Event) → at + length bytes ≡ k → machine.number_step k levels at bytes p b o ≡ Some r → Tells k r
number_tells k at levels bytes p b (Some q) r h e =
    taken (Tells k) _ r e (omega (arith, length-append bytes (b ∷ [])), tt)
number_tells k at levels bytes p b None r h e = branch (Tells k) (may_end p) _ _ r e
    (λ t f. front_tells k at levels bytes b (after_step k levels b) r h refl f) (λ t f. absurd (none_some r f))

inside_tells : (k at : ℕ) (levels : List Bool) (i : Bool) (text : List ℕ) (o : machine.Inside) (r : State × List Event)
    → machine.inside_move levels i at text o ≡ Some r → Tells k r
inside_tells k at levels i text None r e = absurd (none_some r e)
inside_tells k at levels i text (Some q) r e = taken (Tells k) _ r e (tt, tt)

pub step_tells : (k : ℕ) (levels : List Bool) (m : Mode) (b : ℕ) (r : State × List Event) → Placed k m
    → step k levels m b ≡ Some r → Tells k r
unfolding step
step_tells k levels want b r h e =
    branch (Tells k) (is_blank b) _ _ r e (λ t f. taken (Tells k) _ r f (tt, tt)) (λ n f. value_tells k levels b r f)
step_tells k levels first b r h e =
    branch (Tells k) (is_blank b) _ _ r e (λ t f. taken (Tells k) _ r f (tt, tt))
    (λ n0 f0. branch (Tells k) (b == 93) _ _ r f0 (λ t f. taken (Tells k) _ r f (tt, (omega arith, tt)))
    (λ n f. value_tells k levels b r f))
step_tells k levels first_key b r h e =
    branch (Tells k) (is_blank b) _ _ r e (λ t f. taken (Tells k) _ r f (tt, tt))
    (λ n0 f0. branch (Tells k) (b == 125) _ _ r f0 (λ t f. taken (Tells k) _ r f (tt, (omega arith, tt)))
    (λ n f. guarded (Tells k) (b == 34) _ r f (λ t. (tt, tt))))
step_tells k levels next_key b r h e = branch (Tells k) (is_blank b) _ _ r e (λ t f. taken (Tells k) _ r f (tt, tt))
    (λ n f. guarded (Tells k) (b == 34) _ r f (λ t. (tt, tt)))
step_tells k levels colon b r h e = branch (Tells k) (is_blank b) _ _ r e (λ t f. taken (Tells k) _ r f (tt, tt))
    (λ n f. guarded (Tells k) (b == 58) _ r f (λ t. (tt, tt)))
step_tells k levels after b r h e = after_tells k levels b r e
step_tells k levels (literal c cs v) b r h e =
    branch (Tells k) (b == c) _ _ r e (λ t f. literal_tells k levels c cs v r h f) (λ n f. absurd (none_some r f))
step_tells k levels (number at bytes p) b r h e = number_tells k at levels bytes p b (phase_step p b) r h e
step_tells k levels (string i at text p) b r h e =
    branch (Tells k) (machine.may_close p && (b == 34)) _ _ r e
    (λ t f. taken (Tells k) _ r f (string_tells i k at levels text))
    (λ n f. inside_tells k at levels i text (machine.inside_step p b) r f)

-- what is told on the way is told by the bytes that were read
pub record Told (n : ℕ) (s : State) (es : List Event) : Type 0 where
  pub placed : Placed n s.mode
  pub early : Each (λ e. telling e ≤ n) es

pub told_first : Told 0 (st [] want) []
told_first = record { placed = tt; early = tt }

pub told_next : (k : ℕ) (s t : State) (b : ℕ) (es more : List Event) → Told k s es
    → step k s.levels s.mode b ≡ Some (t, more) → Told (k + 1) t (es ++ more)
told_next k s t b es more h e =
    let g = step_tells k s.levels s.mode b (t, more) h.placed e in
    let i : suc k ≡ k + 1 = omega arith in
    record {
      placed = subst (λ z. Placed z t.mode) i g.0;
      early = Each-append (λ v. telling v ≤ k + 1) es more
          (Each-weaker (λ v. telling v ≤ k) (λ v. telling v ≤ k + 1) (λ v l. omega arith) es h.early)
          (Each-weaker (ToldAt k) (λ v. telling v ≤ k + 1) (λ v l. omega arith) more g.1);
    }

-- what is told behind these bytes needs more of them
ending_late : (k : ℕ) (levels : List Bool) (m : Mode) (es : List Event) → Placed k m → ending levels m ≡ Some es
    → Each (λ e. k < telling e) es
unfolding ending
ending_late k [] after es h e = let i : [] ≡ es = cc in subst (λ z. Each (λ v. k < telling v) z) i tt
ending_late k [] (number at bytes p) es h e =
    guarded (λ z. Each (λ v. k < telling v) z) (may_end p) _ es e (λ t. (omega arith, tt))
ending_late k [] want es h e = absurd cc
ending_late k [] first es h e = absurd cc
ending_late k [] first_key es h e = absurd cc
ending_late k [] next_key es h e = absurd cc
ending_late k [] colon es h e = absurd cc
ending_late k [] (literal c rest v) es h e = absurd cc
ending_late k [] (string i at text p) es h e = absurd cc
ending_late k (l ∷ levels) m es h e = absurd cc

pub told_late : {k : ℕ} {s : State} {w : List ℕ} {es : List Event} → Reads k s w es → Placed k s.mode
    → Each (λ e. k < telling e) es
told_late {k} (ends {levels} {mode} {es} e) p = ending_late k levels mode es p e
told_late {k} (then {b} {levels} {mode} {s} {bs} {es} {fs} e r) p =
    let g = step_tells k levels mode b (s, es) p e in
    Each-append (λ v. k < telling v) es fs (Each-weaker (ToldAt k) (λ v. k < telling v) (λ v l. omega arith) es g.1)
    (Each-weaker (λ v. suc k < telling v) (λ v. k < telling v) (λ v l. omega arith) fs (told_late r g.0))

-- the due ones among the first are all, and among the others none
passed : (n : ℕ) (es : List Event) → Each (λ e. telling e ≤ n) es → filter (λ e. nat_le (telling e) n) es ≡ es
passed n [] h = refl
passed n (e ∷ es) h = let i : telling e ≤ n = h.0 in let t : nat_le (telling e) n ≡ true = grind (arith, nat_tests) in
    rw (t, passed n es h.1) refl

held_back : (n : ℕ) (es : List Event) → Each (λ e. n < telling e) es → filter (λ e. nat_le (telling e) n) es ≡ []
held_back n [] h = refl
held_back n (e ∷ es) h = let i : n < telling e = h.0 in let t : nat_le (telling e) n ≡ false =
    grind (arith, nat_tests) in rw t (held_back n es h.1)

pub due_of : (n : ℕ) (s : State) (w : List ℕ) (es later : List Event) → Told n s es → Reads n s w later
    → filter (λ e. nat_le (telling e) n) (es ++ later) ≡ es
due_of n s w es later h r =
    filter-append (λ e. nat_le (telling e) n) es later
    ∙ ap (λ z. z ++ filter (λ e. nat_le (telling e) n) later) (passed n es h.early)
    ∙ ap (λ z. es ++ z) (held_back n later (told_late r h.placed))
    ∙ append-nil es
