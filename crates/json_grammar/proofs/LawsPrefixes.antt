-- The machine stops exactly where the bytes stop being the beginning of a text.
use Rattle.std.proofs.Common.{◌≡◌, ℕ, suc, ◌+◌, List, [], ◌∷◌, ◌++◌, length, Option, Some, None, refl, sym, ◌∙◌, ap}
use Rattle.std.proofs.Common.{subst, append_assoc, append-nil, arith}
use Rattle.json_grammar.specs.Tree.{Tree, Event, events_of}
use Rattle.json_grammar.specs.Grammar.{IsElement}
use Rattle.json_grammar.specs.Prefix.{IsPrefix}
use Rattle.json_grammar.specs.laws.Machine.{want, State, st, step, ending, Reads, ends, then, run, run_on, run_then}
use Rattle.json_grammar.proofs.LawsForward.{at_offset, same}
use Rattle.json_grammar.proofs.LawsValues.{text_reads}
use Rattle.json_grammar.proofs.LawsBackward.{reads_text}
use Rattle.json_grammar.proofs.LawsViable.{complete}

-- a reading of two parts
pub record Parts (k : ℕ) (s : State) (a b : List ℕ) (es : List Event) : Type 0 where
  pub state : State
  pub front : List Event
  pub back : List Event
  pub runs : run k s a ≡ Some (state, front)
  pub reads : Reads (k + length a) state b back
  pub events : es ≡ front ++ back

parts_more : {k c : ℕ} {s t : State} {a b : List ℕ} {es fs : List Event} → step k s.levels s.mode c ≡ Some (t, es)
    → Parts (suc k) t a b fs → Parts k s (c ∷ a) b (es ++ fs)
parts_more {k} {c} {s} {t} {a} {b} {es} {fs} e p = record {
  state = p.state;
  front = es ++ p.front;
  back = p.back;
  runs = rw (e, p.runs) refl;
  reads = at_offset (omega arith) p.reads;
  events = ap (λ z. es ++ z) p.events ∙ sym (append_assoc es p.front p.back);
}

pub split : (a b : List ℕ) {k : ℕ} {s : State} {es : List Event} → Reads k s (a ++ b) es → Parts k s a b es
split [] b {k} {s} {es} r =
    record { state = s; front = []; back = es; runs = refl; reads = at_offset (omega arith) r; events = refl }
split (c ∷ a) b (then e r) = parts_more e (split a b r)

-- a run over a first byte
pub record Begun (k b : ℕ) (s : State) (bs : List ℕ) (u : State) (es : List Event) : Type 0 where
  pub next : State
  pub front : List Event
  pub back : List Event
  pub steps : step k s.levels s.mode b ≡ Some (next, front)
  pub runs : run (suc k) next bs ≡ Some (u, back)
  pub events : front ++ back ≡ es

pub begun : (k b : ℕ) (s : State) (bs : List ℕ) (u : State) (es : List Event) (o : Option (State × List Event))
    → step k s.levels s.mode b ≡ o → run_then (λ t. run (suc k) t bs) o ≡ Some (u, es) → Begun k b s bs u es
begun k b s bs u es None e h = absurd cc
begun k b s bs u es (Some r) e h = go (run (suc k) r.0 bs) refl h
  where
    go : (o : Option (State × List Event)) → run (suc k) r.0 bs ≡ o → run_on r.1 o ≡ Some (u, es) → Begun k b s bs u es
    go None i j = absurd cc
    go (Some q) i j = let f : ◌≡◌ {A = State × List Event} (q.0, r.1 ++ q.1) (u, es) = cc in
        record {
          next = r.0;
          front = r.1;
          back = q.1;
          steps = e;
          runs = i ∙ ap (λ z. Some (z, q.1)) (ap (λ z. z.0) f);
          events = ap (λ z. z.1) f;
        }

-- what has been read, and a reading of the rest
pub join : (a b : List ℕ) (k : ℕ) (s t : State) (es fs : List Event) → run k s a ≡ Some (t, es)
    → Reads (k + length a) t b fs → Reads k s (a ++ b) (es ++ fs)
join [] b k s t es fs e r =
    let f : ◌≡◌ {A = State × List Event} (s, []) (t, es) = cc in
    same (omega arith) refl (ap (λ z. z.1 ++ fs) f) (subst (λ z. Reads (k + 0) z b fs) (sym (ap (λ z. z.0) f)) r)
join (c ∷ a) b k s t es fs e r =
    let g : Begun k c s a t es = begun k c s a t es (step k s.levels s.mode c) refl e in
    same refl refl (sym (append_assoc g.front g.back fs) ∙ ap (λ z. z ++ fs) g.events)
    (then g.steps (join a b (suc k) g.next t g.back fs g.runs (at_offset (omega arith) r)))

-- where the machine has come to, the bytes begin a text
pub alive : (p : List ℕ) (s : State) (es : List Event) → run 0 (st [] want) p ≡ Some (s, es) → IsPrefix p
alive p s es e =
    let c = complete (length p) s.levels s.mode in
    let w = reads_text (join p c.bytes 0 (st [] want) s es c.events e (at_offset (omega arith) c.reads)) in
    record { rest = c.bytes; tree = w.tree; text = w.text }

-- bytes that begin a text are taken
pub taken_text : (p rest : List ℕ) (t : Tree) → IsElement 0 (p ++ rest) t → Parts 0 (st [] want) p rest (events_of t)
taken_text p rest t h = split p rest (text_reads h)

pub dead : (p : List ℕ) → run 0 (st [] want) p ≡ None → IsPrefix p → ⊥
dead p e h = let q = taken_text p h.rest h.tree h.text in let r = q.runs in cc

run_on_nil : (o : Option (State × List Event)) → o ≡ run_on [] o
run_on_nil None = refl
run_on_nil (Some r) = refl

run_on_twice : (es fs : List Event) (o : Option (State × List Event)) → run_on es (run_on fs o) ≡ run_on (es ++ fs) o
run_on_twice es fs None = refl
run_on_twice es fs (Some r) = ap (λ z. Some (r.0, z)) (sym (append_assoc es fs r.1))

-- a run over one byte more
pub run_snoc : (a : List ℕ) (b k : ℕ) (s t : State) (es : List Event) → run k s a ≡ Some (t, es)
    → run k s (a ++ b ∷ []) ≡ run_on es (run_then (λ u. Some (u, [])) (step (k + length a) t.levels t.mode b))
run_snoc [] b k s t es e =
    let f : ◌≡◌ {A = State × List Event} (s, []) (t, es) = cc in
    subst (λ (z : State × List Event). run k s (b ∷ [])
    ≡ run_on z.1 (run_then (λ u. Some (u, [])) (step (k + 0) z.0.levels z.0.mode b))) f
    (subst (λ z. run k s (b ∷ []) ≡ run_on [] (run_then (λ u. Some (u, [])) (step z s.levels s.mode b))) (omega arith)
    (run_on_nil (run k s (b ∷ []))))
run_snoc (c ∷ a) b k s t es e =
    let g : Begun k c s a t es = begun k c s a t es (step k s.levels s.mode c) refl e in
    let h : run (suc k) g.next (a ++ b ∷ []) ≡ run_on g.back (run_then (λ u. Some (u, []))
    (step (suc k + length a) t.levels t.mode b)) = run_snoc a b (suc k) g.next t g.back g.runs in
    let i : suc k + length a ≡ k + suc (length a) = omega arith in
    rw (g.steps, h, i)
    (let y : Option (State × List Event) = run_then (λ u. Some (u, [])) (step (k + suc (length a)) t.levels t.mode
    b) in run_on_twice g.front g.back y ∙ ap (λ z. run_on z y) g.events)

-- the ends
pub whole_text : (p : List ℕ) (s : State) (es fs : List Event) → run 0 (st [] want) p ≡ Some (s, es)
    → ending s.levels s.mode ≡ Some fs → (t : Tree) × IsElement 0 p t × (events_of t ≡ es ++ fs)
whole_text p s es fs e f =
    let w = reads_text (join p [] 0 (st [] want) s es fs e (ends f)) in
    (w.tree, subst (λ z. IsElement 0 z w.tree) (append-nil p) w.text, w.events)

reads_nil : {k : ℕ} {s : State} {es : List Event} → Reads k s [] es → ending s.levels s.mode ≡ Some es
reads_nil (ends e) = e

pub ends_not : (p : List ℕ) (s : State) (es : List Event) (t : Tree) → run 0 (st [] want) p ≡ Some (s, es)
    → ending s.levels s.mode ≡ None → IsElement 0 p t → ⊥
ends_not p s es t e f h =
    let q = taken_text p [] t (subst (λ z. IsElement 0 z t) (sym (append-nil p)) h) in
    let same_run : ◌≡◌ {A = State × List Event} (q.state, q.front) (s, es) = let r = q.runs in cc in
    let g : ending q.state.levels q.state.mode ≡ Some q.back = reads_nil q.reads in
    let i : ending s.levels s.mode ≡ Some q.back =
    subst (λ (z : State × List Event). ending z.0.levels z.0.mode ≡ Some q.back) same_run g in
    cc
