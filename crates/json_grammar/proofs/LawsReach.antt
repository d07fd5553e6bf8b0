-- What is known where a machine has read the first bytes of a stream.
use Rattle.std.specs.Prelude.{is_some}
use Rattle.std.proofs.Common.{◌≡◌, ℕ, suc, ◌+◌, ◌≤◌, ◌<◌, List, [], ◌∷◌, ◌++◌, length, take, drop, get_or, Bool, false}
use Rattle.std.proofs.Common.{Some, None, refl, sym, ◌∙◌, ap, subst, append_assoc, append-nil, length-append}
use Rattle.std.proofs.Common.{length-drop, arith}
use Rattle.std.proofs.lemmas.List.{length-take-le, take-append-le, take_all}
use Rattle.std.proofs.Math.Seq.{take-add, take-length}
use Rattle.json_grammar.specs.Tree.{Tree, Event, events_of}
use Rattle.json_grammar.specs.Grammar.{IsText, IsElement}
use Rattle.json_grammar.specs.Prefix.{IsSyntaxFault, IsDepthFault, IsShallow, first_past}
use Rattle.json_grammar.specs.Stream.{IsShallowPrefix}
use Rattle.json_grammar.specs.laws.Machine.{want, State, st, step, ending, run, run_on, run_then}
use Rattle.json_grammar.specs.laws.Builder.{bt, feeds}
use Rattle.json_grammar.specs.laws.Sound.{AreSound}
use Rattle.json_grammar.specs.laws.Reads.{HasRead}
use Rattle.json_grammar.proofs.LawsPrefixes.{Begun, begun, alive, whole_text}
use Rattle.json_grammar.proofs.LawsDepth.{scan, deep_is, ending_scan, Fits, Moved, quiet, step_goes, Levelled, levelled}
use Rattle.json_grammar.proofs.LawsDepth.{Deeper, within, beyond, one_deeper}
use Rattle.json_grammar.proofs.LawsLoop.{Came, one_more, shallow, shallow_at, found, not_beyond, refused, too_deep}
use Rattle.json_grammar.proofs.LawsLoop.{unfinished}
use Rattle.json_grammar.proofs.LawsOfTexts.{run_sound}

-- a run over two parts
pub run_append : (a b : List ℕ) (k : ℕ) (s t u : State) (es fs : List Event) → run k s a ≡ Some (t, es)
    → run (k + length a) t b ≡ Some (u, fs) → run k s (a ++ b) ≡ Some (u, es ++ fs)
run_append [] b k s t u es fs e f =
    let g : ◌≡◌ {A = State × List Event} (s, []) (t, es) = cc in
    let start : run k t b ≡ Some (u, fs) = subst (λ z. run z t b ≡ Some (u, fs)) (omega arith) f in
    subst (λ (z : State × List Event). run k s b ≡ Some (u, z.1 ++ fs)) g
    (subst (λ z. run k z b ≡ Some (u, fs)) (sym (ap (λ (z : State × List Event). z.0) g)) start)
run_append (c ∷ a) b k s t u es fs e f =
    let g : Begun k c s a t es = begun k c s a t es (step k s.levels s.mode c) refl e in
    let rest : run (suc k) g.next (a ++ b) ≡ Some (u, g.back ++ fs) =
    run_append a b (suc k) g.next t u g.back fs g.runs (subst (λ z. run z t b ≡ Some (u, fs)) (omega arith) f) in
    rw (g.steps, rest) (ap (λ z. Some (u, z)) (sym (append_assoc g.front g.back fs) ∙ ap (λ z. z ++ fs) g.events))

-- behind bytes in which no level is too deep, at most 16 are open
not_deeper : (u w : List ℕ) (t : State) (es : List Event) → run 0 (st [] want) u ≡ Some (t, es) → (k : ℕ)
    → length u ≡ suc k → IsShallowPrefix (u ++ w) → Deeper k t es → Levelled t es
not_deeper u w t es r k i h (within l) = l
not_deeper u w t es r k i h (beyond n f) =
    let text : IsElement 0 (u ++ (w ++ h.begins.rest)) h.begins.tree =
    subst (λ z. IsElement 0 z h.begins.tree) (append_assoc u w h.begins.rest) h.begins.text in
    let place = found k t u es (w ++ h.begins.rest) h.begins.tree r f text in
    let late = h.shallow h.begins.rest h.begins.tree (subst (λ z. IsElement 0 (z ++ h.begins.rest) h.begins.tree)
    (sym (take-length (u ++ w))) h.begins.text) k place in
    absurd (omega (arith, length-append u w))

levels_along : (w u : List ℕ) (s t : State) (es fs : List Event) → run 0 (st [] want) u ≡ Some (s, es) → Levelled s es
    → run (length u) s w ≡ Some (t, fs) → IsShallowPrefix (u ++ w) → Levelled t (es ++ fs)
levels_along [] u s t es fs r l e h =
    let f : ◌≡◌ {A = State × List Event} (s, []) (t, fs) = cc in
    subst (λ (z : State × List Event). Levelled z.0 (es ++ z.1)) f (subst (λ z. Levelled s z) (sym (append-nil es)) l)
levels_along (b ∷ w) u s t es fs r l e h =
    let g : Begun (length u) b s w t fs = begun (length u) b s w t fs (step (length u) s.levels s.mode b) refl e in
    let one : run 0 (st [] want) (u ++ b ∷ []) ≡ Some (g.next, es ++ g.front) = run_append u (b ∷ []) 0 (st [] want) s
    g.next es g.front r (subst (λ z. run z s (b ∷ []) ≡ Some (g.next, g.front)) (omega arith)
    (ap (run_then (λ z. Some (z, []))) g.steps ∙ ap (λ z. Some (g.next, z)) (append-nil g.front))) in
    let len : length (u ++ b ∷ []) ≡ suc (length u) = simp length-append (omega arith) in
    let all : (u ++ b ∷ []) ++ w ≡ u ++ b ∷ w = append_assoc u (b ∷ []) w in
    let whole : IsShallowPrefix ((u ++ b ∷ []) ++ w) = subst IsShallowPrefix (sym all) h in
    let levels = not_deeper (u ++ b ∷ []) w g.next (es ++ g.front) one (length u) len whole
    (one_deeper (length u) s g.next b es g.front l g.steps) in
    subst (λ z. Levelled t z) (append_assoc es g.front g.back ∙ ap (λ z. es ++ z) g.events)
    (levels_along w (u ++ b ∷ []) g.next t (es ++ g.front) g.back one levels
    (subst (λ z. run z g.next w ≡ Some (t, g.back)) (sym len) g.runs) whole)

-- and where they are, no level before is too deep
prefix_of : (p : List ℕ) (s : State) (es : List Event) → run 0 (st [] want) p ≡ Some (s, es)
    → Levelled s es → IsShallowPrefix p
prefix_of p s es r l = record {
  begins = alive p s es r;
  shallow =
      λ rest tree h d e. shallow s p es r l rest tree (subst (λ z. IsElement 0 (z ++ rest) tree) (take-length p) h) d e;
}

pub read_levels : (stream : List ℕ) (k : ℕ) (s : State) (es : List Event) → HasRead stream k s es → Levelled s es
read_levels stream k s es h = levels_along (take k stream) [] (st [] want) s [] es refl levelled h.runs h.sound

came : (stream : List ℕ) (k : ℕ) (s : State) (es : List Event) → HasRead stream k s es
    → Came s (feeds es (bt [] None)) (take k stream)
came stream k s es h = record { events = es; runs = h.runs; built = refl; levels = read_levels stream k s es h }

pub read_none : (stream : List ℕ) → HasRead stream 0 (st [] want) []
read_none stream = record { within = omega arith; runs = refl; sound = prefix_of [] (st [] want) [] refl levelled }

-- one byte more
pub read_next : (stream : List ℕ) (k : ℕ) (s t : State) (es more : List Event) → HasRead stream k s es
    → k < length stream → step k s.levels s.mode (get_or stream k 0) ≡ Some (t, more) → length t.levels ≤ 16
    → HasRead stream (k + 1) t (es ++ more)
read_next stream k s t es more h i e l =
    let r : run 0 (st [] want) (take (k + 1) stream) ≡ Some (t, es ++ more) = one_more s stream k es i h.runs
    ∙ ap (λ z. run_on es (run_then (λ u. Some (u, [])) z)) e ∙ ap (λ z. Some (t, es ++ z)) (append-nil more) in
    record {
      within = omega arith;
      runs = r;
      sound = prefix_of (take (k + 1) stream) t (es ++ more) r
          (not_beyond k t (es ++ more) l
          (one_deeper k s t (get_or stream k 0) es more (read_levels stream k s es h) e));
    }

none_of : (a b : List Event) → a ++ b ≡ [] → (a ≡ []) × (b ≡ [])
none_of [] b e = (refl, e)
none_of (x ∷ a) b e = absurd cc

quiet_levels : {k : ℕ} {a b : List Bool} {es : List Event} → Moved k a b es → es ≡ [] → a ≡ b
quiet_levels quiet e = refl
quiet_levels _ e = absurd cc

still_levelled : (s t : State) (es : List Event) → s.levels ≡ t.levels → Fits t.levels t.mode
    → Levelled s es → Levelled t es
still_levelled s t es e f l = record {
  room = l.room;
  open_levels = subst (λ z. l.room + length z ≡ 16) e l.open_levels;
  scans = l.scans;
  fits = f;
}

-- bytes that tell nothing open no level
quiet_run : (w : List ℕ) (k : ℕ) (s t : State) (es : List Event) → run k s w ≡ Some (t, [])
    → Levelled s es → Levelled t es
quiet_run [] k s t es e l = let f : ◌≡◌ {A = State × List Event} (s, []) (t, []) = cc in
    subst (λ (z : State × List Event). Levelled z.0 es) f l
quiet_run (b ∷ w) k s t es e l =
    let g : Begun k b s w t [] = begun k b s w t [] (step k s.levels s.mode b) refl e in
    let nothing = none_of g.front g.back g.events in
    let goes = step_goes k s.levels s.mode b (g.next, g.front) l.fits g.steps in
    quiet_run w (suc k) g.next t es (g.runs ∙ ap (λ z. Some (t, z)) nothing.1)
    (still_levelled s g.next es (quiet_levels goes.0 nothing.0) goes.1 l)

-- bytes that tell nothing
pub read_run : (stream : List ℕ) (k n : ℕ) (s t : State) (es : List Event) → HasRead stream k s es
    → n ≤ length (drop k stream) → run k s (take n (drop k stream)) ≡ Some (t, []) → HasRead stream (k + n) t es
read_run stream k n s t es h i e =
    let len : length (take k stream) ≡ k = length-take-le k stream h.within in
    let r : run 0 (st [] want) (take (k + n) stream) ≡ Some (t, es) =
    ap (run 0 (st [] want)) (take-add k n stream)
    ∙ run_append (take k stream) (take n (drop k stream)) 0 (st [] want) s t es [] h.runs
    (subst (λ z. run z s (take n (drop k stream)) ≡ Some (t, [])) (sym len ∙ omega arith) e)
    ∙ ap (λ z. Some (t, z)) (append-nil es) in
    record {
      within = omega (arith, length-drop k stream, h.within);
      runs = r;
      sound = prefix_of (take (k + n) stream) t es r
          (quiet_run (take n (drop k stream)) k s t es e (read_levels stream k s es h));
    }

-- a byte that cannot follow
pub read_refused : (stream : List ℕ) (k : ℕ) (s : State) (es : List Event) → HasRead stream k s es → k < length stream
    → step k s.levels s.mode (get_or stream k 0) ≡ None → IsSyntaxFault stream k × IsShallow stream k
read_refused stream k s es h i e =
    let c = came stream k s es h in (
      refused s s (feeds es (bt [] None)) (feeds es (bt [] None)) stream k i c e,
      shallow_at s (feeds es (bt [] None)) stream k h.within c,
    )

-- a byte that opens a 17th level
pub read_deep : (stream : List ℕ) (k : ℕ) (s t : State) (es more : List Event) → HasRead stream k s es
    → k < length stream → step k s.levels s.mode (get_or stream k 0) ≡ Some (t, more) → 16 < length t.levels
    → IsDepthFault stream k
read_deep stream k s t es more h i e l = too_deep s t (feeds es (bt [] None)) (feeds more (feeds es (bt [] None)))
    stream k i (came stream k s es h) (more, e, refl) l

-- the bytes end, and are no text
pub read_short : (stream : List ℕ) (k : ℕ) (s : State) (es : List Event) → HasRead stream k s es → k ≡ length stream
    → is_some (ending s.levels s.mode) ≡ false → IsSyntaxFault stream k × IsShallow stream k
read_short stream k s es h i e =
    let c = came stream k s es h in
    (unfinished s (feeds es (bt [] None)) stream k i c e, shallow_at s (feeds es (bt [] None)) stream k h.within c)

-- the bytes end, and are a text
pub record IsWhole (stream : List ℕ) (es : List Event) : Type 0 where
  pub tree : Tree
  pub text : IsText stream tree
  pub events : events_of tree ≡ es
  pub shallow : first_past 16 tree ≡ None

pub read_whole : (stream : List ℕ) (k : ℕ) (s : State) (es last : List Event) → HasRead stream k s es
    → k ≡ length stream → ending s.levels s.mode ≡ Some last → IsWhole stream (es ++ last)
read_whole stream k s es last h i e =
    let w = whole_text stream s es last (ap (run 0 (st [] want)) (sym (take_all k stream (omega arith))) ∙ h.runs) e in
    let l = read_levels stream k s es h in
    record {
      tree = w.0;
      text = w.1;
      events = w.2;
      shallow = deep_is w.0 16 ∙ ap (scan 16) w.2 ∙ l.scans last ∙ ending_scan l.room k s.levels s.mode last e;
    }

-- more bytes
pub read_pushed : (stream more : List ℕ) (k : ℕ) (s : State) (es : List Event) → HasRead stream k s es
    → HasRead (stream ++ more) k s es
read_pushed stream more k s es h =
    let same : take k stream ≡ take k (stream ++ more) = sym (take-append-le k stream more h.within) in
    record {
      within = omega (arith, length-append stream more, h.within);
      runs = subst (λ z. run 0 (st [] want) z ≡ Some (s, es)) same h.runs;
      sound = subst IsShallowPrefix same h.sound;
    }

pub told_sound : (stream : List ℕ) (k : ℕ) (s : State) (es : List Event) → HasRead stream k s es → AreSound es
told_sound stream k s es h = run_sound (take k stream) s es h.runs
