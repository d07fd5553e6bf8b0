-- How far the machine and the builder have come.
use Rattle.std.specs.Prelude.{take, is_some, option_map}
use Rattle.std.proofs.Math.Nat.{eq-or-lt_of_le}
use Rattle.std.proofs.Common.{drop, suc, inl, inr, ◌≡◌, ℕ, ◌+◌, ◌<◌, ◌≤◌, List, [], ◌∷◌, ◌++◌, length, get_or, true}
use Rattle.std.proofs.Common.{false, Option, Some, None, refl, sym, ◌∙◌, ap, subst, append-nil, arith, add-one}
use Rattle.std.proofs.lemmas.List.{take_more, length-take, take_all, take-append-drop}
use Rattle.json_grammar.specs.Tree.{Tree, Event}
use Rattle.json_grammar.specs.Grammar.{IsElement}
use Rattle.json_grammar.specs.Prefix.{IsPrefix, IsSyntaxFault, IsDepthFault, IsShallow, first_past}
use Rattle.json_grammar.specs.laws.Machine.{want, State, st, step, ending, run, run_on, run_then}
use Rattle.json_grammar.specs.laws.Builder.{Advances, Concludes}
use Rattle.json_grammar.specs.laws.Builder.{Built, bt, feeds}
use Rattle.json_grammar.specs.Trees.{tree_view}
use Rattle.json_grammar.specs.declared.tree.Tree as Rust
use Rattle.json_grammar.specs.laws.Sound.{AreSound}
use Rattle.json_grammar.proofs.LawsOfTexts.{last_sound, run_sound, text_sound}
use Rattle.json_grammar.proofs.LawsPrefixes.{alive, dead, run_snoc, whole_text, ends_not, taken_text}
use Rattle.json_grammar.proofs.LawsDepth.{scan, deep_is, late, ending_scan, Fits, Levelled, levelled, Deeper, within}
use Rattle.json_grammar.proofs.LawsDepth.{beyond}
use Rattle.json_grammar.proofs.LawsDepth.{one_deeper}
use Rattle.json_grammar.proofs.LawsBuilding.{feeds_append, text_built}

pub record Came (s : State) (b : Built) (p : List ℕ) : Type 0 where
  pub events : List Event
  pub runs : run 0 (st [] want) p ≡ Some (s, events)
  pub built : b ≡ feeds events (bt [] None)
  pub levels : Levelled s events

pub starts : Came (st [] want) (bt [] None) []
starts = record { events = []; runs = refl; built = refl; levels = levelled }

pub starts_at : (s : State) (b : Built) → s ≡ st [] want → b ≡ bt [] None → Came s b []
starts_at s b e f = subst (λ z. Came z b []) (sym e) (subst (λ z. Came (st [] want) z []) (sym f) starts)

-- the run over one byte more, by what the machine does with it
pub one_more : (s : State) (bytes : List ℕ) (k : ℕ) (es : List Event) → k < length bytes
    → run 0 (st [] want) (take k bytes) ≡ Some (s, es) → run 0 (st [] want) (take (k + 1) bytes)
    ≡ run_on es (run_then (λ u. Some (u, [])) (step k s.levels s.mode (get_or bytes k 0)))
one_more s bytes k es h c =
    let e : take (k + 1) bytes ≡ take k bytes ++ get_or bytes k 0 ∷ [] = take_more bytes k 0 h in
    let l : 0 + length (take k bytes) ≡ k = simp length-take (omega arith) in
    ap (run 0 (st [] want)) e ∙ run_snoc (take k bytes) (get_or bytes k 0) 0 (st [] want) s es c
    ∙ ap (λ z. run_on es (run_then (λ u. Some (u, [])) (step z s.levels s.mode (get_or bytes k 0)))) l

-- the texts that begin so have no array or object that is too deep in these bytes
pub shallow : (s : State) (p : List ℕ) (es : List Event) → run 0 (st [] want) p ≡ Some (s, es) → Levelled s es
    → (rest : List ℕ) (t : Tree) → IsElement 0 (p ++ rest) t → (d : ℕ) → first_past 16 t ≡ Some d → length p ≤ d
shallow s p es r l rest t h d e =
    let q = taken_text p rest t h in
    let same_run : ◌≡◌ {A = State × List Event} (q.state, q.front) (s, es) = let z = q.runs in cc in
    let state : q.state ≡ s = ap (λ z. z.0) same_run in
    let front : q.front ≡ es = ap (λ z. z.1) same_run in
    let found : scan l.room q.back ≡ Some d = sym (l.scans q.back) ∙ ap (λ z. scan 16 (z ++ q.back)) (sym front)
    ∙ ap (scan 16) (sym q.events) ∙ sym (deep_is t 16) ∙ e in
    let fits = subst (λ (z : State). Fits z.levels z.mode) (sym state) l.fits in
    let j = late q.reads fits l.room d found in
    omega arith

pub shallow_at : (s : State) (b : Built) (bytes : List ℕ) (k : ℕ) → k ≤ length bytes
    → Came s b (take k bytes) → IsShallow bytes k
shallow_at s b bytes k i c rest t h d e = let j = shallow s (take k bytes) c.events c.runs c.levels rest t h d e in
    omega (arith, length-take k bytes)

pub not_beyond : (k : ℕ) (t : State) (es : List Event) → length t.levels ≤ 16 → Deeper k t es → Levelled t es
not_beyond k t es l (within h) = h
not_beyond k t es l (beyond h f) = absurd (omega arith)

beyond_there : (k : ℕ) (t : State) (es : List Event) → 16 < length t.levels → Deeper k t es → (fs : List Event)
    → scan 16 (es ++ fs) ≡ Some k
beyond_there k t es l (within h) = let i = h.open_levels in absurd (omega arith)
beyond_there k t es l (beyond h f) = f

-- each text that begins so has it there
pub found : (k : ℕ) (s : State) (p : List ℕ) (es : List Event) (rest : List ℕ) (t : Tree)
    → run 0 (st [] want) p ≡ Some (s, es) → ((fs : List Event) → scan 16 (es ++ fs) ≡ Some k)
    → IsElement 0 (p ++ rest) t → first_past 16 t ≡ Some k
found k s p es rest t r f h =
    let q = taken_text p rest t h in
    let same_run : ◌≡◌ {A = State × List Event} (q.state, q.front) (s, es) = let z = q.runs in cc in
    deep_is t 16 ∙ ap (scan 16) q.events ∙ ap (λ (z : State × List Event). scan 16 (z.1 ++ q.back)) same_run ∙ f q.back

pub next : (s t : State) (old new : Built) (bytes : List ℕ) (k : ℕ) → k < length bytes → Came s old (take k bytes)
    → Advances true k s (get_or bytes k 0) t old new → length t.levels ≤ 16 → Came t new (take (k + 1) bytes)
next s t old new bytes k h c a l = record {
  events = c.events ++ a.0;
  runs = one_more s bytes k c.events h c.runs ∙ ap (λ z. run_on c.events (run_then (λ u. Some (u, [])) z)) a.1
      ∙ ap (λ z. Some (t, c.events ++ z)) (append-nil a.0);
  built = a.2 ∙ ap (feeds a.0) c.built ∙ sym (feeds_append c.events a.0 (bt [] None));
  levels = not_beyond k t (c.events ++ a.0) l (one_deeper k s t (get_or bytes k 0) c.events a.0 c.levels a.1);
}

pub refused : (s t : State) (old new : Built) (bytes : List ℕ) (k : ℕ) → k < length bytes → Came s old (take k bytes)
    → Advances false k s (get_or bytes k 0) t old new → IsSyntaxFault bytes k
refused s t old new bytes k h c e = record {
  within = omega arith;
  sound = alive (take k bytes) s c.events c.runs;
  stuck = λ _ p. dead (take (k + 1) bytes)
      (one_more s bytes k c.events h c.runs ∙ ap (λ z. run_on c.events (run_then (λ u. Some (u, [])) z)) e)
      (rw add-one p);
  ended = λ i. absurd (omega arith);
}

pub too_deep : (s t : State) (old new : Built) (bytes : List ℕ) (k : ℕ) → k < length bytes → Came s old (take k bytes)
    → Advances true k s (get_or bytes k 0) t old new → 16 < length t.levels → IsDepthFault bytes k
too_deep s t old new bytes k h c a l =
    let r : run 0 (st [] want) (take (k + 1) bytes) ≡ Some (t, c.events ++ a.0) = one_more s bytes k c.events h c.runs
    ∙ ap (λ z. run_on c.events (run_then (λ u. Some (u, [])) z)) a.1
    ∙ ap (λ z. Some (t, c.events ++ z)) (append-nil a.0) in
    let f = beyond_there k t (c.events ++ a.0) l (one_deeper k s t (get_or bytes k 0) c.events a.0 c.levels a.1) in
    record {
      within = omega arith;
      sound = rw (← add-one) (alive (take (k + 1) bytes) t (c.events ++ a.0) r);
      opens = λ rest tree i. found k t (take (k + 1) bytes) (c.events ++ a.0) rest tree r f (rw (← add-one) at i);
    }

all_of : (bytes : List ℕ) (k : ℕ) → k ≡ length bytes → take k bytes ≡ bytes
all_of bytes k e = take_all k bytes (omega arith)

pub none_from : {A : Type 0} (o : Option A) → is_some o ≡ false → o ≡ None
none_from None e = refl
none_from (Some x) e = absurd cc

pub unfinished : (s : State) (b : Built) (bytes : List ℕ) (k : ℕ) → k ≡ length bytes → Came s b (take k bytes)
    → is_some (ending s.levels s.mode) ≡ false → IsSyntaxFault bytes k
unfinished s b bytes k i c e = record {
  within = omega arith;
  sound = alive (take k bytes) s c.events c.runs;
  stuck = λ j. absurd (omega arith);
  ended = λ _ t h. ends_not bytes s c.events t (ap (run 0 (st [] want)) (sym (all_of bytes k i)) ∙ c.runs)
      (none_from (ending s.levels s.mode) e) h;
}

-- the tree that is built at the end
pub record Finished (b : Built) (es : List Event) (bytes : List ℕ) : Type 0 where
  pub tree : Tree
  pub text : IsElement 0 bytes tree
  pub built : feeds es b ≡ bt [] (Some tree)
  pub shallow : first_past 16 tree ≡ None

pub finished : (s : State) (b : Built) (es : List Event) (bytes : List ℕ) (k : ℕ) → k ≡ length bytes
    → Came s b (take k bytes) → ending s.levels s.mode ≡ Some es → Finished b es bytes
finished s b es bytes k i c e =
    let w = whole_text bytes s c.events es (ap (run 0 (st [] want)) (sym (all_of bytes k i)) ∙ c.runs) e in
    record {
      tree = w.0;
      text = w.1;
      built = ap (feeds es) c.built ∙ sym (feeds_append c.events es (bt [] None))
          ∙ ap (λ z. feeds z (bt [] None)) (sym w.2) ∙ text_built w.1;
      shallow =
          deep_is w.0 16 ∙ ap (scan 16) w.2 ∙ c.levels.scans es ∙ ending_scan c.levels.room k s.levels s.mode es e;
    }

-- the tree that the builder hands out at the end
pub concluded : (s : State) (b : Built) (o : Option Tree) (bytes : List ℕ) (k : ℕ) → k ≡ length bytes
    → Came s b (take k bytes) → Concludes s b o → (t : Tree) × (o ≡ Some t) × IsElement 0 bytes t
    × (first_past 16 t ≡ None)
concluded s b o bytes k i c e = let f = finished s b e.0 bytes k i c e.1 in
    (f.tree, e.2 ∙ ap (λ z. z.done) f.built, f.text, f.shallow)

pub concludes_some : (s : State) (b : Built) (o : Option Rust.Tree) (bytes : List ℕ) (k : ℕ) → k ≡ length bytes
    → Came s b (take k bytes) → Concludes s b (option_map tree_view o) → (x : Rust.Tree) → o ≡ Some x
    → IsElement 0 bytes (tree_view x) × (first_past 16 (tree_view x) ≡ None)
concludes_some s b o bytes k i c e x h =
    let d = concluded s b (option_map tree_view o) bytes k i c e in
    let f : Some (tree_view x) ≡ Some d.0 = sym (ap (option_map tree_view) h) ∙ d.1 in
    let g : d.0 ≡ tree_view x = cc in
    (subst (λ z. IsElement 0 bytes z) g d.2, subst (λ z. first_past 16 z ≡ None) g d.3)

pub never_none : (s : State) (b : Built) (o : Option Rust.Tree) (bytes : List ℕ) (k : ℕ) → k ≡ length bytes
    → Came s b (take k bytes) → Concludes s b (option_map tree_view o) → o ≡ None → ⊥
never_none s b o bytes k i c e h =
    let d = concluded s b (option_map tree_view o) bytes k i c e in
    let f : None ≡ Some d.0 = sym (ap (option_map tree_view) h) ∙ d.1 in
    cc

pub told_next : (s t : State) (b : Built) (es : List Event) (bytes : List ℕ) (k : ℕ) → k < length bytes
    → Came s b (take k bytes) → step k s.levels s.mode (get_or bytes k 0) ≡ Some (t, es) → AreSound es
told_next s t b es bytes k h c a =
    let r : run 0 (st [] want) (take (k + 1) bytes) ≡ Some (t, c.events ++ es) = one_more s bytes k c.events h c.runs
    ∙ ap (λ z. run_on c.events (run_then (λ u. Some (u, [])) z)) a
    ∙ ap (λ z. Some (t, c.events ++ z)) (append-nil es) in
    last_sound c.events es (run_sound (take (k + 1) bytes) t (c.events ++ es) r)

pub told_end : (s : State) (b : Built) (es : List Event) (bytes : List ℕ) (k : ℕ) → k ≡ length bytes
    → Came s b (take k bytes) → ending s.levels s.mode ≡ Some es → AreSound es
told_end s b es bytes k i c e =
    let w = whole_text bytes s c.events es (ap (run 0 (st [] want)) (sym (all_of bytes k i)) ∙ c.runs) e in
    last_sound c.events es (subst AreSound w.2 (text_sound w.1))

prefix_of : (bytes : List ℕ) (n : ℕ) (t : Tree) → IsElement 0 bytes t → IsPrefix (take n bytes)
prefix_of bytes n t h =
    record { rest = drop n bytes; tree = t; text = subst (λ z. IsElement 0 z t) (sym (take-append-drop n bytes)) h }

-- a text has no fault of syntax
pub no_syntax_fault : (bytes : List ℕ) (at : ℕ) (t : Tree) → IsElement 0 bytes t → IsSyntaxFault bytes at → ⊥
no_syntax_fault bytes at t h f =
    elim (eq-or-lt_of_le f.within) [ inl e ↦ f.ended e t h | inr l ↦ f.stuck l (prefix_of bytes (suc at) t h) ]

-- and a shallow one no level that is too deep
pub no_depth_fault : (bytes : List ℕ) (at : ℕ) (t : Tree) → IsElement 0 bytes t → first_past 16 t ≡ None
    → IsDepthFault bytes at → ⊥
no_depth_fault bytes at t h n f = let e =
    f.opens (drop (suc at) bytes) t (subst (λ z. IsElement 0 z t) (sym (take-append-drop (suc at) bytes)) h) in cc
