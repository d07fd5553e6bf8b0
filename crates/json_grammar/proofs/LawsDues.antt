-- What is told is what is due.
use Rattle.std.specs.Prelude.{◌⊎◌, nat_le, filter, slice_get}
use Rattle.std.proofs.Common.{◌≡◌, ℕ, zero, suc, ◌+◌, ◌≤◌, ◌<◌, List, [], ◌∷◌, ◌++◌, length, take, drop, get_or, Bool}
use Rattle.std.proofs.Common.{true, false, Option, Some, None, refl, sym, ◌∙◌, ap, subst, append_assoc, append-nil}
use Rattle.std.proofs.Common.{length-drop, inl, inr, arith}
use Rattle.std.proofs.lemmas.List.{length-take-le, take-append-le, take-append-drop, take_all}
use Rattle.std.proofs.lemmas.Bool.{cases_lt}
use Rattle.std.proofs.Math.Seq.{take-length}
use Rattle.json_grammar.specs.Tree.{Tree, Event, events_of}
use Rattle.json_grammar.specs.Grammar.{IsText}
use Rattle.json_grammar.specs.Prefix.{IsSyntaxFault, IsDepthFault, first_past}
use Rattle.json_grammar.specs.Stream.{IsShallowPrefix, IsSoundLength, IsShallowText, IsDue, IsNextDue, telling}
use Rattle.json_grammar.specs.laws.Machine.{want, State, st, step, ending, run}
use Rattle.json_grammar.specs.laws.Reads.{HasRead}
use Rattle.json_grammar.proofs.LawsPrefixes.{Begun, begun, taken_text, ends_not}
use Rattle.json_grammar.proofs.LawsLoop.{no_syntax_fault, no_depth_fault}
use Rattle.json_grammar.proofs.LawsOfTexts.{one_tree}
use Rattle.json_grammar.proofs.LawsTelling.{Told, told_first, told_next, due_of}
use Rattle.json_grammar.proofs.LawsReach.{read_none, read_next, read_refused, read_deep, read_whole, IsWhole}

told_along : (w : List ℕ) (k : ℕ) (s t : State) (es fs : List Event) → Told k s es → run k s w ≡ Some (t, fs)
    → Told (k + length w) t (es ++ fs)
told_along [] k s t es fs h e =
    let f : ◌≡◌ {A = State × List Event} (s, []) (t, fs) = cc in
    subst (λ z. Told z t (es ++ fs)) (omega arith)
    (subst (λ (z : State × List Event). Told k z.0 (es ++ z.1)) f (subst (λ z. Told k s z) (sym (append-nil es)) h))
told_along (b ∷ w) k s t es fs h e =
    let g : Begun k b s w t fs = begun k b s w t fs (step k s.levels s.mode b) refl e in
    subst (λ z. Told z t (es ++ fs)) (omega arith)
    (subst (λ z. Told (k + 1 + length w) t z) (append_assoc es g.front g.back ∙ ap (λ z. es ++ z) g.events)
    (told_along w (k + 1) g.next t (es ++ g.front) g.back (told_next k s g.next b es g.front h g.steps)
    (subst (λ z. run z g.next w ≡ Some (t, g.back)) (omega arith) g.runs)))

-- the events of a text that begins with what was read
pub record Split (stream : List ℕ) (k : ℕ) (told : List Event) (tree : Tree) : Type 0 where
  pub later : List Event
  pub events : events_of tree ≡ told ++ later
  pub due : told ≡ filter (λ e. nat_le (telling e) k) (events_of tree)

pub split_text : (stream rest : List ℕ) (k : ℕ) (s : State) (told : List Event) (tree : Tree) → HasRead stream k s told
    → IsText (take k stream ++ rest) tree → Split stream k told tree
split_text stream rest k s told t h x =
    let p = take k stream in
    let q = taken_text p rest t x in
    let same : ◌≡◌ {A = State × List Event} (q.state, q.front) (s, told) = let a = q.runs in let b = h.runs in cc in
    let front : q.front ≡ told = ap (λ (z : State × List Event). z.1) same in
    let n : 0 + length p ≡ k = omega (arith, length-take-le k stream h.within) in
    let all = told_along p 0 (st [] want) q.state [] q.front told_first q.runs in
    let events : events_of t ≡ told ++ q.back = q.events ∙ ap (λ z. z ++ q.back) front in
    record {
      later = q.back;
      events = events;
      due = sym front ∙ sym (due_of (0 + length p) q.state rest q.front q.back all q.reads)
          ∙ ap (λ z. filter (λ e. nat_le (telling e) z) (q.front ++ q.back)) n
          ∙ ap (filter (λ e. nat_le (telling e) k)) (sym q.events);
    }

-- a shorter prefix, and what follows it in a longer one
prefix_shorter : (stream : List ℕ) (n m : ℕ) → n ≤ m → m ≤ length stream
    → take n stream ++ drop n (take m stream) ≡ take m stream
prefix_shorter stream n m i j =
    let len : length (take m stream) ≡ m = length-take-le m stream j in
    let le : n ≤ length (take m stream) = omega arith in
    let e : take n stream ≡ take n (take m stream) =
    ap (take n) (sym (take-append-drop m stream)) ∙ take-append-le n (take m stream) (drop m stream) le in
    ap (λ z. z ++ drop n (take m stream)) e ∙ take-append-drop n (take m stream)

-- a text that begins with the longer one begins with the shorter one
begins_shorter : (stream rest : List ℕ) (n m : ℕ) (t : Tree) → n ≤ m → m ≤ length stream
    → IsText (take m stream ++ rest) t → IsText (take n stream ++ (drop n (take m stream) ++ rest)) t
begins_shorter stream rest n m t i j h =
    subst (λ z. IsText z t) (ap (λ z. z ++ rest) (sym (prefix_shorter stream n m i j))
    ∙ append_assoc (take n stream) (drop n (take m stream)) rest) h

-- where the sound part ends
pub sound_end : (stream : List ℕ) (k : ℕ) (s : State) (told : List Event) → HasRead stream k s told → k ≡ length stream
    → IsSoundLength stream k
sound_end stream k s told h e = record { within = h.within; begins = h.sound; longest = λ n i p. omega arith }

at_syntax : (stream : List ℕ) (k n : ℕ) → k < length stream → IsSyntaxFault stream k → n ≤ length stream
    → IsShallowPrefix (take n stream) → (k < n) → ⊥
at_syntax stream k n i f j p l =
    f.stuck i (record {
      rest = drop (suc k) (take n stream) ++ p.begins.rest;
      tree = p.begins.tree;
      text = begins_shorter stream p.begins.rest (suc k) n p.begins.tree (omega arith) j p.begins.text;
    })

at_depth : (stream : List ℕ) (k n : ℕ) → IsDepthFault stream k → n ≤ length stream
    → IsShallowPrefix (take n stream) → (k < n) → ⊥
at_depth stream k n f j p l =
    let place : first_past 16 p.begins.tree ≡ Some k = f.opens (drop (suc k) (take n stream) ++ p.begins.rest)
    p.begins.tree (begins_shorter stream p.begins.rest (suc k) n p.begins.tree (omega arith) j p.begins.text) in
    let late = p.shallow p.begins.rest p.begins.tree (subst (λ z. IsText (z ++ p.begins.rest) p.begins.tree)
    (sym (take-length (take n stream))) p.begins.text) k place in
    omega (arith, length-take-le n stream j)

not_longer : (k n : ℕ) → ((k < n) → ⊥) → n ≤ k
not_longer k n h = omega arith

pub sound_syntax : (stream : List ℕ) (k : ℕ) (s : State) (told : List Event) → HasRead stream k s told
    → k < length stream → IsSyntaxFault stream k → IsSoundLength stream k
sound_syntax stream k s told h i f =
    record { within = h.within; begins = h.sound; longest = λ n j p. not_longer k n (at_syntax stream k n i f j p) }

pub sound_depth : (stream : List ℕ) (k : ℕ) (s : State) (told : List Event) → HasRead stream k s told
    → IsDepthFault stream k → IsSoundLength stream k
sound_depth stream k s told h f =
    record { within = h.within; begins = h.sound; longest = λ n j p. not_longer k n (at_depth stream k n f j p) }

-- where no text of the stream is whole, exactly what was told is due
pub due_told : (stream : List ℕ) (finished : Bool) (k : ℕ) (s : State) (told : List Event) → HasRead stream k s told
    → IsSoundLength stream k → (finished ≡ true → IsShallowText stream → ⊥) → IsDue stream finished told
due_told stream finished k s told h l n = record {
  sound = k;
  is_sound = l;
  told = λ _ rest t x. (split_text stream rest k s told t h x).due;
  whole = λ f t x p. absurd (n f (record { tree = t; text = x; shallow = p }));
}

-- of a whole text all events are due
pub due_whole : (stream : List ℕ) (k : ℕ) (s : State) (told all : List Event) → HasRead stream k s told
    → k ≡ length stream → IsWhole stream all → IsDue stream true all
due_whole stream k s told all h e w = record {
  sound = k;
  is_sound = sound_end stream k s told h e;
  told = λ no rest t x. absurd (no refl (record { tree = w.tree; text = w.text; shallow = w.shallow }));
  whole = λ _ t x p. sym w.events ∙ ap events_of (one_tree stream w.tree t w.text x);
}

pub no_text_at_syntax : (stream : List ℕ) (k : ℕ) → IsSyntaxFault stream k → IsShallowText stream → ⊥
no_text_at_syntax stream k f t = no_syntax_fault stream k t.tree t.text f

pub no_text_at_depth : (stream : List ℕ) (k : ℕ) → IsDepthFault stream k → IsShallowText stream → ⊥
no_text_at_depth stream k f t = no_depth_fault stream k t.tree t.text t.shallow f

-- whether all events of the stream are due, as it is a text and finished
abbrev Wholly : List ℕ → Bool → Type 0
Wholly stream finished = ((finished ≡ true) × IsShallowText stream) ⊎ (finished ≡ true → IsShallowText stream → ⊥)

-- the due events of a stream begin with those that were told
pub record Goes (stream : List ℕ) (finished : Bool) (told : List Event) : Type 0 where
  pub more : List Event
  pub due : IsDue stream finished (told ++ more)
  pub wholly : Wholly stream finished

goes_nowhere : (stream : List ℕ) (finished : Bool) (k : ℕ) (s : State) (told : List Event) → HasRead stream k s told
    → IsSoundLength stream k → (finished ≡ true → IsShallowText stream → ⊥) → Goes stream finished told
goes_nowhere stream finished k s told h l n = record {
  more = [];
  due = subst (IsDue stream finished) (sym (append-nil told)) (due_told stream finished k s told h l n);
  wholly = inr n;
}

at_end : (stream : List ℕ) (finished : Bool) (k : ℕ) (s : State) (told : List Event) (o : Option (List Event))
    → HasRead stream k s told → k ≡ length stream → ending s.levels s.mode ≡ o → Goes stream finished told
at_end stream false k s told o h e f =
    goes_nowhere stream false k s told h (sound_end stream k s told h e) (λ n t. absurd cc)
at_end stream true k s told (Some last) h e f =
    let w = read_whole stream k s told last h e f in
    record {
      more = last;
      due = due_whole stream k s told (told ++ last) h e w;
      wholly = inl (refl, record { tree = w.tree; text = w.text; shallow = w.shallow });
    }
at_end stream true k s told None h e f =
    goes_nowhere stream true k s told h (sound_end stream k s told h e)
    (λ _ t. ends_not stream s told t.tree (ap (run 0 (st [] want)) (sym (take_all k stream (omega arith))) ∙ h.runs) f
    t.text)

goes_on : {stream : List ℕ} {finished : Bool} (told more : List Event) → Goes stream finished (told ++ more)
    → Goes stream finished told
goes_on {stream} {finished} told more g = record {
  more = more ++ g.more;
  due = subst (IsDue stream finished) (append_assoc told more g.more) g.due;
  wholly = g.wholly;
}

stops : (stream : List ℕ) (finished : Bool) (k : ℕ) (s : State) (told : List Event) → HasRead stream k s told
    → k < length stream → step k s.levels s.mode (get_or stream k 0) ≡ None → Goes stream finished told
stops stream finished k s told h i e =
    let f = read_refused stream k s told h i e in
    goes_nowhere stream finished k s told h (sound_syntax stream k s told h i f.0) (λ _. no_text_at_syntax stream k f.0)

stops_deep : (stream : List ℕ) (finished : Bool) (k : ℕ) (s t : State) (told more : List Event)
    → HasRead stream k s told → k < length stream → step k s.levels s.mode (get_or stream k 0) ≡ Some (t, more)
    → 16 < length t.levels → Goes stream finished told
stops_deep stream finished k s t told more h i e l =
    let f = read_deep stream k s t told more h i e l in
    goes_nowhere stream finished k s told h (sound_depth stream k s told h f) (λ _. no_text_at_depth stream k f)

-- one byte more, and then on
one_on : (stream : List ℕ) (finished : Bool) (k : ℕ) (s : State) (told : List Event) (o : Option (State × List Event))
    → HasRead stream k s told → k < length stream → step k s.levels s.mode (get_or stream k 0) ≡ o
    → ((t : State) (more : List Event) → HasRead stream (k + 1) t (told ++ more) → Goes stream finished (told ++ more))
    → Goes stream finished told
one_on stream finished k s told None h i e on = stops stream finished k s told h i e
one_on stream finished k s told (Some (t, more)) h i e on =
    elim (cases_lt 16 (length t.levels)) [
      | inl deep ↦ stops_deep stream finished k s t told more h i e deep
      | inr fits ↦ goes_on told more (on t more (read_next stream k s t told more h i e fits))
    ]

-- reading on from there to the end
pub settle : (n : ℕ) (stream : List ℕ) (finished : Bool) (k : ℕ) (s : State) (told : List Event) → k + n ≡ length stream
    → HasRead stream k s told → Goes stream finished told
settle zero stream finished k s told e h = at_end stream finished k s told (ending s.levels s.mode) h (omega arith) refl
settle (suc n) stream finished k s told e h = one_on stream finished k s told
    (step k s.levels s.mode (get_or stream k 0)) h (omega arith) refl
    (λ t more g. settle n stream finished (k + 1) t (told ++ more) (omega arith) g)

pub slice_get_front : (a b : List Event) (i : ℕ) (v : Event) → slice_get a i ≡ Some v → slice_get (a ++ b) i ≡ Some v
slice_get_front [] b i v e = absurd cc
slice_get_front (x ∷ a) b zero v e = e
slice_get_front (x ∷ a) b (suc i) v e = slice_get_front a b i v e

-- an event that was told is due at its place
pub next_due : (stream : List ℕ) (finished : Bool) (k given : ℕ) (s : State) (told : List Event) (v : Event)
    → HasRead stream k s told → slice_get told given ≡ Some v → IsNextDue stream finished given v
next_due stream finished k given s told v h e =
    let g =
    settle (length (drop k stream)) stream finished k s told (omega (arith, length-drop k stream, h.within)) h in
    record { due = told ++ g.more; is_due = g.due; is_next = slice_get_front told g.more given v e }

-- and the next one of each text
pub next_of_each : (stream rest : List ℕ) (k given : ℕ) (s : State) (told : List Event) (v : Event) (t : Tree)
    → HasRead stream k s told → slice_get told given ≡ Some v → IsText (stream ++ rest) t
    → slice_get (events_of t) given ≡ Some v
next_of_each stream rest k given s told v t h e x =
    let all : stream ++ rest ≡ take k stream ++ (drop k stream ++ rest) =
    ap (λ z. z ++ rest) (sym (take-append-drop k stream)) ∙ append_assoc (take k stream) (drop k stream) rest in
    let p = split_text stream (drop k stream ++ rest) k s told t h (subst (λ z. IsText z t) all x) in
    ap (λ z. slice_get z given) p.events ∙ slice_get_front told p.later given v e

-- a stream has due events, and one list of them

all_read : (stream : List ℕ) (finished : Bool) → Goes stream finished []
all_read stream finished = settle (length stream) stream finished 0 (st [] want) [] (omega arith) (read_none stream)

pub some_due : (stream : List ℕ) (finished : Bool) → (due : List Event) × IsDue stream finished due
some_due stream finished = let g = all_read stream finished in (g.more, g.due)

one_sound : (stream : List ℕ) (m n : ℕ) → IsSoundLength stream m → IsSoundLength stream n → m ≡ n
one_sound stream m n h g = let i = h.longest n g.within g.begins in let j = g.longest m h.within h.begins in omega arith

pub one_due : (stream : List ℕ) (finished : Bool) (a b : List Event) → IsDue stream finished a
    → IsDue stream finished b → a ≡ b
one_due stream finished a b h g =
    elim (all_read stream finished).wholly [
      | inl w ↦ h.whole w.0 w.1.tree w.1.text w.1.shallow ∙ sym (g.whole w.0 w.1.tree w.1.text w.1.shallow)
      | inr n ↦
          let p = h.is_sound.begins.begins in
          let e = one_sound stream h.sound g.sound h.is_sound g.is_sound in
          let x : IsText (take g.sound stream ++ p.rest) p.tree =
          subst (λ z. IsText (take z stream ++ p.rest) p.tree) e p.text in
          h.told n p.rest p.tree p.text ∙ ap (λ z. filter (λ v. nat_le (telling v) z) (events_of p.tree)) e
          ∙ sym (g.told n p.rest p.tree x)
    ]
