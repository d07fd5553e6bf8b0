-- What a stream of bytes that still comes in tells of its JSON text: its sound part, the
-- events that are due, and why it may be no text.
use Rattle.std.specs.Prelude.{◌≡◌, ℕ, ◌+◌, ◌≤◌, List, [], ◌∷◌, ◌++◌, length, take, filter, slice_get, Bool, true}
use Rattle.std.specs.Prelude.{nat_le, Some, None}
use Rattle.json_grammar.specs.Tree.{Tree, Event, events_of}
use Rattle.json_grammar.specs.Events.{event_at, event_end}
use Rattle.json_grammar.specs.Grammar.{IsText}
use Rattle.json_grammar.specs.Prefix.{IsPrefix, IsShallow, first_past}

-- some JSON text begins with the bytes, and none that does opens a 17th level in them
pub record IsShallowPrefix (bytes : List ℕ) : Type 0 where
  pub begins : IsPrefix bytes
  pub shallow : IsShallow bytes (length bytes)

-- the stream's sound part, its longest prefix of that kind, has this length
pub record IsSoundLength (stream : List ℕ) (sound : ℕ) : Type 0 where
  pub within : sound ≤ length stream
  pub begins : IsShallowPrefix (take sound stream)
  pub longest : (n : ℕ) → n ≤ length stream → IsShallowPrefix (take n stream) → n ≤ sound

-- the stream is a JSON text nested at most 16 deep
pub record IsShallowText (stream : List ℕ) : Type 0 where
  pub tree : Tree
  pub text : IsText stream tree
  pub shallow : first_past 16 tree ≡ None

-- how many bytes of a text tell the event: those up to its last one, and for a number the one behind it too
abbrev pub telling : Event → ℕ
telling (Event.number at s) = event_end (Event.number at s) + 1
telling e = event_end e

-- the events of a stream that are due, in their order: those that its sound part tells, which are the same in every
-- text that begins with it. Behind the end of a stream that is a text all its events are due.
pub record IsDue (stream : List ℕ) (finished : Bool) (due : List Event) : Type 0 where
  pub sound : ℕ
  pub is_sound : IsSoundLength stream sound
  pub told : (finished ≡ true → IsShallowText stream → ⊥) → (rest : List ℕ) (tree : Tree)
      → IsText (take sound stream ++ rest) tree → due ≡ filter (λ e. nat_le (telling e) sound) (events_of tree)
  pub whole : finished ≡ true → (tree : Tree) → IsText stream tree → first_past 16 tree ≡ None → due ≡ events_of tree

-- the event is the due one behind `given` others
pub record IsNextDue (stream : List ℕ) (finished : Bool) (given : ℕ) (e : Event) : Type 0 where
  pub due : List Event
  pub is_due : IsDue stream finished due
  pub is_next : slice_get due given ≡ Some e

-- so many events are due
pub record IsDueCount (stream : List ℕ) (finished : Bool) (count : ℕ) : Type 0 where
  pub due : List Event
  pub is_due : IsDue stream finished due
  pub is_count : count ≡ length due

-- the stream is a JSON text nested at most 16 deep, and `given` is the number of its events
pub record IsGivenText (stream : List ℕ) (given : ℕ) : Type 0 where
  pub tree : Tree
  pub text : IsText stream tree
  pub shallow : first_past 16 tree ≡ None
  pub count : given ≡ length (events_of tree)

-- the event stands behind `given` others in every text that begins with the stream
abbrev pub IsNextOfEach : List ℕ → ℕ → Event → Type 0
IsNextOfEach stream given e =
    (rest : List ℕ) (tree : Tree) → IsText (stream ++ rest) tree → slice_get (events_of tree) given ≡ Some e

-- each event begins behind the first byte of the one before it, the first at the offset or later
abbrev pub AscendFrom : ℕ → List Event → Type 0
AscendFrom from [] = Unit {0}
AscendFrom from (e ∷ es) = (from ≤ event_at e) × AscendFrom (event_at e + 1) es
