-- The machine's words for the reader's values. Not part of any promise: only private functions cite it.
use Rattle.std.specs.Prelude.{◌≡◌, ℕ, ◌+◌, ◌<◌, ◌≤◌, length, List, [], ◌∷◌, reverse, Bool, true, false, Option, Some}
use Rattle.std.specs.Prelude.{None}
use Rattle.json_grammar.specs.laws.Machine as machine
use Rattle.json_grammar.specs.laws.Machine.{State, st, Move}
use Rattle.json_grammar.specs.Tree as tree
use Rattle.json_machine.specs.Views.{phase_of, within_of, Holds}
use Rattle.json_machine.specs.declared.literal_token.Begun.{Begun}
use Rattle.json_machine.specs.declared.literal_token.Begun.TheVariants.{N, Nu, Nul, T, Tr, Tru, F, Fa, Fal, Fals}
use Rattle.json_machine.specs.declared.machine.Mode.{Mode}
use Rattle.json_machine.specs.declared.machine.Mode.TheVariants.{Want, First, FirstKey, NextKey, Colon, After, Literal}
use Rattle.json_machine.specs.declared.machine.Mode.TheVariants.{Number, Str}
use Rattle.json_machine.specs.declared.raw_event.RawEvent.{RawEvent}
use Rattle.json_machine.specs.declared.raw_event.RawEvent.TheVariants.{Begin, Finish, Key, Null, Bool as Boolean, Num}
use Rattle.json_machine.specs.declared.raw_event.RawEvent.TheVariants.{Text}
use Rattle.json_machine.specs.declared.raw_event.Answer.{Answer}
use Rattle.json_machine.specs.declared.raw_event.Answer.TheVariants.{Refused, Quiet, One, Two}
use Rattle.json_machine.specs.declared.machine.Machine.{Machine}

abbrev pub levels_of : List Bool → List Bool
levels_of xs = reverse xs

abbrev pub begun_of : Begun → ℕ → machine.Mode
begun_of N at = machine.literal 117 (108 ∷ 108 ∷ []) (tree.Event.null at)
begun_of Nu at = machine.literal 108 (108 ∷ []) (tree.Event.null at)
begun_of Nul at = machine.literal 108 [] (tree.Event.null at)
begun_of T at = machine.literal 114 (117 ∷ 101 ∷ []) (tree.Event.boolean at true)
begun_of Tr at = machine.literal 117 (101 ∷ []) (tree.Event.boolean at true)
begun_of Tru at = machine.literal 101 [] (tree.Event.boolean at true)
begun_of F at = machine.literal 97 (108 ∷ 115 ∷ 101 ∷ []) (tree.Event.boolean at false)
begun_of Fa at = machine.literal 108 (115 ∷ 101 ∷ []) (tree.Event.boolean at false)
begun_of Fal at = machine.literal 115 (101 ∷ []) (tree.Event.boolean at false)
begun_of Fals at = machine.literal 101 [] (tree.Event.boolean at false)

abbrev pub mode_of : Mode → ℕ → List ℕ → machine.Mode
mode_of Want at token = machine.want
mode_of First at token = machine.first
mode_of FirstKey at token = machine.first_key
mode_of NextKey at token = machine.next_key
mode_of Colon at token = machine.colon
mode_of After at token = machine.after
mode_of (Literal b) at token = begun_of b at
mode_of (Number p) at token = machine.number at token (phase_of p)
mode_of (Str k w) at token = machine.string k at token (within_of w)

abbrev pub state_of : Machine → State
state_of m = st (levels_of m.levels.items) (mode_of m.mode m.at m.token.items)

abbrev pub event_of : RawEvent → tree.Event
event_of (Begin at o) = tree.begin at o
event_of (Finish at) = tree.finish at
event_of (Key at end x) = tree.key at end x.items
event_of (Null at) = tree.Event.null at
event_of (Boolean at b) = tree.Event.boolean at b
event_of (Num at x) = tree.Event.number at x.items
event_of (Text at end x) = tree.Event.text at end x.items

abbrev pub answer_of : Answer → State → Move
answer_of Refused s = None
answer_of Quiet s = Some (s, [])
answer_of (One e) s = Some (s, event_of e ∷ [])
answer_of (Two e f) s = Some (s, event_of e ∷ event_of f ∷ [])

abbrev pub ModeHolds : Mode → Type 0
ModeHolds Want = Unit {0}
ModeHolds First = Unit {0}
ModeHolds FirstKey = Unit {0}
ModeHolds NextKey = Unit {0}
ModeHolds Colon = Unit {0}
ModeHolds After = Unit {0}
ModeHolds (Literal b) = Unit {0}
ModeHolds (Number p) = Unit {0}
ModeHolds (Str k w) = Holds w

-- outside numbers and strings no byte is kept
abbrev pub HasEmptyToken : Mode → List ℕ → Type 0
HasEmptyToken Want token = token ≡ []
HasEmptyToken First token = token ≡ []
HasEmptyToken FirstKey token = token ≡ []
HasEmptyToken NextKey token = token ≡ []
HasEmptyToken Colon token = token ≡ []
HasEmptyToken After token = token ≡ []
HasEmptyToken (Literal b) token = token ≡ []
HasEmptyToken (Number p) token = Unit {0}
HasEmptyToken (Str k w) token = Unit {0}

-- where the token began, before the byte at k
abbrev pub IsNear : ℕ → Mode → ℕ → List ℕ → Type 0
IsNear k (Literal b) at token = at < k
IsNear k (Number p) at token = at + length token ≤ k
IsNear k (Str i w) at token = at < k
IsNear k Want at token = Unit {0}
IsNear k First at token = Unit {0}
IsNear k FirstKey at token = Unit {0}
IsNear k NextKey at token = Unit {0}
IsNear k Colon at token = Unit {0}
IsNear k After at token = Unit {0}

abbrev pub IsSound : ℕ → Machine → Type 0
IsSound k m = ModeHolds m.mode × HasEmptyToken m.mode m.token.items × IsNear k m.mode m.at m.token.items

-- nothing of it has changed but, at most, the room of its buffers
pub record SameMachine (old new : Machine) : Type 0 where
  pub levels : new.levels.items ≡ old.levels.items
  pub mode : new.mode ≡ old.mode
  pub at : new.at ≡ old.at
  pub token : new.token.items ≡ old.token.items

-- an event of the bytes up to the one at k
abbrev pub EventNear : ℕ → RawEvent → Type 0
EventNear k (Begin at o) = at ≤ k
EventNear k (Finish at) = at ≤ k
EventNear k (Key at end x) = at ≤ k
EventNear k (Null at) = at ≤ k
EventNear k (Boolean at b) = at ≤ k
EventNear k (Num at x) = at + length x.items ≤ k
EventNear k (Text at end x) = at ≤ k

abbrev pub AnswerNear : ℕ → Answer → Type 0
AnswerNear k Refused = Unit {0}
AnswerNear k Quiet = Unit {0}
AnswerNear k (One e) = EventNear k e
AnswerNear k (Two e f) = EventNear k e × EventNear k f

-- it tells at most one event
abbrev pub IsAtMostOne : Answer → Type 0
IsAtMostOne Refused = Unit {0}
IsAtMostOne Quiet = Unit {0}
IsAtMostOne (One e) = Unit {0}
IsAtMostOne (Two e f) = ⊥

abbrev pub IsNotRefused : Answer → Type 0
IsNotRefused Refused = ⊥
IsNotRefused Quiet = Unit {0}
IsNotRefused (One e) = Unit {0}
IsNotRefused (Two e f) = Unit {0}

abbrev pub told_last : Option RawEvent → List tree.Event
told_last None = []
told_last (Some e) = event_of e ∷ []
