-- Keys that are told by their numbers. Not part of any promise: only private functions cite it.
use Rattle.std.specs.Prelude.{◌≡◌, ℕ, ◌≤◌, List, [], ◌∷◌, ◌++◌, length, take, drop}
use Rattle.json_grammar.specs.Tree as json
use Rattle.json_grammar.specs.Token.{digit_count}
use Rattle.decimal_numbers.specs.Decimal.{number_from}
use Rattle.json_machine.specs.NumberRuns.{IsWholeKey}
use Rattle.json_machine.specs.declared.machine.Machine.{Machine}
use Rattle.json_events.specs.Readings.{HasTold}
use Rattle.json_events.specs.declared.unread.Unread.{Unread}

-- a text of 1 to 9 digits, which write the number
pub record IsNumberText (text : List ℕ) (number : ℕ) : Type 0 where
  pub some : 1 ≤ length text
  pub few : length text ≤ 9
  pub digits : digit_count text ≡ length text
  pub value : number ≡ number_from 0 text

-- the first bytes are a key of so many digits, with its quotes
pub record IsKeyRun (bytes : List ℕ) (count number : ℕ) : Type 0 where
  pub key : IsWholeKey bytes count
  pub text : IsNumberText (take count (drop 1 bytes)) number

-- a key at the place, whose digits write the number, was told, from one state of the machine and the buffer to another
pub record TellsKey (at number : ℕ) (old : Machine) (before : Unread) (new : Machine) (behind : Unread) : Type 0 where
  pub end : ℕ
  pub text : List ℕ
  pub is : IsNumberText text number
  pub tells : (stream : List ℕ) (told : List json.Event) → HasTold old before stream told
      → HasTold new behind stream (told ++ json.key at end text ∷ [])
