-- Numbers that stand whole in a buffer. Not part of any promise: only private functions cite it.
use Rattle.std.specs.Prelude.{◌≡◌, ℕ, ◌+◌, ◌≤◌, ◌<◌, ◌⊎◌, List, [], ◌∷◌, ◌++◌, length, take, drop, get_or, Bool}
use Rattle.std.specs.Prelude.{true, Some}
use Rattle.std.specs.List.{prefix_len}
use Rattle.json_grammar.specs.Tree as json
use Rattle.json_grammar.specs.Grammar.{IsDigit}
use Rattle.json_grammar.specs.laws.Machine.{State, st, Phase, want, number, minus, may_end, go, step, after_step, run}
use Rattle.json_grammar.specs.laws.Machine.{is_plain}
use Rattle.json_machine.specs.Machines.{levels_of}
use Rattle.json_machine.specs.declared.machine.Machine.{Machine}
use Rattle.json_machine.specs.declared.machine.Mode.TheVariants.{Want, First}

-- the first bytes, so many, take each number from one place in it to another
pub record GoesOn (from : Phase) (bytes : List ℕ) (count : ℕ) (to : Phase) : Type 0 where
  pub within : count ≤ length bytes
  pub runs : (k at : ℕ) (levels : List Bool) (token : List ℕ) → run k (st levels (number at token from)) (take count
      bytes) ≡ Some (st levels (number at (token ++ take count bytes) to), [])

-- and the number may end there
pub record EndsNumber (from : Phase) (bytes : List ℕ) (count : ℕ) (to : Phase) : Type 0 where
  pub goes_on : GoesOn from bytes count to
  pub ends : may_end to ≡ true

-- the first bytes, so many, are a number that begins with a digit
pub record BeginsNumber (bytes : List ℕ) (count : ℕ) (to : Phase) : Type 0 where
  pub number : EndsNumber minus bytes count to
  pub some : 0 < count
  pub first : IsDigit (get_or bytes 0 0)

-- the first bytes, so many, are a number, which the byte behind them tells
pub record TakesNumber (k : ℕ) (old : State) (bytes : List ℕ) (count : ℕ) (event : json.Event)
    (new : State) : Type 0 where
  pub inside : State
  pub runs : run k old (take count bytes) ≡ Some (inside, [])
  pub within : count < length bytes
  pub tells : step (k + count) inside.levels inside.mode (get_or bytes count 0) ≡ Some (new, event ∷ [])
  pub same_levels : new.levels ≡ old.levels

-- the first bytes, so many, are a number, behind which the byte behind them tells these events
pub record TakesWithEnd (k : ℕ) (old : State) (bytes : List ℕ) (count : ℕ) (events : List json.Event)
    (new : State) : Type 0 where
  pub inside : State
  pub runs : run k old (take count bytes) ≡ Some (inside, [])
  pub within : count < length bytes
  pub tells : step (k + count) inside.levels inside.mode (get_or bytes count 0) ≡ Some (new, events)
  pub no_deeper : length new.levels ≤ length old.levels

-- the first bytes, so many, are a number with a comma behind it
pub record IsBeforeComma (bytes : List ℕ) (count : ℕ) : Type 0 where
  pub to : Phase
  pub begins : BeginsNumber bytes count to
  pub within : count < length bytes
  pub comma : get_or bytes count 0 ≡ 44

-- a value may come next, and behind a comma another one, as in a list
pub record AwaitsItem (machine : Machine) : Type 0 where
  pub value : (machine.mode ≡ Want) ⊎ (machine.mode ≡ First)
  pub comma : (k : ℕ) → after_step k (levels_of machine.levels.items) 44 ≡ go (levels_of machine.levels.items) want

-- the first bytes are a key whose characters, so many, are plain, with its quotes
pub record IsWholeKey (bytes : List ℕ) (count : ℕ) : Type 0 where
  pub opens : get_or bytes 0 0 ≡ 34
  pub plain : count ≡ prefix_len is_plain (drop 1 bytes)
  pub within : 1 + count < length bytes
  pub closes : get_or bytes (1 + count) 0 ≡ 34
