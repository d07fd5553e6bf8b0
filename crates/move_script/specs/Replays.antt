-- What a replay says, and where it fails.
use Rattle.std.specs.Prelude.{◌≡◌, ◌≢◌, ℕ, ◌+◌, ◌-◌, ◌<◌, ⊤, List, [], ◌∷◌, ◌++◌, length, take, slice_index_or, codes}
use Rattle.std.specs.Prelude.{decimal, Result, Ok, Err}
use Rattle.std.specs.Fmt.{signed_decimal}
use Rattle.plan_desk.specs.Desk.{Shown, ShowsSame, after_say}
use Rattle.instance_model.specs.Tables.{Tables}
use Rattle.instance_model.specs.declared.key.Key.{Key}
use Rattle.plan_moves.specs.declared.script_line.ScriptLine.{ScriptLine}
use Rattle.plan_moves.specs.declared.script_line.ScriptLine.TheVariants.{Undo}
use Rattle.plan_moves.specs.Scripts.{keys_of, FailsAt}
use Rattle.move_script.specs.declared.replay_fault.ReplayFault.{ReplayFault}
use Rattle.move_script.specs.declared.replay_fault.ReplayFault.TheVariants.{NotAllowed, NothingToUndo, Failed, Memory}

-- the line that is said of a key: the number of the script's line, 0 for the
-- opening, the violation in counts and the score
abbrev pub key_line : ℕ → Key → List ℕ
key_line n key =
    decimal n ++ codes " " ++ signed_decimal key.violation ++ codes " " ++ signed_decimal key.score ++ codes "\n"

-- the lines of keys, numbered from n
abbrev pub key_lines : ℕ → List Key → List ℕ
key_lines n [] = []
key_lines n (key ∷ keys) = key_line n key ++ key_lines (n + 1) keys

-- what a replay says: the key of the opening, and that after each line, up to the first line that fails
abbrev pub replay_text : Tables → List ℕ → List ScriptLine → List ℕ
replay_text inst opening script = key_lines 0 (keys_of inst opening script)

-- line n of the script, counted from 1
abbrev pub script_line : List ScriptLine → ℕ → ScriptLine
script_line script n = slice_index_or script (n - 1) Undo

-- line n is the first that fails, and it is a move or an exchange to a start that isn't allowed
pub record FailsByStart (inst : Tables) (opening : List ℕ) (script : List ScriptLine) (n : ℕ) : Type 0 where
  pub fails : FailsAt inst opening script n
  pub changes : script_line script n ≢ Undo

-- line n is the first that fails, and it undoes where there is no plan but the opening
pub record FailsByUndo (inst : Tables) (opening : List ℕ) (script : List ScriptLine) (n : ℕ) : Type 0 where
  pub fails : FailsAt inst opening script n
  pub undoes : script_line script n ≡ Undo

-- how much of the text was said: all of it but where the desk failed, and nothing where memory ran out
abbrev pub SaysKeys : Result ⊤ ReplayFault → List ℕ → (old new : Shown) → Type 0
SaysKeys (Ok x) text old new = ShowsSame new (after_say text old)
SaysKeys (Err (NotAllowed n)) text old new = ShowsSame new (after_say text old)
SaysKeys (Err (NothingToUndo n)) text old new = ShowsSame new (after_say text old)
SaysKeys (Err Failed) text old new = (n : ℕ) × (n < length text) × ShowsSame new (after_say (take n text) old)
SaysKeys (Err Memory) text old new = ShowsSame new old
