-- The meaning of a move script: the lists of plans along its lines.
use Rattle.std.specs.Prelude.{◌≡◌, ℕ, ◌+◌, ◌<◌, ◌≤◌, List, [], ◌∷◌, ◌++◌, length, map, ⊤, Option, Some, None}
use Rattle.std.specs.Prelude.{if◌then◌else◌, ◌&&◌, nat_lt, slice_index, slice_set}
use Rattle.std.specs.List.{swap}
use Rattle.instance_model.specs.Tables.{Tables, is_allowed}
use Rattle.instance_model.specs.declared.key.Key.{Key}
use Rattle.plan_moves.specs.declared.change.Change.{Change}
use Rattle.plan_moves.specs.declared.change.Change.TheVariants as change
use Rattle.plan_moves.specs.declared.script_line.ScriptLine.{ScriptLine}
use Rattle.plan_moves.specs.declared.script_line.ScriptLine.TheVariants.{Move, Swap, Undo}
use Rattle.plan_moves.specs.KeptPlans.{present, present_key, without_last}

-- The list of plans after a line. None where the line fails: a start that isn't allowed, or
-- no plan but the first one to go back from.
abbrev pub after_line : Tables → List (List ℕ) → ScriptLine → Option (List (List ℕ))
after_line inst plans (Move i s) =
    if is_allowed inst i s then Some (plans ++ slice_set (present plans) i s ∷ []) else None
after_line inst plans (Swap i j) =
    if is_allowed inst i (slice_index (present plans) j) && is_allowed inst j (slice_index (present plans) i)
    then Some (plans ++ swap (present plans) i j ∷ [])
    else None
after_line inst plans Undo = if nat_lt 1 (length plans) then Some (without_last plans) else None

-- the lists of plans, where there is one: this one, and that after each line, up to the first line that fails
abbrev pub lists_along : Tables → Option (List (List ℕ)) → List ScriptLine → List (List (List ℕ))
lists_along inst None lines = []
lists_along inst (Some plans) [] = plans ∷ []
lists_along inst (Some plans) (line ∷ lines) = plans ∷ lists_along inst (after_line inst plans line) lines

-- the lists of plans along a script, from the opening plan alone
abbrev pub lists_of : Tables → List ℕ → List ScriptLine → List (List (List ℕ))
lists_of inst opening script = lists_along inst (Some (opening ∷ [])) script

-- the keys of the present plans along a script, that of the opening plan first
abbrev pub keys_of : Tables → List ℕ → List ScriptLine → List Key
keys_of inst opening script = map (present_key inst) (lists_of inst opening script)

-- no line of the script fails
abbrev pub Succeeds : Tables → List ℕ → List ScriptLine → Type 0
Succeeds inst opening script = length (lists_of inst opening script) ≡ length script + 1

-- line n, counted from 1, is the first that fails
pub record FailsAt (inst : Tables) (opening : List ℕ) (script : List ScriptLine) (n : ℕ) : Type 0 where
  pub within : n ≤ length script
  pub reached : length (lists_of inst opening script) ≡ n

-- the interventions that a line names are interventions of the instance
abbrev pub NamesKnown : Tables → ScriptLine → Type 0
NamesKnown inst (Move i s) = i < length inst.names
NamesKnown inst (Swap i j) = (i < length inst.names) × (j < length inst.names)
NamesKnown inst Undo = ⊤

-- a change as a line of a script
abbrev pub line_of : Change → ScriptLine
line_of (change.Move i s) = Move i s
line_of (change.Swap i j) = Swap i j
