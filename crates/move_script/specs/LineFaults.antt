-- The fault of a line that can't be followed.
use Rattle.std.specs.Prelude.{ℕ}
use Rattle.plan_moves.specs.declared.script_line.ScriptLine.{ScriptLine}
use Rattle.plan_moves.specs.declared.script_line.ScriptLine.TheVariants.{Move, Swap, Undo}
use Rattle.move_script.specs.declared.replay_fault.ReplayFault.{ReplayFault}
use Rattle.move_script.specs.declared.replay_fault.ReplayFault.TheVariants.{NotAllowed, NothingToUndo}

-- the fault of line n, counted from 1: a line that undoes finds no change, and
-- each other one sets a start that isn't allowed
abbrev pub line_fault : ScriptLine → ℕ → ReplayFault
line_fault (Move i s) n = NotAllowed n
line_fault (Swap i j) n = NotAllowed n
line_fault Undo n = NothingToUndo n
