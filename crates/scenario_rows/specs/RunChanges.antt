-- Runs that are put on board and taken off it, one after another.
use Rattle.std.specs.Prelude.{◌≡◌, ℕ, ◌<◌, List, [], ◌∷◌, length, Option, Some, None, IsTrue, slice_set}
use Rattle.instance_model.specs.Tables.{Tables, is_allowed}
use Rattle.instance_model.specs.Plans.{start_of}
use Rattle.scenario_rows.specs.declared.change.Change.{Change}
use Rattle.scenario_rows.specs.declared.change.Change.TheVariants.{Add, Take}
use Rattle.scenario_rows.specs.declared.change.RunChange.{RunChange}

-- what stands on board of an intervention with this start before a change, and after it
abbrev pub start_before : Change → ℕ → Option ℕ
start_before Add s = None
start_before Take s = Some s

abbrev pub start_after : Change → ℕ → Option ℕ
start_after Add s = Some s
start_after Take s = None

-- the board after one change, and after some, one after another
abbrev pub after_run : RunChange → List (Option ℕ) → List (Option ℕ)
after_run run board = slice_set board run.i (start_after run.change run.s)

abbrev pub board_after : List RunChange → List (Option ℕ) → List (Option ℕ)
board_after [] board = board
board_after (run ∷ runs) board = board_after runs (after_run run board)

-- the run is that of an intervention of the instance, at an allowed start
pub record IsKnownRun (inst : Tables) (run : RunChange) : Type 0 where
  pub number : run.i < length inst.names
  pub allowed : IsTrue (is_allowed inst run.i run.s)

-- a run that is put on board belongs to an intervention that is not there, and one that is taken off is there
pub record CanChangeRun (inst : Tables) (board : List (Option ℕ)) (run : RunChange) : Type 0 where
  pub known : IsKnownRun inst run
  pub before : start_of board run.i ≡ start_before run.change run.s

-- the same of some changes, one after another
abbrev pub CanChangeRuns : Tables → List (Option ℕ) → List RunChange → Type 0
CanChangeRuns inst board [] = Unit {0}
CanChangeRuns inst board (run ∷ runs) = CanChangeRun inst board run × CanChangeRuns inst (after_run run board) runs
