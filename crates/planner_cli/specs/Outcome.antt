-- What a run of the words promises: that of the command that they ask for, or that they are refused.
--
-- `old` and `new` are what the desk shows before and after a run.
use Rattle.std.specs.Prelude.{◌≡◌, ℕ, List, Option, Some, None}
use Rattle.plan_desk.specs.Desk.{Shown}
use Rattle.plan_desk.specs.Contents.{Says}
use Rattle.instance_model.specs.declared.limits.Limits.{Limits}
use Rattle.command_frame.specs.Sources.{Source}
use Rattle.planner_cli.specs.Words.{Command, evaluate, replay, check, solve, table, rebound, roll, rehearse}
use Rattle.planner_cli.specs.Words.{command_of}
use Rattle.command_frame.specs.Lines.{words_line}
use Rattle.command_frame.specs.Ending.{Answer, reply, IsQuiet, IsUnsaid, Ends}
use Rattle.command_evaluate.specs.Evaluating.{RunsEvaluate}
use Rattle.command_replay.specs.Replaying.{RunsReplay}
use Rattle.command_check.specs.Checking.{RunsCheck}
use Rattle.command_solve.specs.Solving.{SolveFiles, RunsSolve}
use Rattle.command_table.specs.Tabling.{RunsTable}
use Rattle.command_rebound.specs.Rebinding.{RunsRebound}
use Rattle.command_roll.specs.Rolling.{RollFiles, RunsRoll}
use Rattle.command_rehearse.specs.Rehearsing.{RunsRehearse}

-- the words ask for this command
abbrev pub Asks : List (List ℕ) → Command → Type 0
Asks words c = command_of words ≡ Some c

-- they are words of `rebound`; they are words of `roll`
abbrev pub AskToRebound : List (List ℕ) → Type 0
AskToRebound words = (source : Source) × ((cert : List ℕ) × ((out : List ℕ) × Asks words (rebound source cert out)))

abbrev pub AskToRoll : List (List ℕ) → Type 0
AskToRoll words = (files : RollFiles) × ((period : ℕ) × Asks words (roll files period))

-- what is due for words that are not in the grammar
abbrev pub DueRefusal : Shown → Answer → Type 0
DueRefusal at a = a ≡ reply 2 words_line

-- what stands behind each status of such words
pub data BehindRefusal (old new : Shown) : ℕ → Type 0 where
  refused : Says words_line old new → BehindRefusal old new 2
  unsaid : IsUnsaid DueRefusal old new → BehindRefusal old new 8

-- what a run of such words promises
pub record RefusesWords (old new : Shown) (status : ℕ) : Type 0 where
  pub ends : Ends DueRefusal old new status
  pub behind : BehindRefusal old new status
  -- no file is changed
  pub output : new.output ≡ old.output
  -- no call failed, but at 7 and 8
  pub quiet : IsQuiet status old new

-- what a run of any words promises, within these limits
pub record Outcome (limits : Limits) (words : List (List ℕ)) (old new : Shown) (status : ℕ) : Type 0 where
  pub no_command : command_of words ≡ None → RefusesWords old new status
  pub evaluates : (source : Source) (plan : List ℕ) → Asks words (evaluate source plan)
      → RunsEvaluate limits source plan old new status
  pub replays : (source : Source) (plan script : List ℕ) → Asks words (replay source plan script)
      → RunsReplay limits source plan script old new status
  pub checks : (source : Source) (plan : Option (List ℕ)) (cert : List ℕ) → Asks words (check source plan cert)
      → RunsCheck limits source plan cert old new status
  pub solves : (source : Source) (files : SolveFiles) (turns : ℕ) → Asks words (solve source files turns)
      → RunsSolve limits source files turns old new status
  pub tabulates : (source : Source) (plan : List ℕ) (from to : ℕ) → Asks words (table source plan from to)
      → RunsTable limits source plan from to old new status
  pub rebounds : (source : Source) (cert out : List ℕ) → Asks words (rebound source cert out)
      → RunsRebound limits source cert out old new status
  pub rolls : (files : RollFiles) (period : ℕ) → Asks words (roll files period)
      → RunsRoll limits files period old new status
  pub rehearses : (seed count : ℕ) → Asks words (rehearse seed count) → RunsRehearse seed count old new status
  -- no call failed, but at 7 and 8
  pub quiet : IsQuiet status old new
