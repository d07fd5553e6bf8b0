-- What a run of the words promises: that of the command that they ask for, or that they are refused.
--
-- `old` and `new` are what the desk shows before and after a run.
use Rattle.std.specs.Prelude.{◌≡◌, ℕ, List, Some, None}
use Rattle.plan_desk.specs.Desk.{Shown}
use Rattle.plan_desk.specs.Contents.{Says}
use Rattle.instance_model.specs.Limits.{standard_limits}
use Rattle.command_frame.specs.Sources.{Source}
use Rattle.command_frame.specs.Lines.{words_line}
use Rattle.command_frame.specs.Ending.{Answer, reply, IsQuiet, IsUnsaid, Ends}
use Rattle.command_audit.specs.Auditing.{RunsAudit}
use Rattle.command_repair.specs.Repairing.{RepairFiles, RunsRepair}
use Rattle.plan_repair.specs.Words.{Command, audit, repair, command_of}

-- the words ask for this command
abbrev pub Asks : List (List ℕ) → Command → Type 0
Asks words c = command_of words ≡ Some c

-- what is due for words that are not in the grammar
abbrev pub DueRefusal : Shown → Answer → Type 0
DueRefusal at a = a ≡ reply 2 words_line

-- what stands behind each status of such words
pub data BehindRefusal (old new : Shown) : ℕ → Type 0 where
  refused : Says words_line old new → BehindRefusal old new 2
  unsaid : IsUnsaid DueRefusal old new → BehindRefusal old new 8

-- what a run of such words promises
pub record RefusesWords (old new : Shown) (status : ℕ) : Type 0 where
  pub ends : Ends DueRefusal old new status
  pub behind : BehindRefusal old new status
  -- no file is changed
  pub output : new.output ≡ old.output
  -- no call failed, but at 7 and 8
  pub quiet : IsQuiet status old new

-- what a run of any words promises
pub record Outcome (words : List (List ℕ)) (old new : Shown) (status : ℕ) : Type 0 where
  pub no_command : command_of words ≡ None → RefusesWords old new status
  pub audits : (source : Source) (plan cert : List ℕ) → Asks words (audit source plan cert)
      → RunsAudit standard_limits source plan cert old new status
  pub repairs : (source : Source) (plan : List ℕ) (files : RepairFiles) (turns : ℕ)
      → Asks words (repair source plan files turns)
      → RunsRepair standard_limits source plan files turns old new status
  -- no call failed, but at 7 and 8
  pub quiet : IsQuiet status old new
