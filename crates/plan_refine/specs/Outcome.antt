-- What a run of the words promises: that of the command that they ask for, or that they are refused.
--
-- `old` and `new` are what the desk shows before and after a run.
use Rattle.std.specs.Prelude.{◌≡◌, ℕ, List, Option, Some, None}
use Rattle.plan_desk.specs.Desk.{Shown}
use Rattle.plan_desk.specs.Contents.{Says}
use Rattle.instance_model.specs.Limits.{standard_limits}
use Rattle.branch_search.specs.declared.part.Part.{Part}
use Rattle.command_frame.specs.Sources.{Source}
use Rattle.command_frame.specs.Lines.{words_line}
use Rattle.command_frame.specs.Ending.{Answer, reply, IsQuiet, IsUnsaid, Ends}
use Rattle.refined_files.specs.RefinedKind.{refined_kind}
use Rattle.command_check.specs.Checking.{RunsCheckBy}
use Rattle.command_rebound.specs.Rebinding.{RunsReboundBy}
use Rattle.command_bound.specs.Bounding.{RunsBound}
use Rattle.command_improve.specs.Improving.{RunsImprove}
use Rattle.plan_refine.specs.Words.{Command, check, rebound, bound, improve, command_of}

-- the words ask for this command
abbrev pub Asks : List (List ℕ) → Command → Type 0
Asks words c = command_of words ≡ Some c

-- what is due for words that are not in the grammar
abbrev pub DueRefusal : Shown → Answer → Type 0
DueRefusal at a = a ≡ reply 2 words_line

-- what stands behind each status of such words
pub data BehindRefusal (old new : Shown) : ℕ → Type 0 where
  refused : Says words_line old new → BehindRefusal old new 2
  unsaid : IsUnsaid DueRefusal old new → BehindRefusal old new 8

-- what a run of such words promises
pub record RefusesWords (old new : Shown) (status : ℕ) : Type 0 where
  pub ends : Ends DueRefusal old new status
  pub behind : BehindRefusal old new status
  -- no file is changed
  pub output : new.output ≡ old.output
  -- no call failed, but at 7 and 8
  pub quiet : IsQuiet status old new

-- what a run of any words promises; certificates are of any version, and those that are written of version 3
pub record Outcome (words : List (List ℕ)) (old new : Shown) (status : ℕ) : Type 0 where
  pub no_command : command_of words ≡ None → RefusesWords old new status
  pub checks : (source : Source) (plan : Option (List ℕ)) (cert : List ℕ) → Asks words (check source plan cert)
      → RunsCheckBy refined_kind standard_limits source plan cert old new status
  pub rebounds : (source : Source) (cert out : List ℕ) → Asks words (rebound source cert out)
      → RunsReboundBy refined_kind standard_limits source cert out old new status
  pub bounds : (source : Source) (plan cert : Option (List ℕ)) (out : List ℕ) (turns : ℕ) (part : Part)
      → Asks words (bound source plan cert out turns part)
      → RunsBound standard_limits source plan cert out turns part old new status
  pub improves : (source : Source) (plan : Option (List ℕ)) (out : List ℕ) (turns seed : ℕ)
      → Asks words (improve source plan out turns seed)
      → RunsImprove standard_limits source plan out turns seed old new status
  -- no call failed, but at 7 and 8
  pub quiet : IsQuiet status old new
