-- What the steps of a solution come to. Cited by private functions only: no part of any promise.
use Rattle.std.specs.Prelude.{◌≡◌, ◌⊎◌, ℕ, ℤ, List, [], ◌∷◌, ◌++◌, length, Option, Some, None, IfSome, codes}
use Rattle.plan_desk.specs.Desk.{Shown, ShowsSame, after_take_in}
use Rattle.plan_desk.specs.Contents.{KeepsFiles}
use Rattle.instance_model.specs.Limits.{standard_limits}
use Rattle.instance_model.specs.declared.limits.Limits.{Limits}
use Rattle.instance_model.specs.Tables.{Tables}
use Rattle.plan_score.specs.declared.values.Values.{Values}
use Rattle.command_frame.specs.declared.refusal.Refusal.{Refusal}
use Rattle.command_frame.specs.Sources.{Source}
use Rattle.command_frame.specs.Lines.{memory_line, numbered_line}
use Rattle.command_frame.specs.Reports.{score_line, ranges_text, rounded_line}
use Rattle.command_frame.specs.Ending.{Writing, Answer}
use Rattle.command_frame.specs.Files.{ReadsInstance, ReadsGiven}
use Rattle.command_frame.specs.Refusals.{SaysOrFails, IsInstanceCause, IsGivenCause}
use Rattle.command_frame.specs.Writing.{IsWritablePlan, TellsAnswer}
use Rattle.command_improve.specs.declared.solution.Solution.{Solution}
use Rattle.command_improve.specs.Improving.{before_line, out_write, Improves}

-- ---- the report

-- that of a plan with these values
abbrev pub values_report : Tables → Values → (before : Option ℤ) → (changed : ℕ) → List ℕ
values_report inst v before changed =
    codes "plan improved\n"
    ++ score_line v.score
    ++ before_line before
    ++ numbered_line (codes "changed ") changed
    ++ ranges_text v
    ++ rounded_line inst.rounded

-- ---- the solution

-- the file of the plan, if there is one
abbrev pub out_writes : Tables → List ℕ → Option (List ℕ) → List Writing
out_writes inst out None = []
out_writes inst out (Some plan) = out_write inst out plan ∷ []

-- a solution as an answer that writes the file of this name
abbrev pub answer_of : Tables → List ℕ → Solution → Answer
answer_of inst out s =
    record { status = s.report.status; text = s.report.text; writes = out_writes inst out s.plan }

-- a solution is an answer, whatever the file is called, and its file can be written
pub record IsSolution (inst : Tables) (given : Option (List (Option ℕ))) (turns : ℕ) (s : Solution) : Type 0 where
  pub improves : (out : List ℕ) → Improves standard_limits inst given out turns (answer_of inst out s)
  pub writable : IfSome s.plan (IsWritablePlan inst)

-- ---- the files

-- the files of `improve` were read
pub record AreRead (limits : Limits) (source : Source) (name : Option (List ℕ)) (old : Shown) (inst : Tables)
    (plan : Option (List (Option ℕ))) : Type 0 where
  pub reads : ReadsInstance limits source old inst
  pub reads_plan : ReadsGiven limits name inst old plan
  pub each : IfSome plan (λ p. length p ≡ length inst.names)

-- the plan file was refused, after the instance was read
pub record IsPlanRefused (limits : Limits) (source : Source) (name : Option (List ℕ)) (old new : Shown)
    (refusal : Refusal) : Type 0 where
  pub inst : Tables
  pub reads : ReadsInstance limits source old inst
  pub at : Shown
  pub read : ShowsSame at (after_take_in source.instance [] old)
  pub same : at.faults ≡ old.faults
  pub cause : IsGivenCause limits 3 name inst at new refusal

-- why they were not
abbrev pub IsReadCause : Limits → Source → Option (List ℕ) → (old new : Shown) → Refusal → Type 0
IsReadCause limits source name old new refusal =
    IsInstanceCause limits 2 source.instance old new refusal ⊎ IsPlanRefused limits source name old new refusal

-- an answer to an instance and a plan was told, or memory ran out before a file was opened
pub data TellsSolution (inst : Tables) (given : Option (List (Option ℕ))) (out : List ℕ) (turns : ℕ) (old new : Shown)
    (status : ℕ) : Type 0 where
  told : (a : Answer) → Improves standard_limits inst given out turns a → TellsAnswer a old new status
      → TellsSolution inst given out turns old new status
  no_memory : KeepsFiles old new → SaysOrFails 11 memory_line old new status
      → TellsSolution inst given out turns old new status
