-- The command `evaluate`: what is due, what stands behind each status, and what a run promises.
--
-- `old` and `new` are what the desk shows before and after a run.
use Rattle.std.specs.Prelude.{◌≡◌, ℕ, ◌-◌, ◌^◌, ◌≤◌, ℤ, List, Option, Some}
use Rattle.plan_desk.specs.Desk.{Shown}
use Rattle.plan_desk.specs.Contents.{TellsSuch, Says}
use Rattle.json_grammar.specs.Tree.{Tree}
use Rattle.instance_model.specs.declared.limits.Limits.{Limits}
use Rattle.instance_model.specs.Tables.{Tables}
use Rattle.instance_model.specs.Rules.{first_rule, KeepsRules}
use Rattle.instance_model.specs.declared.rule.Rule.{Rule}
use Rattle.instance_model.specs.Exact.{EnclosesReading}
use Rattle.instance_shape.specs.Defined.{IsTreeOf}
use Rattle.instance_shape.specs.OwnNumbers.{AreOwnNumbers}
use Rattle.command_frame.specs.Sources.{Source}
use Rattle.command_frame.specs.Reports.{feasible_report, infeasible_report}
use Rattle.command_frame.specs.Ending.{Answer, IsOneAnswer, OrMemory, IsQuiet, Ends, Behind, IsAllowed}
use Rattle.command_frame.specs.Ending.{IsAnswered, NoFault}
use Rattle.command_frame.specs.Bytes.{RefusesInstance, IsRefusedInstance, RefusesPlan, IsRefusedPlan}
use Rattle.command_frame.specs.Files.{reading, by_bytes, ReadsInstance, ReadsPlan, SaysUnread, SaysRefusal}
use Rattle.command_frame.specs.Files.{TellsMissing, TellsBytes, TellsInstance, TellsPlan}
use Rattle.command_answers.specs.Evaluate.{EnclosesEveryReading, AnswersEvaluate}

-- ---- what is due

-- what is due, once the desk shows `at`
abbrev pub DueEvaluate : Limits → Source → List ℕ → (old at : Shown) → Answer → Type 0
DueEvaluate limits source plan old at =
    OrMemory (AnswersEvaluate limits (reading old at) source.slack source.instance plan)

-- ---- what stands behind each status

-- The printed values of a plan enclose those of the risk numbers as the file has them. Where each of these is a whole
-- multiple of 10^-places, for places of at least 12, the multiples are numbers of which 10^(places - 12) make one
-- count.
abbrev pub EnclosesOwnNumbers : List ℕ → Tables → List (Option ℕ) → Type 0
EnclosesOwnNumbers bytes inst plan = (root : Tree) (places : ℕ) (numbers : List ℤ) → IsTreeOf bytes root → 12 ≤ places
    → AreOwnNumbers places root numbers → EnclosesReading inst plan (10 ^ (places - 12)) numbers

-- 0: both files were read, the plan keeps the rules, and its report was said, whose values enclose the exact ones,
-- those of the file's own numbers among them
pub record ReportsFeasible (limits : Limits) (source : Source) (name : List ℕ) (old new : Shown) : Type 0 where
  pub inst : Tables
  pub reads : ReadsInstance limits source old inst
  pub plan : List (Option ℕ)
  pub reads_plan : ReadsPlan limits name inst old plan
  pub keeps : KeepsRules inst plan
  pub encloses : EnclosesEveryReading inst plan
  pub encloses_own : EnclosesOwnNumbers reads.bytes inst plan
  pub says : Says (feasible_report inst plan) old new

-- 1: both files were read, the plan does not keep the rules, and the first rule that it breaks was said
pub record ReportsBroken (limits : Limits) (source : Source) (name : List ℕ) (old new : Shown) : Type 0 where
  pub inst : Tables
  pub reads : ReadsInstance limits source old inst
  pub plan : List (Option ℕ)
  pub reads_plan : ReadsPlan limits name inst old plan
  pub not_kept : KeepsRules inst plan → ⊥
  pub rule : Rule
  pub first : first_rule inst plan ≡ Some rule
  pub says : Says (infeasible_report inst rule) old new

pub data BehindEvaluate (limits : Limits) (source : Source) (name : List ℕ) (old new : Shown) : ℕ → Type 0 where
  feasible : ReportsFeasible limits source name old new → BehindEvaluate limits source name old new 0
  infeasible : ReportsBroken limits source name old new → BehindEvaluate limits source name old new 1
  refused_instance : SaysRefusal source.instance (RefusesInstance limits) old new
      → BehindEvaluate limits source name old new 3
  refused_plan : (inst : Tables) → ReadsInstance limits source old inst
      → SaysRefusal name (RefusesPlan limits inst) old new → BehindEvaluate limits source name old new 4
  unread_instance : SaysUnread 2 source.instance old new → BehindEvaluate limits source name old new 7
  unread_plan : (inst : Tables) → ReadsInstance limits source old inst → SaysUnread 3 name old new
      → BehindEvaluate limits source name old new 7

-- ---- which status comes, from what the files are told to hold

pub data ExpectsEvaluate (limits : Limits) (source : Source) (name : List ℕ) (old : Shown) : ℕ → Type 0 where
  no_instance : TellsMissing old source.instance → ExpectsEvaluate limits source name old 7
  refused_instance : TellsSuch old source.instance (IsRefusedInstance limits) → ExpectsEvaluate limits source name old 3
  no_plan : (inst : Tables) → TellsInstance limits old source inst → TellsMissing old name
      → ExpectsEvaluate limits source name old 7
  refused_plan : (inst : Tables) → TellsInstance limits old source inst → TellsSuch old name (IsRefusedPlan limits inst)
      → ExpectsEvaluate limits source name old 4
  kept_plan : (inst : Tables) (plan : List (Option ℕ)) → TellsInstance limits old source inst
      → TellsPlan limits old name inst plan → KeepsRules inst plan → ExpectsEvaluate limits source name old 0
  broken_plan : (inst : Tables) (plan : List (Option ℕ)) → TellsInstance limits old source inst
      → TellsPlan limits old name inst plan → (KeepsRules inst plan → ⊥) → ExpectsEvaluate limits source name old 1

-- ---- what a run promises

pub record RunsEvaluate (limits : Limits) (source : Source) (name : List ℕ) (old new : Shown) (status : ℕ)
    : Type 0 where
  -- what was due was said, or its saying failed
  pub ends : Ends (DueEvaluate limits source name old) old new status
  -- what stands behind the status, which also is one of these
  pub behind : Behind (BehindEvaluate limits source name old new) (DueEvaluate limits source name old) old new status
  -- which status comes
  pub allowed : (expected : ℕ) → ExpectsEvaluate limits source name old expected → IsAllowed expected status
  -- without a fault, the answer is the one for the bytes of the files, or want of memory
  pub exact : (instance plan : List ℕ) → TellsBytes old source.instance instance → TellsBytes old name plan
      → NoFault old new → IsAnswered (AnswersEvaluate limits by_bytes source.slack instance plan) old new status
  -- the bytes have at most one answer
  pub one : (slack : ℕ) (instance plan : List ℕ) → IsOneAnswer (AnswersEvaluate limits by_bytes slack instance plan)
  -- no file is changed
  pub output : new.output ≡ old.output
  -- no call failed, but at 7 and 8
  pub quiet : IsQuiet status old new
