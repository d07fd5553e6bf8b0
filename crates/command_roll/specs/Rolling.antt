-- The command `roll`: the answer to an instance, a plan and a period, what stands behind each, and what a run promises.
--
-- `old` and `new` are what the desk shows before and after a run.
use Rattle.std.specs.Prelude.{◌≡◌, ℕ, ◌<◌, ◌≤◌, List, [], ◌∷◌, ◌++◌, length, not, count_by, Option}
use Rattle.std.specs.Prelude.{Some, codes}
use Rattle.plan_desk.specs.Desk.{Shown}
use Rattle.plan_desk.specs.Contents.{TellsSuch, HoldsBytes, Says}
use Rattle.instance_model.specs.declared.limits.Limits.{Limits}
use Rattle.instance_model.specs.declared.rule.Rule.{Rule}
use Rattle.instance_model.specs.Tables.{Tables}
use Rattle.plan_roll.specs.Rolled.{is_kept, rolled}
use Rattle.plan_roll.specs.Begun.{KeptAreAllowed, first_kept_rule}
use Rattle.plan_roll.specs.Laws.{RollsPlan}
use Rattle.plan_roll.specs.Texts.{rolled_text}
use Rattle.command_frame.specs.Sources.{Source}
use Rattle.command_frame.specs.Lines.{numbered_line}
use Rattle.command_frame.specs.Reports.{infeasible_report, rounded_line}
use Rattle.command_frame.specs.Ending.{Writing, Answer, reply, IsOneAnswer, OrMemory, IsQuiet, Ends, Behind}
use Rattle.command_frame.specs.Ending.{IsAllowed, IsAnswered, NoFault}
use Rattle.command_frame.specs.Bytes.{Takes, RefusesInstance, IsRefusedInstance, RefusesPlan, IsRefusedPlan}
use Rattle.command_frame.specs.Files.{Meeting, reading, by_bytes, OnInstance, OnPlan, ReadsInstance, ReadsPlan}
use Rattle.command_frame.specs.Files.{SaysUnread, SaysRefusal, TellsMissing, TellsBytes, TellsInstance, TellsPlan}
use Rattle.command_frame.specs.Outputs.{long_output_line, KeepsAllBut, Opens}

-- ---- the files

-- the names of the files: of the instance, word 2, of the plan, word 3, and of the one that is written, word 5
pub record RollFiles : Type 0 where
  pub instance : List ℕ
  pub plan : List ℕ
  pub out : List ℕ

-- the instance file, whose bands aren't widened
abbrev pub source_of : RollFiles → Source
source_of files = record { instance = files.instance; slack = 0 }

-- ---- the report and the file

-- how many interventions are kept, how many are free, and how many numbers of the instance were changed by rounding
abbrev pub rolled_report : Tables → List (Option ℕ) → ℕ → List ℕ
rolled_report inst plan period =
    codes "rolled\n"
    ++ (numbered_line (codes "kept ") (count_by (is_kept period) plan)
    ++ (numbered_line (codes "free ") (count_by (λ o. not (is_kept period o)) plan) ++ rounded_line inst.rounded))

abbrev pub out_write : RollFiles → Tables → List (Option ℕ) → ℕ → Writing
out_write files inst plan period =
    record { word = 5; file = record { name = files.out; bytes = rolled_text inst plan period } }

-- ---- the answer

-- to an instance and a plan: 1 with the rule that the first kept start breaks; 12 where the text of the rolled instance
-- has more bytes than an instance file may have; and else 0, and the text is written
pub data Rolls (limits : Limits) (inst : Tables) (plan : List (Option ℕ)) (period : ℕ) (files : RollFiles)
    : Answer → Type 0 where
  broken : (rule : Rule) → (KeptAreAllowed inst plan period → ⊥) → first_kept_rule inst plan period ≡ Some rule
      → Rolls limits inst plan period files (reply 1 (infeasible_report inst rule))
  too_long : KeptAreAllowed inst plan period → limits.instance_bytes < length (rolled_text inst plan period)
      → Rolls limits inst plan period files (reply 12 (long_output_line 5))
  written : KeptAreAllowed inst plan period → length (rolled_text inst plan period) ≤ limits.instance_bytes
      → Rolls limits inst plan period files (record {
        status = 0;
        text = rolled_report inst plan period;
        writes = out_write files inst plan period ∷ [];
      })

-- to two files: the instance is word 2, and the plan word 3
abbrev pub AnswersRoll : Limits → Meeting → (instance plan : List ℕ) → ℕ → RollFiles → Answer → Type 0
AnswersRoll limits met instance plan period files =
    OnInstance limits 0 met 2 instance (λ inst. OnPlan limits inst met 3 plan (λ p. Rolls limits inst p period files))

-- what is due, once the desk shows `at`
abbrev pub DueRoll : Limits → RollFiles → ℕ → (old at : Shown) → Answer → Type 0
DueRoll limits files period old at =
    OrMemory (AnswersRoll limits (reading old at) files.instance files.plan period files)

-- ---- what stands behind each status

-- What the rolled text is read as: with each slack, from 0 to 10^-3, with which the bytes of the instance stand for an
-- instance, it stands for the rolled one of that. A plan keeps the rules there exactly where it keeps those of the
-- instance, gives each kept intervention its start and each other one a start in the period or later; and then its
-- loads, scenario sums and score are the same.
pub record IsReadAsRolled (limits : Limits) (bytes text : List ℕ) (plan : List (Option ℕ)) (period : ℕ) : Type 0 where
  pub takes : (slack : ℕ) (inst : Tables) → slack ≤ 1_000_000_000 → Takes limits slack bytes inst
      → Takes limits slack text (rolled inst plan period)
  pub plans : (slack : ℕ) (inst : Tables) → slack ≤ 1_000_000_000 → Takes limits slack bytes inst
      → (new : List (Option ℕ)) → RollsPlan inst plan period new

-- 0: both files were read, the kept starts are allowed, the file holds the text of the rolled instance, which is read
-- as that, and the report was said
pub record ReportsRolled (limits : Limits) (files : RollFiles) (period : ℕ) (old new : Shown) : Type 0 where
  pub inst : Tables
  pub reads : ReadsInstance limits (source_of files) old inst
  pub plan : List (Option ℕ)
  pub reads_plan : ReadsPlan limits files.plan inst old plan
  pub allowed : KeptAreAllowed inst plan period
  pub held : HoldsBytes new files.out (rolled_text inst plan period)
  pub read : IsReadAsRolled limits reads.bytes (rolled_text inst plan period) plan period
  pub says : Says (rolled_report inst plan period) old new

-- 1: both files were read, and the rule that the first kept start breaks was said
pub record ReportsBroken (limits : Limits) (files : RollFiles) (period : ℕ) (old new : Shown) : Type 0 where
  pub inst : Tables
  pub reads : ReadsInstance limits (source_of files) old inst
  pub plan : List (Option ℕ)
  pub reads_plan : ReadsPlan limits files.plan inst old plan
  pub not_allowed : KeptAreAllowed inst plan period → ⊥
  pub rule : Rule
  pub first : first_kept_rule inst plan period ≡ Some rule
  pub says : Says (infeasible_report inst rule) old new

-- 12: both files were read, the kept starts are allowed, and the text of the rolled instance is too long
pub record ReportsTooLong (limits : Limits) (files : RollFiles) (period : ℕ) (old new : Shown) : Type 0 where
  pub inst : Tables
  pub reads : ReadsInstance limits (source_of files) old inst
  pub plan : List (Option ℕ)
  pub reads_plan : ReadsPlan limits files.plan inst old plan
  pub allowed : KeptAreAllowed inst plan period
  pub long : limits.instance_bytes < length (rolled_text inst plan period)
  pub says : Says (long_output_line 5) old new

pub data BehindRoll (limits : Limits) (files : RollFiles) (period : ℕ) (old new : Shown) : ℕ → Type 0 where
  written : ReportsRolled limits files period old new → BehindRoll limits files period old new 0
  broken : ReportsBroken limits files period old new → BehindRoll limits files period old new 1
  too_long : ReportsTooLong limits files period old new → BehindRoll limits files period old new 12
  refused_instance : SaysRefusal files.instance (RefusesInstance limits) old new
      → BehindRoll limits files period old new 3
  refused_plan : (inst : Tables) → ReadsInstance limits (source_of files) old inst
      → SaysRefusal files.plan (RefusesPlan limits inst) old new → BehindRoll limits files period old new 4
  unread_instance : SaysUnread 2 files.instance old new → BehindRoll limits files period old new 7
  unread_plan : (inst : Tables) → ReadsInstance limits (source_of files) old inst
      → SaysUnread 3 files.plan old new → BehindRoll limits files period old new 7

-- ---- which status comes, from what the files are told to hold

pub data ExpectsRoll (limits : Limits) (files : RollFiles) (period : ℕ) (old : Shown) : ℕ → Type 0 where
  no_instance : TellsMissing old files.instance → ExpectsRoll limits files period old 7
  refused_instance : TellsSuch old files.instance (IsRefusedInstance limits) → ExpectsRoll limits files period old 3
  no_plan : (inst : Tables) → TellsInstance limits old (source_of files) inst → TellsMissing old files.plan
      → ExpectsRoll limits files period old 7
  refused_plan : (inst : Tables) → TellsInstance limits old (source_of files) inst
      → TellsSuch old files.plan (IsRefusedPlan limits inst) → ExpectsRoll limits files period old 4
  broken_start : (inst : Tables) (plan : List (Option ℕ)) → TellsInstance limits old (source_of files) inst
      → TellsPlan limits old files.plan inst plan → (KeptAreAllowed inst plan period → ⊥)
      → ExpectsRoll limits files period old 1
  long_text : (inst : Tables) (plan : List (Option ℕ)) → TellsInstance limits old (source_of files) inst
      → TellsPlan limits old files.plan inst plan → KeptAreAllowed inst plan period
      → limits.instance_bytes < length (rolled_text inst plan period) → ExpectsRoll limits files period old 12
  whole_text : (inst : Tables) (plan : List (Option ℕ)) → TellsInstance limits old (source_of files) inst
      → TellsPlan limits old files.plan inst plan → KeptAreAllowed inst plan period
      → length (rolled_text inst plan period) ≤ limits.instance_bytes → ExpectsRoll limits files period old 0

-- ---- what a run promises

pub record RunsRoll (limits : Limits) (files : RollFiles) (period : ℕ) (old new : Shown) (status : ℕ)
    : Type 0 where
  -- what was due was written and said, or the writing or saying failed
  pub ends : Ends (DueRoll limits files period old) old new status
  -- what stands behind the status, which also is one of these
  pub behind : Behind (BehindRoll limits files period old new) (DueRoll limits files period old) old new status
  -- which status comes
  pub allowed : (expected : ℕ) → ExpectsRoll limits files period old expected → IsAllowed expected status
  -- without a fault, the answer is the one for the bytes of the files, or want of memory
  pub exact : (instance plan : List ℕ) → TellsBytes old files.instance instance → TellsBytes old files.plan plan
      → NoFault old new → IsAnswered (AnswersRoll limits by_bytes instance plan period files) old new status
  -- the bytes have at most one answer
  pub one : (instance plan : List ℕ) → IsOneAnswer (AnswersRoll limits by_bytes instance plan period files)
  -- no file is changed but the one that is written, and that one with these statuses alone
  pub others : KeepsAllBut files.out old new
  pub unopened : (Opens status → ⊥) → new.output ≡ old.output
  -- no call failed, but at 7 and 8
  pub quiet : IsQuiet status old new
