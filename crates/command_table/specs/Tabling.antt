-- The command `table`: the answer to an instance, a plan and two periods, and what a run promises.
--
-- `old` and `new` are what the desk shows before and after a run.
use Rattle.std.specs.Prelude.{◌≡◌, ℕ, ◌+◌, ◌-◌, ◌≤◌, ℤ, List, ◌++◌, length, map, min, All, Option, Some, IsSome, ◌↔◌}
use Rattle.std.specs.List.{range_with_len, flat_map}
use Rattle.fixed_num.specs.Floors.{floor_of, ceil_of}
use Rattle.fixed_num.specs.Sums.{total}
use Rattle.plan_desk.specs.Desk.{Shown}
use Rattle.plan_desk.specs.Contents.{TellsSuch, Says}
use Rattle.instance_model.specs.declared.limits.Limits.{Limits}
use Rattle.instance_model.specs.Tables.{Tables}
use Rattle.instance_model.specs.Rules.{first_start_rule, KeepsRules}
use Rattle.instance_model.specs.declared.rule.Rule.{Rule}
use Rattle.plan_score.specs.declared.values.Values.{Values}
use Rattle.plan_score.specs.Values.{values_of}
use Rattle.plan_table.specs.declared.report.PeriodReport.{PeriodReport}
use Rattle.plan_table.specs.Reports.{report_of}
use Rattle.plan_table.specs.Texts.{report_text}
use Rattle.plan_table.specs.Laws.{ShowsNoFault}
use Rattle.command_frame.specs.Sources.{Source}
use Rattle.command_frame.specs.Lines.{end_line}
use Rattle.command_frame.specs.Reports.{rounded_line, infeasible_report}
use Rattle.command_frame.specs.Ending.{Answer, reply, IsOneAnswer, OrMemory, IsQuiet, Ends, Behind, IsAllowed}
use Rattle.command_frame.specs.Ending.{IsAnswered, NoFault}
use Rattle.command_frame.specs.Bytes.{RefusesInstance, IsRefusedInstance, RefusesPlan, IsRefusedPlan}
use Rattle.command_frame.specs.Files.{Meeting, reading, by_bytes, OnInstance, OnPlan, ReadsInstance, ReadsPlan}
use Rattle.command_frame.specs.Files.{SaysUnread, SaysRefusal, TellsMissing, TellsBytes, TellsInstance, TellsPlan}
use Rattle.command_frame.specs.Openings.{IsOpeningOf}

-- ---- the text

-- the periods that are reported: from the first one to the last, or to the horizon where that comes before
abbrev pub periods_in : Tables → (from to : ℕ) → List ℕ
periods_in inst from to = range_with_len from (min to inst.periods + 1 - from)

-- the reports of these periods of a plan of allowed starts
abbrev pub reports_of : Tables → List ℕ → (from to : ℕ) → List PeriodReport
reports_of inst starts from to = map (report_of inst starts) (periods_in inst from to)

-- the texts of some reports, how many they are, and how many numbers of the instance file were changed by rounding
abbrev pub table_text : Tables → List PeriodReport → List ℕ
table_text inst reports =
    flat_map (report_text inst) reports ++ (end_line (length reports) ++ rounded_line inst.rounded)

-- ---- what the reports of all periods say together

-- no period is left out
pub record IsWholeYear (inst : Tables) (from to : ℕ) : Type 0 where
  pub first : from ≡ 1
  pub last : inst.periods ≤ to

-- a share of the sum of a number over some reports: rounded down, and rounded up
abbrev pub floor_share : Tables → (PeriodReport → ℤ) → List PeriodReport → ℤ
floor_share inst number reports = floor_of (total (map number reports)) inst.periods

abbrev pub ceil_share : Tables → (PeriodReport → ℤ) → List PeriodReport → ℤ
ceil_share inst number reports = ceil_of (total (map number reports)) inst.periods

-- the mean and the excess of a plan are those of the reports, added up and divided by the number of periods
pub record AddUpTo (inst : Tables) (reports : List PeriodReport) (values : Values) : Type 0 where
  pub mean_low : floor_share inst (λ r. r.mean_low) reports ≡ values.mean_low
  pub mean_high : ceil_share inst (λ r. r.mean_high) reports ≡ values.mean_high
  pub excess_low : floor_share inst (λ r. r.excess_low) reports ≡ values.excess_low
  pub excess_high : ceil_share inst (λ r. r.excess_high) reports ≡ values.excess_high

-- No report shows a load over or under its limits or a broken exclusion exactly where the plan keeps the rules, and
-- mean and excess add up to those that `evaluate` says of it.
pub record TellsPlanWhole (inst : Tables) (plan : List (Option ℕ)) (reports : List PeriodReport) : Type 0 where
  pub no_fault : All ShowsNoFault reports ↔ KeepsRules inst plan
  pub adds_up : AddUpTo inst reports (values_of inst plan)

-- ---- the answer

-- to an instance and a plan: 1 with the first broken rule on starts, where there is one; else 0 with the reports
pub data Tabulates (inst : Tables) (plan : List (Option ℕ)) (from to : ℕ) : Answer → Type 0 where
  broken_start : (rule : Rule) → first_start_rule inst plan ≡ Some rule
      → Tabulates inst plan from to (reply 1 (infeasible_report inst rule))
  reported : (starts : List ℕ) → IsOpeningOf inst plan starts
      → Tabulates inst plan from to (reply 0 (table_text inst (reports_of inst starts from to)))

-- to two files, with a slack in 10^-12: the instance is word 2, and the plan word 3
abbrev pub AnswersTable : Limits → Meeting → ℕ → (instance plan : List ℕ) → (from to : ℕ) → Answer → Type 0
AnswersTable limits met slack instance plan from to =
    OnInstance limits slack met 2 instance (λ inst. OnPlan limits inst met 3 plan (λ p. Tabulates inst p from to))

-- what is due, once the desk shows `at`
abbrev pub DueTable : Limits → Source → List ℕ → (from to : ℕ) → (old at : Shown) → Answer → Type 0
DueTable limits source plan from to old at =
    OrMemory (AnswersTable limits (reading old at) source.slack source.instance plan from to)

-- ---- what stands behind each status

-- 0: both files were read, all starts of the plan are allowed, and the reports of the periods were said; those of the
-- whole year tell whether the plan keeps the rules, and its values
pub record ReportsPeriods (limits : Limits) (source : Source) (name : List ℕ) (from to : ℕ) (old new : Shown)
    : Type 0 where
  pub inst : Tables
  pub reads : ReadsInstance limits source old inst
  pub plan : List (Option ℕ)
  pub reads_plan : ReadsPlan limits name inst old plan
  pub starts : List ℕ
  pub opens : IsOpeningOf inst plan starts
  pub says : Says (table_text inst (reports_of inst starts from to)) old new
  pub whole : IsWholeYear inst from to → TellsPlanWhole inst plan (reports_of inst starts from to)

-- 1: both files were read, the plan breaks a rule on starts, and the first one that it breaks was said
pub record ReportsBrokenStart (limits : Limits) (source : Source) (name : List ℕ) (old new : Shown) : Type 0 where
  pub inst : Tables
  pub reads : ReadsInstance limits source old inst
  pub plan : List (Option ℕ)
  pub reads_plan : ReadsPlan limits name inst old plan
  pub rule : Rule
  pub first : first_start_rule inst plan ≡ Some rule
  pub says : Says (infeasible_report inst rule) old new

pub data BehindTable (limits : Limits) (source : Source) (name : List ℕ) (from to : ℕ) (old new : Shown)
    : ℕ → Type 0 where
  reported : ReportsPeriods limits source name from to old new → BehindTable limits source name from to old new 0
  broken_start : ReportsBrokenStart limits source name old new → BehindTable limits source name from to old new 1
  refused_instance : SaysRefusal source.instance (RefusesInstance limits) old new
      → BehindTable limits source name from to old new 3
  refused_plan : (inst : Tables) → ReadsInstance limits source old inst
      → SaysRefusal name (RefusesPlan limits inst) old new → BehindTable limits source name from to old new 4
  unread_instance : SaysUnread 2 source.instance old new → BehindTable limits source name from to old new 7
  unread_plan : (inst : Tables) → ReadsInstance limits source old inst → SaysUnread 3 name old new
      → BehindTable limits source name from to old new 7

-- ---- which status comes, from what the files are told to hold

pub data ExpectsTable (limits : Limits) (source : Source) (name : List ℕ) (old : Shown) : ℕ → Type 0 where
  no_instance : TellsMissing old source.instance → ExpectsTable limits source name old 7
  refused_instance : TellsSuch old source.instance (IsRefusedInstance limits) → ExpectsTable limits source name old 3
  no_plan : (inst : Tables) → TellsInstance limits old source inst → TellsMissing old name
      → ExpectsTable limits source name old 7
  refused_plan : (inst : Tables) → TellsInstance limits old source inst → TellsSuch old name (IsRefusedPlan limits inst)
      → ExpectsTable limits source name old 4
  allowed_starts : (inst : Tables) (plan : List (Option ℕ)) (starts : List ℕ) → TellsInstance limits old source inst
      → TellsPlan limits old name inst plan → IsOpeningOf inst plan starts → ExpectsTable limits source name old 0
  broken_start : (inst : Tables) (plan : List (Option ℕ)) → TellsInstance limits old source inst
      → TellsPlan limits old name inst plan → IsSome (first_start_rule inst plan)
      → ExpectsTable limits source name old 1

-- ---- what a run promises

pub record RunsTable (limits : Limits) (source : Source) (name : List ℕ) (from to : ℕ) (old new : Shown) (status : ℕ)
    : Type 0 where
  -- what was due was said, or its saying failed
  pub ends : Ends (DueTable limits source name from to old) old new status
  -- what stands behind the status, which also is one of these
  pub behind : Behind (BehindTable limits source name from to old new) (DueTable limits source name from to old) old new
      status
  -- which status comes
  pub allowed : (expected : ℕ) → ExpectsTable limits source name old expected → IsAllowed expected status
  -- without a fault, the answer is the one for the bytes of the files, or want of memory
  pub exact : (instance plan : List ℕ) → TellsBytes old source.instance instance → TellsBytes old name plan
      → NoFault old new
      → IsAnswered (AnswersTable limits by_bytes source.slack instance plan from to) old new status
  -- the bytes have at most one answer
  pub one : (slack : ℕ) (instance plan : List ℕ)
      → IsOneAnswer (AnswersTable limits by_bytes slack instance plan from to)
  -- no file is changed
  pub output : new.output ≡ old.output
  -- no call failed, but at 7 and 8
  pub quiet : IsQuiet status old new
