-- The command `replay`: the answer to an instance, a plan and a script, and what a run promises.
--
-- `old` and `new` are what the desk shows before and after a run.
use Rattle.std.specs.Prelude.{◌≡◌, ℕ, List, ◌++◌, length, Option, Some, IsSome}
use Rattle.plan_desk.specs.Desk.{Shown}
use Rattle.plan_desk.specs.Contents.{TellsSuch, Says}
use Rattle.plan_moves.specs.declared.script_line.ScriptLine.{ScriptLine}
use Rattle.plan_moves.specs.Scripts.{Succeeds, FailsAt}
use Rattle.move_script.specs.Replays.{replay_text, FailsByStart, FailsByUndo}
use Rattle.instance_model.specs.declared.limits.Limits.{Limits}
use Rattle.instance_model.specs.Tables.{Tables}
use Rattle.instance_model.specs.Rules.{first_start_rule}
use Rattle.instance_model.specs.declared.rule.Rule.{Rule}
use Rattle.command_frame.specs.Sources.{Source}
use Rattle.command_frame.specs.Lines.{not_allowed_line, nothing_to_undo_line, end_line}
use Rattle.command_frame.specs.Reports.{infeasible_report}
use Rattle.command_frame.specs.Ending.{Answer, reply, IsOneAnswer, OrMemory, IsQuiet, Ends, Behind, IsAllowed}
use Rattle.command_frame.specs.Ending.{IsAnswered, NoFault}
use Rattle.command_frame.specs.Bytes.{RefusesInstance, IsRefusedInstance, RefusesPlan, IsRefusedPlan, RefusesScript}
use Rattle.command_frame.specs.Bytes.{IsRefusedScript}
use Rattle.command_frame.specs.Files.{Meeting, reading, by_bytes, OnInstance, OnPlan, OnScript, ReadsInstance}
use Rattle.command_frame.specs.Files.{ReadsPlan, ReadsScript, SaysUnread, SaysRefusal, TellsMissing, TellsBytes}
use Rattle.command_frame.specs.Files.{TellsInstance, TellsPlan, TellsScript}
use Rattle.command_frame.specs.Openings.{IsOpeningOf}

-- ---- the answer

-- to an instance, a plan and a script: 1 with the first broken rule on starts, where there is one; else the keys along
-- the script, and then 0 with the number of its lines where none fails, and 6 with the first that does
pub data Replays (inst : Tables) (plan : List (Option ℕ)) (script : List ScriptLine) : Answer → Type 0 where
  broken_start : (rule : Rule) → first_start_rule inst plan ≡ Some rule
      → Replays inst plan script (reply 1 (infeasible_report inst rule))
  ended : (opening : List ℕ) → IsOpeningOf inst plan opening → Succeeds inst opening script
      → Replays inst plan script (reply 0 (replay_text inst opening script ++ end_line (length script)))
  not_allowed : (opening : List ℕ) (n : ℕ) → IsOpeningOf inst plan opening → FailsByStart inst opening script n
      → Replays inst plan script (reply 6 (replay_text inst opening script ++ not_allowed_line n))
  nothing_to_undo : (opening : List ℕ) (n : ℕ) → IsOpeningOf inst plan opening → FailsByUndo inst opening script n
      → Replays inst plan script (reply 6 (replay_text inst opening script ++ nothing_to_undo_line n))

-- to three files, with a slack in 10^-12: the instance is word 2, the plan word 3, and the script word 4
abbrev pub AnswersReplay : Limits → Meeting → ℕ → (instance plan script : List ℕ) → Answer → Type 0
AnswersReplay limits met slack instance plan script = OnInstance limits slack met 2 instance
    (λ inst. OnPlan limits inst met 3 plan (λ p. OnScript limits inst met 4 script (Replays inst p)))

-- what is due, once the desk shows `at`
abbrev pub DueReplay : Limits → Source → (plan script : List ℕ) → (old at : Shown) → Answer → Type 0
DueReplay limits source plan script old at =
    OrMemory (AnswersReplay limits (reading old at) source.slack source.instance plan script)

-- ---- what stands behind each status

-- the three files were read
pub record ReadsReplay (limits : Limits) (source : Source) (name script_name : List ℕ) (old : Shown) : Type 0 where
  pub inst : Tables
  pub reads : ReadsInstance limits source old inst
  pub plan : List (Option ℕ)
  pub reads_plan : ReadsPlan limits name inst old plan
  pub script : List ScriptLine
  pub reads_script : ReadsScript limits script_name inst old script

-- 0: all starts of the plan are allowed, no line of the script fails, and the keys along it were said, and the number
-- of its lines
pub record ReportsKeys (limits : Limits) (source : Source) (name script_name : List ℕ) (old new : Shown) : Type 0 where
  pub files : ReadsReplay limits source name script_name old
  pub opening : List ℕ
  pub opens : IsOpeningOf files.inst files.plan opening
  pub succeeds : Succeeds files.inst opening files.script
  pub says : Says (replay_text files.inst opening files.script ++ end_line (length files.script)) old new

-- 1: the plan breaks a rule on starts, and the first one that it breaks was said
pub record ReportsBrokenStart (limits : Limits) (source : Source) (name script_name : List ℕ) (old new : Shown)
    : Type 0 where
  pub files : ReadsReplay limits source name script_name old
  pub rule : Rule
  pub first : first_start_rule files.inst files.plan ≡ Some rule
  pub says : Says (infeasible_report files.inst rule) old new

-- line n of a script fails, and this was said of it
pub data SaysFailure (inst : Tables) (opening : List ℕ) (script : List ScriptLine) (n : ℕ) : List ℕ → Type 0 where
  not_allowed : FailsByStart inst opening script n → SaysFailure inst opening script n (not_allowed_line n)
  nothing_to_undo : FailsByUndo inst opening script n → SaysFailure inst opening script n (nothing_to_undo_line n)

-- 6, where the script was read: a line of it fails; the keys before that were said, and then which line it is
pub record RefusesLine (limits : Limits) (source : Source) (name script_name : List ℕ) (old new : Shown) : Type 0 where
  pub files : ReadsReplay limits source name script_name old
  pub opening : List ℕ
  pub opens : IsOpeningOf files.inst files.plan opening
  pub n : ℕ
  pub line : List ℕ
  pub fails : SaysFailure files.inst opening files.script n line
  pub says : Says (replay_text files.inst opening files.script ++ line) old new

pub data BehindReplay (limits : Limits) (source : Source) (name script_name : List ℕ) (old new : Shown)
    : ℕ → Type 0 where
  ended : ReportsKeys limits source name script_name old new → BehindReplay limits source name script_name old new 0
  broken_start : ReportsBrokenStart limits source name script_name old new
      → BehindReplay limits source name script_name old new 1
  refused_instance : SaysRefusal source.instance (RefusesInstance limits) old new
      → BehindReplay limits source name script_name old new 3
  refused_plan : (inst : Tables) → ReadsInstance limits source old inst
      → SaysRefusal name (RefusesPlan limits inst) old new → BehindReplay limits source name script_name old new 4
  refused_script : (inst : Tables) (plan : List (Option ℕ)) → ReadsInstance limits source old inst
      → ReadsPlan limits name inst old plan → SaysRefusal script_name (RefusesScript limits inst) old new
      → BehindReplay limits source name script_name old new 6
  refused_line : RefusesLine limits source name script_name old new
      → BehindReplay limits source name script_name old new 6
  unread_instance : SaysUnread 2 source.instance old new → BehindReplay limits source name script_name old new 7
  unread_plan : (inst : Tables) → ReadsInstance limits source old inst → SaysUnread 3 name old new
      → BehindReplay limits source name script_name old new 7
  unread_script : (inst : Tables) (plan : List (Option ℕ)) → ReadsInstance limits source old inst
      → ReadsPlan limits name inst old plan → SaysUnread 4 script_name old new
      → BehindReplay limits source name script_name old new 7

-- ---- which status comes, from what the files are told to hold

-- an instance, a plan and a script
pub record ScriptedPlan : Type 0 where
  pub inst : Tables
  pub plan : List (Option ℕ)
  pub script : List ScriptLine

-- it is told that the bytes of the three files stand for these
pub record TellsScripted (limits : Limits) (s : Shown) (source : Source) (name script_name : List ℕ)
    (files : ScriptedPlan) : Type 0 where
  pub instance : TellsInstance limits s source files.inst
  pub plan : TellsPlan limits s name files.inst files.plan
  pub script : TellsScript limits s script_name files.inst files.script

pub data ExpectsReplay (limits : Limits) (source : Source) (name script_name : List ℕ) (old : Shown) : ℕ → Type 0 where
  no_instance : TellsMissing old source.instance → ExpectsReplay limits source name script_name old 7
  refused_instance : TellsSuch old source.instance (IsRefusedInstance limits)
      → ExpectsReplay limits source name script_name old 3
  no_plan : (inst : Tables) → TellsInstance limits old source inst → TellsMissing old name
      → ExpectsReplay limits source name script_name old 7
  refused_plan : (inst : Tables) → TellsInstance limits old source inst → TellsSuch old name (IsRefusedPlan limits inst)
      → ExpectsReplay limits source name script_name old 4
  no_script : (inst : Tables) (plan : List (Option ℕ)) → TellsInstance limits old source inst
      → TellsPlan limits old name inst plan → TellsMissing old script_name
      → ExpectsReplay limits source name script_name old 7
  refused_script : (inst : Tables) (plan : List (Option ℕ)) → TellsInstance limits old source inst
      → TellsPlan limits old name inst plan → TellsSuch old script_name (IsRefusedScript limits inst)
      → ExpectsReplay limits source name script_name old 6
  broken_opening : (files : ScriptedPlan) → TellsScripted limits old source name script_name files
      → IsSome (first_start_rule files.inst files.plan) → ExpectsReplay limits source name script_name old 1
  done_script : (files : ScriptedPlan) (opening : List ℕ) → TellsScripted limits old source name script_name files
      → IsOpeningOf files.inst files.plan opening → Succeeds files.inst opening files.script
      → ExpectsReplay limits source name script_name old 0
  failing_line : (files : ScriptedPlan) (opening : List ℕ) (n : ℕ)
      → TellsScripted limits old source name script_name files → IsOpeningOf files.inst files.plan opening
      → FailsAt files.inst opening files.script n
      → ExpectsReplay limits source name script_name old 6

-- ---- what a run promises

pub record RunsReplay (limits : Limits) (source : Source) (name script_name : List ℕ) (old new : Shown) (status : ℕ)
    : Type 0 where
  -- what was due was said, or its saying failed
  pub ends : Ends (DueReplay limits source name script_name old) old new status
  -- what stands behind the status, which also is one of these
  pub behind : Behind (BehindReplay limits source name script_name old new)
      (DueReplay limits source name script_name old) old new status
  -- which status comes
  pub allowed : (expected : ℕ) → ExpectsReplay limits source name script_name old expected → IsAllowed expected status
  -- without a fault, the answer is the one for the bytes of the files, or want of memory
  pub exact : (instance plan script : List ℕ) → TellsBytes old source.instance instance → TellsBytes old name plan
      → TellsBytes old script_name script → NoFault old new
      → IsAnswered (AnswersReplay limits by_bytes source.slack instance plan script) old new status
  -- the bytes have at most one answer
  pub one : (slack : ℕ) (instance plan script : List ℕ)
      → IsOneAnswer (AnswersReplay limits by_bytes slack instance plan script)
  -- no file is changed
  pub output : new.output ≡ old.output
  -- no call failed, but at 7 and 8
  pub quiet : IsQuiet status old new
