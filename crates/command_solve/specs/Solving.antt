-- The command `solve`: the answers to an instance, what stands behind each, and what a run promises.
--
-- `old` and `new` are what the desk shows before and after a run. Worths, scores and bounds are in parts of 10^-18.
use Rattle.std.specs.Prelude.{◌≡◌, ◌≢◌, ◌⊎◌, ℕ, ◌<◌, ℤ, ◌-ℤ◌, ◌<ℤ◌, List, [], ◌∷◌, ◌++◌, length, map, Option, Some}
use Rattle.std.specs.Prelude.{None, codes}
use Rattle.plan_desk.specs.Desk.{Shown}
use Rattle.plan_desk.specs.Contents.{TellsSuch, HoldsBytes, Says}
use Rattle.instance_model.specs.declared.limits.Limits.{Limits}
use Rattle.instance_model.specs.Tables.{Tables}
use Rattle.instance_model.specs.Rules.{KeepsRules}
use Rattle.instance_model.specs.Values.{score_of}
use Rattle.plan_score.specs.Values.{values_of}
use Rattle.plan_text.specs.Spelling.{plan_text}
use Rattle.plan_moves.specs.declared.change.Change.{Change}
use Rattle.plan_moves.specs.Scripts.{line_of}
use Rattle.move_script.specs.Spelling.{moves_text, IsScript}
use Rattle.certificate_lines.specs.declared.line.Bound.TheVariants.{NoPlan, Least}
use Rattle.certificate_tree.specs.declared.certificate.Certificate.{Certificate}
use Rattle.certificate_text.specs.Text.{certificate_text}
use Rattle.branch_search.specs.declared.tree_end.TreeEnd.{TreeEnd}
use Rattle.command_frame.specs.Sources.{Source}
use Rattle.command_frame.specs.Lines.{numbered_line}
use Rattle.command_frame.specs.Reports.{score_line, bound_line, gap_line, ranges_text, rounded_line, feasible_report}
use Rattle.command_frame.specs.Reports.{accepted_report}
use Rattle.command_frame.specs.Ending.{Writing, Answer, reply, OrMemory, IsQuiet, Ends, Behind, IsAllowed}
use Rattle.command_frame.specs.Ending.{IsAnswered, NoFault}
use Rattle.command_frame.specs.Bytes.{RefusesInstance, IsRefusedInstance}
use Rattle.command_frame.specs.Files.{Meeting, reading, by_bytes, OnInstance, OnPlan, ReadsInstance}
use Rattle.command_frame.specs.Files.{SaysUnread, SaysRefusal, TellsMissing, TellsBytes, TellsInstance}
use Rattle.command_frame.specs.Outputs.{holding, OpensSearched}
use Rattle.command_answers.specs.Evaluate.{Judges, AnswersEvaluate}
use Rattle.command_answers.specs.Check.{IsKeptPlan, BoundsEveryPlan, IsBest, AnswersCheck}
use Rattle.command_answers.specs.Accepting.{IsShortCheckable}
use Rattle.local_search.specs.Openings.{IsWithoutStart}
use Rattle.branch_search.specs.Startless.{empty_certificate}
use Rattle.branch_search.specs.Splits.{split_count}
use Rattle.branch_search.specs.Turns.{AreEnough}
use Rattle.command_solve.specs.Solved.{IsSolved, IsNothing, IsNone}

-- ---- the files

-- the names of the files that are written: of the plan, word 3, of the certificate, word 4, and of the trail, word 5
pub record SolveFiles : Type 0 where
  pub plan : List ℕ
  pub cert : List ℕ
  pub trail : List ℕ

-- the four names of a command differ
pub record AreDistinct (instance : List ℕ) (files : SolveFiles) : Type 0 where
  pub instance_plan : instance ≢ files.plan
  pub instance_cert : instance ≢ files.cert
  pub instance_trail : instance ≢ files.trail
  pub plan_cert : files.plan ≢ files.cert
  pub plan_trail : files.plan ≢ files.trail
  pub cert_trail : files.cert ≢ files.trail

-- ---- reports

-- the last lines of each report: the splits of the certificate, the changes of the trail, the rounded numbers
abbrev pub counts_text : Tables → Certificate → List Change → List ℕ
counts_text inst cert changes =
    numbered_line (codes "splits ") (split_count cert.nodes)
    ++ (numbered_line (codes "moves ") (length changes) ++ rounded_line inst.rounded)

-- a plan was found
abbrev pub found_report : Tables → List ℕ → ℤ → Certificate → List Change → List ℕ
found_report inst plan bound cert changes =
    codes "plan found\n"
    ++ (score_line (score_of inst (map Some plan))
    ++ (bound_line bound
    ++ (gap_line (score_of inst (map Some plan) -ℤ bound)
    ++ (ranges_text (values_of inst (map Some plan)) ++ counts_text inst cert changes))))

-- none was found, and there may be one
abbrev pub nothing_report : Tables → ℤ → Certificate → List Change → List ℕ
nothing_report inst bound cert changes = codes "nothing found\n" ++ (bound_line bound ++ counts_text inst cert changes)

-- there is none
abbrev pub none_report : Tables → Certificate → List Change → List ℕ
none_report inst cert changes = codes "no plan exists\n" ++ counts_text inst cert changes

-- ---- what is written

abbrev pub cert_write : Tables → SolveFiles → Certificate → Writing
cert_write inst files cert =
    record { word = 4; file = record { name = files.cert; bytes = certificate_text inst cert } }

abbrev pub trail_write : Tables → SolveFiles → List Change → Writing
trail_write inst files changes =
    record { word = 5; file = record { name = files.trail; bytes = moves_text inst.names changes } }

abbrev pub plan_write : Tables → SolveFiles → List ℕ → Writing
plan_write inst files plan =
    record { word = 3; file = record { name = files.plan; bytes = plan_text inst.names plan } }

-- ---- what holds of every certificate, trail and plan that is written

-- the text of the trail is the script of its changes
abbrev pub IsReplayable : Tables → List Change → Type 0
IsReplayable inst changes = IsScript inst.names (moves_text inst.names changes) (map line_of changes)

-- `evaluate` finds the plan of the text feasible
pub record IsEvaluable (limits : Limits) (inst : Tables) (plan : List ℕ) : Type 0 where
  pub keeps : KeepsRules inst (map Some plan)
  pub judged : OnPlan limits inst by_bytes 3 (plan_text inst.names plan) (Judges inst)
      (reply 0 (feasible_report inst (map Some plan)))

-- ---- the answers

-- 0: a plan was found, and the bound is a number. A score above it comes only after as many splits as turns, and not
-- where the turns are enough; where it is the bound, no plan is better.
pub record IsFound (inst : Tables) (turns : ℕ) (answer : TreeEnd) (plan : List ℕ) (bound : ℤ) : Type 0 where
  pub best : answer.best ≡ Some plan
  pub bound_is : answer.cert.bound ≡ Least bound
  pub gap : bound <ℤ score_of inst (map Some plan) → split_count answer.cert.nodes ≡ turns
  pub enough : AreEnough inst turns → score_of inst (map Some plan) ≡ bound
  pub no_better : score_of inst (map Some plan) ≡ bound → IsBest inst (map Some plan)

-- to an instance: what is written, and what is said
pub data Solves (limits : Limits) (inst : Tables) (files : SolveFiles) (turns : ℕ) : Answer → Type 0 where
  found : (changes : List Change) (answer : TreeEnd) (plan : List ℕ) (bound : ℤ) → IsSolved inst turns changes answer
      → IsFound inst turns answer plan bound → IsShortCheckable limits inst answer.cert → IsReplayable inst changes
      → IsEvaluable limits inst plan
      → Solves limits inst files turns (record {
        status = 0;
        text = found_report inst plan bound answer.cert changes;
        writes = cert_write inst files answer.cert ∷ trail_write inst files changes ∷ plan_write inst files plan ∷ [];
      })
  nothing : (changes : List Change) (answer : TreeEnd) (bound : ℤ) (solved : IsSolved inst turns changes answer)
      → IsNothing inst turns changes answer bound solved → IsShortCheckable limits inst answer.cert
      → IsReplayable inst changes
      → Solves limits inst files turns (record {
        status = 9;
        text = nothing_report inst bound answer.cert changes;
        writes = cert_write inst files answer.cert ∷ trail_write inst files changes ∷ [];
      })
  none : (changes : List Change) (answer : TreeEnd) → IsSolved inst turns changes answer → IsNone answer
      → IsShortCheckable limits inst answer.cert → IsReplayable inst changes
      → Solves limits inst files turns (record {
        status = 10;
        text = none_report inst answer.cert changes;
        writes = cert_write inst files answer.cert ∷ trail_write inst files changes ∷ [];
      })
  no_start : (i : ℕ) → IsWithoutStart inst i → IsShortCheckable limits inst (empty_certificate i)
      → Solves limits inst files turns (record {
        status = 10;
        text = none_report inst (empty_certificate i) [];
        writes = cert_write inst files (empty_certificate i) ∷ trail_write inst files [] ∷ [];
      })

-- to the instance file, with a slack in 10^-12: it is word 2
abbrev pub AnswersSolve : Limits → Meeting → ℕ → (instance : List ℕ) → SolveFiles → (turns : ℕ) → Answer → Type 0
AnswersSolve limits met slack instance files turns =
    OnInstance limits slack met 2 instance (λ inst. Solves limits inst files turns)

-- what is due, once the desk shows `at`
abbrev pub DueSolve : Limits → Source → SolveFiles → (turns : ℕ) → (old at : Shown) → Answer → Type 0
DueSolve limits source files turns old at =
    OrMemory (AnswersSolve limits (reading old at) source.slack source.instance files turns)

-- ---- what stands behind each status

-- 0: the instance file was read, a plan, a certificate and a trail were written, and the report was said. `check` with
-- the same instance and slack accepts the certificate, which is shorter than the limit of certificate files, and
-- `evaluate` finds the plan feasible.
pub record ReportsFound (limits : Limits) (source : Source) (files : SolveFiles) (turns : ℕ) (old new : Shown)
    : Type 0 where
  pub inst : Tables
  pub reads : ReadsInstance limits source old inst
  pub changes : List Change
  pub answer : TreeEnd
  pub plan : List ℕ
  pub bound : ℤ
  pub solved : IsSolved inst turns changes answer
  pub found : IsFound inst turns answer plan bound
  pub keeps : KeepsRules inst (map Some plan)
  pub bounds : BoundsEveryPlan inst (Least bound)
  pub short : length (certificate_text inst answer.cert) < limits.certificate_bytes
  pub cert_held : HoldsBytes new files.cert (certificate_text inst answer.cert)
  pub trail_held : HoldsBytes new files.trail (moves_text inst.names changes)
  pub plan_held : HoldsBytes new files.plan (plan_text inst.names plan)
  pub accepted : AnswersCheck limits by_bytes source.slack reads.bytes None (certificate_text inst answer.cert)
      (reply 0 (accepted_report inst (Least bound) None))
  pub replayable : IsReplayable inst changes
  pub evaluated : AnswersEvaluate limits by_bytes source.slack reads.bytes (plan_text inst.names plan)
      (reply 0 (feasible_report inst (map Some plan)))
  pub says : Says (found_report inst plan bound answer.cert changes) old new

-- 9: no plan was found. The instance file was read, a certificate that `check` accepts and a trail were written, and
-- the report was said.
pub record ReportsNothing (limits : Limits) (source : Source) (files : SolveFiles) (turns : ℕ) (old new : Shown)
    : Type 0 where
  pub inst : Tables
  pub reads : ReadsInstance limits source old inst
  pub changes : List Change
  pub answer : TreeEnd
  pub bound : ℤ
  pub solved : IsSolved inst turns changes answer
  pub nothing : IsNothing inst turns changes answer bound solved
  pub bounds : BoundsEveryPlan inst (Least bound)
  pub short : length (certificate_text inst answer.cert) < limits.certificate_bytes
  pub cert_held : HoldsBytes new files.cert (certificate_text inst answer.cert)
  pub trail_held : HoldsBytes new files.trail (moves_text inst.names changes)
  pub accepted : AnswersCheck limits by_bytes source.slack reads.bytes None (certificate_text inst answer.cert)
      (reply 0 (accepted_report inst (Least bound) None))
  pub replayable : IsReplayable inst changes
  pub says : Says (nothing_report inst bound answer.cert changes) old new

-- 10: no plan keeps the rules; the certificate, which `check` accepts, has bound none. With an opening plan it is that
-- of a search, and else one `empty` leaf, and the trail is empty.
pub record ReportsNone (limits : Limits) (source : Source) (files : SolveFiles) (turns : ℕ) (old new : Shown)
    : Type 0 where
  pub inst : Tables
  pub reads : ReadsInstance limits source old inst
  pub cert : Certificate
  pub changes : List Change
  pub bound_is : cert.bound ≡ NoPlan
  pub no_plan : (plan : List (Option ℕ)) → IsKeptPlan inst plan → ⊥
  pub short : length (certificate_text inst cert) < limits.certificate_bytes
  pub cert_held : HoldsBytes new files.cert (certificate_text inst cert)
  pub trail_held : HoldsBytes new files.trail (moves_text inst.names changes)
  pub accepted : AnswersCheck limits by_bytes source.slack reads.bytes None (certificate_text inst cert)
      (reply 0 (accepted_report inst NoPlan None))
  pub made : ((answer : TreeEnd) × IsSolved inst turns changes answer × IsNone answer × (answer.cert ≡ cert)
      × IsReplayable inst changes)
      ⊎ ((i : ℕ) × IsWithoutStart inst i × (cert ≡ empty_certificate i) × (changes ≡ []))
  pub says : Says (none_report inst cert changes) old new

pub data BehindSolve (limits : Limits) (source : Source) (files : SolveFiles) (turns : ℕ) (old new : Shown)
    : ℕ → Type 0 where
  found : ReportsFound limits source files turns old new → BehindSolve limits source files turns old new 0
  nothing : ReportsNothing limits source files turns old new → BehindSolve limits source files turns old new 9
  none : ReportsNone limits source files turns old new → BehindSolve limits source files turns old new 10
  refused_instance : SaysRefusal source.instance (RefusesInstance limits) old new
      → BehindSolve limits source files turns old new 3
  unread_instance : SaysUnread 2 source.instance old new → BehindSolve limits source files turns old new 7

-- ---- which status comes, from what the instance file is told to hold

pub data ExpectsSolve (limits : Limits) (source : Source) (turns : ℕ) (old : Shown) : ℕ → Type 0 where
  no_instance : TellsMissing old source.instance → ExpectsSolve limits source turns old 7
  refused_instance : TellsSuch old source.instance (IsRefusedInstance limits) → ExpectsSolve limits source turns old 3
  no_start : (inst : Tables) (i : ℕ) → TellsInstance limits old source inst → IsWithoutStart inst i
      → ExpectsSolve limits source turns old 10
  -- with turns for all plans, a plan is found where there is one
  a_plan : (inst : Tables) (plan : List (Option ℕ)) → TellsInstance limits old source inst → IsKeptPlan inst plan
      → AreEnough inst turns → ExpectsSolve limits source turns old 0
  no_plan : (inst : Tables) → TellsInstance limits old source inst
      → ((plan : List (Option ℕ)) → IsKeptPlan inst plan → ⊥) → AreEnough inst turns
      → ExpectsSolve limits source turns old 10

-- ---- what a run promises

-- every file but these three holds what it held
abbrev pub KeepsOthers : SolveFiles → (old new : Shown) → Type 0
KeepsOthers files old new = (name : List ℕ) → name ≢ files.plan → name ≢ files.cert → name ≢ files.trail
    → holding new name ≡ holding old name

pub record RunsSolve (limits : Limits) (source : Source) (files : SolveFiles) (turns : ℕ) (old new : Shown)
    (status : ℕ) : Type 0 where
  -- what was due was written and said, or the writing or saying failed
  pub ends : Ends (DueSolve limits source files turns old) old new status
  -- what stands behind the status, which also is one of these
  pub behind : Behind (BehindSolve limits source files turns old new) (DueSolve limits source files turns old)
      old new status
  -- which status comes
  pub allowed : (expected : ℕ) → ExpectsSolve limits source turns old expected → IsAllowed expected status
  -- without a fault, the answer is one of those for the bytes of the file, or want of memory
  pub exact : (instance : List ℕ) → TellsBytes old source.instance instance → NoFault old new
      → IsAnswered (AnswersSolve limits by_bytes source.slack instance files turns) old new status
  -- no file is changed but those three, and none but with these statuses; at 9 and 10 that of the plan isn't
  pub others : KeepsOthers files old new
  pub unopened : (OpensSearched status → ⊥) → new.output ≡ old.output
  pub no_plan_file : (status ≡ 9) ⊎ (status ≡ 10) → holding new files.plan ≡ holding old files.plan
  -- no call failed, but at 7 and 8
  pub quiet : IsQuiet status old new
