-- The command `improve`: the answers to an instance and a plan that may be left out, what stands behind each, and what
-- a run promises.
--
-- `old` and `new` are what the desk shows before and after a run. Scores are in parts of 10^-18, and violations in
-- counts of 10^-12. Which plan is found depends on the seed; no promise does.
use Rattle.std.specs.Prelude.{◌≡◌, ◌⊎◌, ℕ, ◌<◌, ℤ, ◌≤ℤ◌, List, [], ◌∷◌, ◌++◌, length, map, Option, Some, None, codes}
use Rattle.std.specs.Prelude.{IsTrue}
use Rattle.std.specs.Fmt.{signed_decimal}
use Rattle.plan_desk.specs.Desk.{Shown}
use Rattle.plan_desk.specs.Contents.{TellsSuch, HoldsBytes, Says}
use Rattle.instance_model.specs.declared.limits.Limits.{Limits}
use Rattle.instance_model.specs.declared.rule.Rule.{Rule}
use Rattle.instance_model.specs.Tables.{Tables, is_allowed}
use Rattle.instance_model.specs.Rules.{first_rule, KeepsRules}
use Rattle.instance_model.specs.Values.{score_of}
use Rattle.plan_score.specs.Values.{values_of}
use Rattle.plan_text.specs.Spelling.{plan_text}
use Rattle.plan_changes.specs.Changes.{changes_of}
use Rattle.local_search.specs.Openings.{IsWithoutStart}
use Rattle.plan_improvement.specs.Improving.{IsImproved, IsNothing}
use Rattle.command_frame.specs.Sources.{Source}
use Rattle.command_frame.specs.Lines.{numbered_line}
use Rattle.command_frame.specs.Reports.{score_line, ranges_text, rounded_line, feasible_report}
use Rattle.command_frame.specs.Ending.{Writing, Answer, reply, OrMemory, IsQuiet, Ends, Behind, IsAllowed, IsAnswered}
use Rattle.command_frame.specs.Ending.{NoFault}
use Rattle.command_frame.specs.Bytes.{RefusesInstance, IsRefusedInstance, RefusesPlan, IsRefusedPlan}
use Rattle.command_frame.specs.Files.{Meeting, reading, by_bytes, OnInstance, OnPlan, OnGiven, ReadsInstance}
use Rattle.command_frame.specs.Files.{ReadsGiven, SaysUnread, SaysRefusal, TellsMissing, TellsBytes, TellsGivenBytes}
use Rattle.command_frame.specs.Files.{TellsInstance, TellsGiven}
use Rattle.command_frame.specs.Outputs.{KeepsAllBut, Opens}
use Rattle.command_answers.specs.Check.{IsKeptPlan}
use Rattle.command_answers.specs.Evaluate.{Judges, AnswersEvaluate}

-- ---- the plan that is given

-- its starts; where none is given there are none
abbrev pub old_starts : Option (List (Option ℕ)) → List (Option ℕ)
old_starts None = []
old_starts (Some plan) = plan

-- a score, where no rule is broken
abbrev pub score_unbroken : Option Rule → ℤ → Option ℤ
score_unbroken None score = Some score
score_unbroken (Some rule) score = None

-- the score of the plan, where one is given and breaks no rule
abbrev pub score_before : Tables → Option (List (Option ℕ)) → Option ℤ
score_before inst None = None
score_before inst (Some plan) = score_unbroken (first_rule inst plan) (score_of inst plan)

-- ---- reports

-- the score of the plan that was given
abbrev pub before_line : Option ℤ → List ℕ
before_line None = codes "before none\n"
before_line (Some score) = codes "before " ++ signed_decimal score ++ codes "\n"

-- a plan was found: how many of its starts aren't those of the plan that was given, and its values
abbrev pub improved_report : Tables → (given : Option (List (Option ℕ))) → (plan : List ℕ) → List ℕ
improved_report inst given plan =
    codes "plan improved\n"
    ++ (score_line (score_of inst (map Some plan))
    ++ (before_line (score_before inst given)
    ++ (numbered_line (codes "changed ") (changes_of (old_starts given) plan)
    ++ (ranges_text (values_of inst (map Some plan)) ++ rounded_line inst.rounded))))

-- a violation, in counts of 10^-12
abbrev pub violation_line : ℤ → List ℕ
violation_line violation = codes "violation " ++ signed_decimal violation ++ codes "\n"

-- none was found, and there may be one
abbrev pub nothing_report : Tables → ℤ → List ℕ
nothing_report inst violation = codes "nothing found\n" ++ (violation_line violation ++ rounded_line inst.rounded)

-- there is none
abbrev pub none_report : Tables → List ℕ
none_report inst = codes "no plan exists\n" ++ rounded_line inst.rounded

-- ---- what is written

abbrev pub out_write : Tables → List ℕ → List ℕ → Writing
out_write inst out plan = record { word = 4; file = record { name = out; bytes = plan_text inst.names plan } }

-- ---- what is found

-- `evaluate` finds the plan of the text feasible
pub record IsEvaluable (limits : Limits) (inst : Tables) (plan : List ℕ) : Type 0 where
  pub keeps : KeepsRules inst (map Some plan)
  pub judged : OnPlan limits inst by_bytes 3 (plan_text inst.names plan) (Judges inst)
      (reply 0 (feasible_report inst (map Some plan)))

-- A plan that keeps every rule, and where the one that was given does, has no greater score than that. Unless there are
-- no turns, it is the end of a descent: so no change of one start and no exchange of two lowers its score and keeps the
-- rules, unless the descent has 1,000 changes.
pub record IsFound (limits : Limits) (inst : Tables) (given : Option (List (Option ℕ))) (turns : ℕ) (plan : List ℕ)
    : Type 0 where
  pub improved : IsImproved inst (old_starts given) turns plan (values_of inst (map Some plan))
  pub no_worse : (old : List (Option ℕ)) → given ≡ Some old → IsKeptPlan inst old
      → score_of inst (map Some plan) ≤ℤ score_of inst old
  pub evaluable : IsEvaluable limits inst plan

-- None that keeps every rule was found, and where a plan was given it breaks a rule.
pub record IsUnfound (inst : Tables) (given : Option (List (Option ℕ))) (turns : ℕ) (violation : ℤ) : Type 0 where
  pub nothing : IsNothing inst (old_starts given) turns violation
  pub broken : (old : List (Option ℕ)) → given ≡ Some old → IsKeptPlan inst old → ⊥

-- ---- the answers

-- to an instance and a plan, if one is given: what is written, and what is said
pub data Improves (limits : Limits) (inst : Tables) (given : Option (List (Option ℕ))) (out : List ℕ) (turns : ℕ)
    : Answer → Type 0 where
  improved : (plan : List ℕ) → IsFound limits inst given turns plan
      → Improves limits inst given out turns (record {
        status = 0;
        text = improved_report inst given plan;
        writes = out_write inst out plan ∷ [];
      })
  nothing : (violation : ℤ) → IsUnfound inst given turns violation
      → Improves limits inst given out turns (reply 9 (nothing_report inst violation))
  no_start : (i : ℕ) → IsWithoutStart inst i → Improves limits inst given out turns (reply 10 (none_report inst))

-- to the files, with a slack in 10^-12: the instance is word 2, the plan word 3, and what is written word 4
abbrev pub AnswersImprove : Limits → Meeting → ℕ → (instance : List ℕ) → (plan : Option (List ℕ)) → (out : List ℕ)
    → (turns : ℕ) → Answer → Type 0
AnswersImprove limits met slack instance plan out turns = OnInstance limits slack met 2 instance
    (λ inst. OnGiven limits inst met 3 plan (λ given. Improves limits inst given out turns))

-- what is due, once the desk shows `at`
abbrev pub DueImprove : Limits → Source → (plan : Option (List ℕ)) → (out : List ℕ) → (turns : ℕ) → (old at : Shown)
    → Answer → Type 0
DueImprove limits source plan out turns old at =
    OrMemory (AnswersImprove limits (reading old at) source.slack source.instance plan out turns)

-- ---- what stands behind each status

-- the files were read
pub record ReadsImprove (limits : Limits) (source : Source) (name : Option (List ℕ)) (old : Shown) : Type 0 where
  pub inst : Tables
  pub reads : ReadsInstance limits source old inst
  pub plan : Option (List (Option ℕ))
  pub reads_plan : ReadsGiven limits name inst old plan

-- 0: a plan was found, its text was written, and the report was said. `evaluate` with the same instance and slack finds
-- it feasible.
pub record ReportsImproved (limits : Limits) (source : Source) (name : Option (List ℕ)) (out : List ℕ) (turns : ℕ)
    (old new : Shown) : Type 0 where
  pub read : ReadsImprove limits source name old
  pub plan : List ℕ
  pub found : IsFound limits read.inst read.plan turns plan
  pub held : HoldsBytes new out (plan_text read.inst.names plan)
  pub evaluated : AnswersEvaluate limits by_bytes source.slack read.reads.bytes (plan_text read.inst.names plan)
      (reply 0 (feasible_report read.inst (map Some plan)))
  pub says : Says (improved_report read.inst read.plan plan) old new

-- 9: none was found, and the report was said
pub record ReportsNothing (limits : Limits) (source : Source) (name : Option (List ℕ)) (turns : ℕ) (old new : Shown)
    : Type 0 where
  pub read : ReadsImprove limits source name old
  pub violation : ℤ
  pub unfound : IsUnfound read.inst read.plan turns violation
  pub says : Says (nothing_report read.inst violation) old new

-- 10: an intervention has no allowed start, so that no plan keeps the rules
pub record ReportsNone (limits : Limits) (source : Source) (name : Option (List ℕ)) (old new : Shown) : Type 0 where
  pub read : ReadsImprove limits source name old
  pub i : ℕ
  pub without : IsWithoutStart read.inst i
  pub no_plan : (plan : List (Option ℕ)) → IsKeptPlan read.inst plan → ⊥
  pub says : Says (none_report read.inst) old new

pub data BehindImprove (limits : Limits) (source : Source) (name : Option (List ℕ)) (out : List ℕ) (turns : ℕ)
    (old new : Shown) : ℕ → Type 0 where
  improved : ReportsImproved limits source name out turns old new
      → BehindImprove limits source name out turns old new 0
  nothing : ReportsNothing limits source name turns old new → BehindImprove limits source name out turns old new 9
  none : ReportsNone limits source name old new → BehindImprove limits source name out turns old new 10
  refused_instance : SaysRefusal source.instance (RefusesInstance limits) old new
      → BehindImprove limits source name out turns old new 3
  refused_plan : (plan : List ℕ) (inst : Tables) → name ≡ Some plan → ReadsInstance limits source old inst
      → SaysRefusal plan (RefusesPlan limits inst) old new → BehindImprove limits source name out turns old new 4
  unread_instance : SaysUnread 2 source.instance old new → BehindImprove limits source name out turns old new 7
  unread_plan : (plan : List ℕ) (inst : Tables) → name ≡ Some plan → ReadsInstance limits source old inst
      → SaysUnread 3 plan old new → BehindImprove limits source name out turns old new 7

-- ---- which status comes, from what the files are told to hold

-- it is told that the bytes of the files stand for these
pub record TellsImprove (limits : Limits) (s : Shown) (source : Source) (name : Option (List ℕ)) (inst : Tables)
    (plan : Option (List (Option ℕ))) : Type 0 where
  pub instance : TellsInstance limits s source inst
  pub plan_told : TellsGiven limits s name inst plan

pub data ExpectsImprove (limits : Limits) (source : Source) (name : Option (List ℕ)) (old : Shown) : ℕ → Type 0 where
  no_instance : TellsMissing old source.instance → ExpectsImprove limits source name old 7
  refused_instance : TellsSuch old source.instance (IsRefusedInstance limits) → ExpectsImprove limits source name old 3
  no_plan_file : (plan : List ℕ) (inst : Tables) → name ≡ Some plan → TellsInstance limits old source inst
      → TellsMissing old plan → ExpectsImprove limits source name old 7
  refused_plan : (plan : List ℕ) (inst : Tables) → name ≡ Some plan → TellsInstance limits old source inst
      → TellsSuch old plan (IsRefusedPlan limits inst) → ExpectsImprove limits source name old 4
  no_start : (inst : Tables) (plan : Option (List (Option ℕ))) (i : ℕ) → TellsImprove limits old source name inst plan
      → IsWithoutStart inst i → ExpectsImprove limits source name old 10
  -- a plan that keeps every rule is given
  kept_plan : (inst : Tables) (plan : List (Option ℕ)) → TellsImprove limits old source name inst (Some plan)
      → IsKeptPlan inst plan → ExpectsImprove limits source name old 0

-- each intervention has an allowed start
abbrev pub HaveStarts : Tables → Type 0
HaveStarts inst = (i : ℕ) → i < length inst.names → (s : ℕ) × IsTrue (is_allowed inst i s)

-- ---- what a run promises

pub record RunsImprove (limits : Limits) (source : Source) (name : Option (List ℕ)) (out : List ℕ) (turns seed : ℕ)
    (old new : Shown) (status : ℕ) : Type 0 where
  -- what was due was written and said, or the writing or saying failed
  pub ends : Ends (DueImprove limits source name out turns old) old new status
  -- what stands behind the status, which also is one of these
  pub behind : Behind (BehindImprove limits source name out turns old new)
      (DueImprove limits source name out turns old) old new status
  -- which status comes
  pub allowed : (expected : ℕ) → ExpectsImprove limits source name old expected → IsAllowed expected status
  -- where each intervention has an allowed start, a plan is found or none is; that there is none isn't said
  pub started : (inst : Tables) (plan : Option (List (Option ℕ))) → TellsImprove limits old source name inst plan
      → HaveStarts inst → (status ≡ 9) ⊎ IsAllowed 0 status
  -- without a fault, the answer is one of those for the bytes of the files, or want of memory
  pub exact : (instance : List ℕ) (plan : Option (List ℕ)) → TellsBytes old source.instance instance
      → TellsGivenBytes old name plan → NoFault old new
      → IsAnswered (AnswersImprove limits by_bytes source.slack instance plan out turns) old new status
  -- no file is changed but that of the plan, and that only with 0 and 8
  pub others : KeepsAllBut out old new
  pub unopened : (Opens status → ⊥) → new.output ≡ old.output
  -- no call failed, but at 7 and 8
  pub quiet : IsQuiet status old new
