-- The command `repair`: the answers to an instance and a plan, what stands behind each, and what a run promises.
--
-- `old` and `new` are what the desk shows before and after a run. Values, worths and bounds are 10^18 for each change
-- from the plan that was read, and worths are by the list of zeros.
use Rattle.std.specs.Prelude.{◌≡◌, ◌≢◌, ◌⊎◌, ℕ, ◌<◌, ℤ, List, [], ◌∷◌, ◌++◌, length, map, Option, Some, None, codes}
use Rattle.plan_desk.specs.Desk.{Shown}
use Rattle.plan_desk.specs.Contents.{TellsSuch, HoldsBytes, Says}
use Rattle.instance_model.specs.declared.limits.Limits.{Limits}
use Rattle.instance_model.specs.Tables.{Tables}
use Rattle.instance_model.specs.Rules.{KeepsRules}
use Rattle.plan_text.specs.Spelling.{plan_text}
use Rattle.certificate_lines.specs.declared.line.Bound.TheVariants.{NoPlan, Least}
use Rattle.certificate_tree.specs.declared.certificate.Certificate.{Certificate}
use Rattle.certificate_text.specs.Text.{certificate_text}
use Rattle.plan_changes.specs.Changes.{changes_of}
use Rattle.command_frame.specs.Sources.{Source}
use Rattle.command_frame.specs.Lines.{numbered_line}
use Rattle.command_frame.specs.Reports.{rounded_line}
use Rattle.command_frame.specs.Ending.{Writing, Answer, reply, OrMemory, IsQuiet, Ends, Behind, IsAllowed, IsAnswered}
use Rattle.command_frame.specs.Ending.{NoFault}
use Rattle.command_frame.specs.Bytes.{Spells, RefusesInstance, IsRefusedInstance, RefusesPlan, IsRefusedPlan}
use Rattle.command_frame.specs.Files.{Meeting, reading, by_bytes, OnInstance, OnPlan, ReadsInstance}
use Rattle.command_frame.specs.Files.{ReadsPlan, SaysUnread, SaysRefusal, TellsMissing, TellsBytes, TellsInstance}
use Rattle.command_frame.specs.Files.{TellsPlan}
use Rattle.command_frame.specs.Outputs.{holding, OpensSearched}
use Rattle.command_answers.specs.Audit.{AreKeptStarts, BoundsEveryRepair, least_line, audited_report, AnswersAudit}
use Rattle.command_answers.specs.Accepting.{IsAuditable}
use Rattle.branch_search.specs.Splits.{split_count}
use Rattle.branch_search.specs.Turns.{AreEnough}
use Rattle.local_search.specs.Openings.{IsWithoutStart}
use Rattle.branch_search.specs.Startless.{empty_certificate}
use Rattle.fewest_changes.specs.Repaired.{IsRepairOf, IsRepaired, IsNothing}

-- ---- the files

-- the names of the files that are written: of the certificate, word 4, and of the repaired plan, word 5
pub record RepairFiles : Type 0 where
  pub cert : List ℕ
  pub out : List ℕ

-- the four names of a command differ
pub record AreDistinct (instance plan : List ℕ) (files : RepairFiles) : Type 0 where
  pub instance_plan : instance ≢ plan
  pub instance_cert : instance ≢ files.cert
  pub instance_out : instance ≢ files.out
  pub plan_cert : plan ≢ files.cert
  pub plan_out : plan ≢ files.out
  pub cert_out : files.cert ≢ files.out

-- ---- reports

-- the last lines of each report: the splits of the certificate, and the rounded numbers
abbrev pub counts_text : Tables → Certificate → List ℕ
counts_text inst cert = numbered_line (codes "splits ") (split_count cert.nodes) ++ rounded_line inst.rounded

-- a plan was found: how many starts it changes, and how many every plan changes at least
abbrev pub repaired_report : Tables → (old : List (Option ℕ)) → (plan : List ℕ) → ℤ → Certificate → List ℕ
repaired_report inst old plan bound cert =
    codes "plan repaired\n"
    ++ (numbered_line (codes "changed ") (changes_of old plan) ++ (least_line (Least bound) ++ counts_text inst cert))

-- none was found, and there may be one
abbrev pub nothing_report : Tables → ℤ → Certificate → List ℕ
nothing_report inst bound cert = codes "nothing found\n" ++ (least_line (Least bound) ++ counts_text inst cert)

-- there is none
abbrev pub none_report : Tables → Certificate → List ℕ
none_report inst cert = codes "no plan exists\n" ++ counts_text inst cert

-- ---- what is written

abbrev pub cert_write : Tables → RepairFiles → Certificate → Writing
cert_write inst files cert =
    record { word = 4; file = record { name = files.cert; bytes = certificate_text inst cert } }

abbrev pub out_write : Tables → RepairFiles → List ℕ → Writing
out_write inst files plan = record { word = 5; file = record { name = files.out; bytes = plan_text inst.names plan } }

-- ---- what holds of every certificate and plan that is written

-- the plan keeps the rules, and its text spells it
pub record IsReadable (limits : Limits) (inst : Tables) (plan : List ℕ) : Type 0 where
  pub each : length plan ≡ length inst.names
  pub keeps : KeepsRules inst (map Some plan)
  pub spelled : Spells limits inst (plan_text inst.names plan) (map Some plan)

-- ---- the answers

-- to an instance and a plan: what is written, and what is said
pub data Repairs (limits : Limits) (inst : Tables) (old : List (Option ℕ)) (files : RepairFiles) (turns : ℕ)
    : Answer → Type 0 where
  repaired : (plan : List ℕ) (bound : ℤ) (cert : Certificate) → IsRepairOf inst old turns (Some plan) cert
      → IsRepaired inst old turns plan bound cert → IsAuditable limits inst old cert → IsReadable limits inst plan
      → Repairs limits inst old files turns (record {
        status = 0;
        text = repaired_report inst old plan bound cert;
        writes = cert_write inst files cert ∷ out_write inst files plan ∷ [];
      })
  nothing : (bound : ℤ) (cert : Certificate) (made : IsRepairOf inst old turns None cert)
      → IsNothing inst old turns bound cert made → IsAuditable limits inst old cert
      → Repairs limits inst old files turns (record {
        status = 9;
        text = nothing_report inst bound cert;
        writes = cert_write inst files cert ∷ [];
      })
  none : (cert : Certificate) → IsRepairOf inst old turns None cert → cert.bound ≡ NoPlan
      → IsAuditable limits inst old cert
      → Repairs limits inst old files turns (record {
        status = 10;
        text = none_report inst cert;
        writes = cert_write inst files cert ∷ [];
      })
  no_start : (i : ℕ) → IsWithoutStart inst i → IsAuditable limits inst old (empty_certificate i)
      → Repairs limits inst old files turns (record {
        status = 10;
        text = none_report inst (empty_certificate i);
        writes = cert_write inst files (empty_certificate i) ∷ [];
      })

-- to the files, with a slack in 10^-12: the instance is word 2, and the plan word 3
abbrev pub AnswersRepair : Limits → Meeting → ℕ → (instance plan : List ℕ) → RepairFiles → (turns : ℕ) → Answer
    → Type 0
AnswersRepair limits met slack instance plan files turns = OnInstance limits slack met 2 instance
    (λ inst. OnPlan limits inst met 3 plan (λ old. Repairs limits inst old files turns))

-- what is due, once the desk shows `at`
abbrev pub DueRepair : Limits → Source → (plan : List ℕ) → RepairFiles → (turns : ℕ) → (old at : Shown) → Answer
    → Type 0
DueRepair limits source plan files turns old at =
    OrMemory (AnswersRepair limits (reading old at) source.slack source.instance plan files turns)

-- ---- what stands behind each status

-- the files were read
pub record ReadsRepair (limits : Limits) (source : Source) (plan_name : List ℕ) (old : Shown) : Type 0 where
  pub inst : Tables
  pub reads : ReadsInstance limits source old inst
  pub plan : List (Option ℕ)
  pub reads_plan : ReadsPlan limits plan_name inst old plan

-- 0: a plan was found. It keeps the rules, its text and that of a certificate were written, and the report was said.
-- `audit` with the same instance, plan and slack accepts the certificate.
pub record ReportsRepaired (limits : Limits) (source : Source) (plan_name : List ℕ) (files : RepairFiles) (turns : ℕ)
    (old new : Shown) : Type 0 where
  pub read : ReadsRepair limits source plan_name old
  pub plan : List ℕ
  pub bound : ℤ
  pub cert : Certificate
  pub made : IsRepairOf read.inst read.plan turns (Some plan) cert
  pub repaired : IsRepaired read.inst read.plan turns plan bound cert
  pub readable : IsReadable limits read.inst plan
  pub bounds : BoundsEveryRepair read.inst read.plan (Least bound)
  pub short : length (certificate_text read.inst cert) < limits.certificate_bytes
  pub cert_held : HoldsBytes new files.cert (certificate_text read.inst cert)
  pub out_held : HoldsBytes new files.out (plan_text read.inst.names plan)
  pub accepted : AnswersAudit limits by_bytes source.slack read.reads.bytes read.reads_plan.bytes
      (certificate_text read.inst cert) (reply 0 (audited_report read.inst (Least bound)))
  pub says : Says (repaired_report read.inst read.plan plan bound cert) old new

-- 9: no plan was found. A certificate that `audit` accepts was written, and the report was said.
pub record ReportsNothing (limits : Limits) (source : Source) (plan_name : List ℕ) (files : RepairFiles) (turns : ℕ)
    (old new : Shown) : Type 0 where
  pub read : ReadsRepair limits source plan_name old
  pub bound : ℤ
  pub cert : Certificate
  pub made : IsRepairOf read.inst read.plan turns None cert
  pub nothing : IsNothing read.inst read.plan turns bound cert made
  pub bounds : BoundsEveryRepair read.inst read.plan (Least bound)
  pub short : length (certificate_text read.inst cert) < limits.certificate_bytes
  pub cert_held : HoldsBytes new files.cert (certificate_text read.inst cert)
  pub accepted : AnswersAudit limits by_bytes source.slack read.reads.bytes read.reads_plan.bytes
      (certificate_text read.inst cert) (reply 0 (audited_report read.inst (Least bound)))
  pub says : Says (nothing_report read.inst bound cert) old new

-- 10: no plan keeps the rules; the certificate, which `audit` accepts, has bound none. It is that of a search, or one
-- `empty` leaf for the first intervention without an allowed start.
pub record ReportsNone (limits : Limits) (source : Source) (plan_name : List ℕ) (files : RepairFiles) (turns : ℕ)
    (old new : Shown) : Type 0 where
  pub read : ReadsRepair limits source plan_name old
  pub cert : Certificate
  pub bound_is : cert.bound ≡ NoPlan
  pub no_plan : (starts : List ℕ) → AreKeptStarts read.inst starts → ⊥
  pub short : length (certificate_text read.inst cert) < limits.certificate_bytes
  pub made : IsRepairOf read.inst read.plan turns None cert
      ⊎ ((i : ℕ) × IsWithoutStart read.inst i × (cert ≡ empty_certificate i))
  pub cert_held : HoldsBytes new files.cert (certificate_text read.inst cert)
  pub accepted : AnswersAudit limits by_bytes source.slack read.reads.bytes read.reads_plan.bytes
      (certificate_text read.inst cert) (reply 0 (audited_report read.inst NoPlan))
  pub says : Says (none_report read.inst cert) old new

pub data BehindRepair (limits : Limits) (source : Source) (plan_name : List ℕ) (files : RepairFiles) (turns : ℕ)
    (old new : Shown) : ℕ → Type 0 where
  repaired : ReportsRepaired limits source plan_name files turns old new
      → BehindRepair limits source plan_name files turns old new 0
  nothing : ReportsNothing limits source plan_name files turns old new
      → BehindRepair limits source plan_name files turns old new 9
  none : ReportsNone limits source plan_name files turns old new
      → BehindRepair limits source plan_name files turns old new 10
  refused_instance : SaysRefusal source.instance (RefusesInstance limits) old new
      → BehindRepair limits source plan_name files turns old new 3
  refused_plan : (inst : Tables) → ReadsInstance limits source old inst
      → SaysRefusal plan_name (RefusesPlan limits inst) old new
      → BehindRepair limits source plan_name files turns old new 4
  unread_instance : SaysUnread 2 source.instance old new → BehindRepair limits source plan_name files turns old new 7
  unread_plan : (inst : Tables) → ReadsInstance limits source old inst → SaysUnread 3 plan_name old new
      → BehindRepair limits source plan_name files turns old new 7

-- ---- which status comes, from what the files are told to hold

-- it is told that the bytes of the files stand for these
pub record TellsRepair (limits : Limits) (s : Shown) (source : Source) (plan_name : List ℕ) (inst : Tables)
    (plan : List (Option ℕ)) : Type 0 where
  pub instance : TellsInstance limits s source inst
  pub plan_told : TellsPlan limits s plan_name inst plan

pub data ExpectsRepair (limits : Limits) (source : Source) (plan_name : List ℕ) (turns : ℕ) (old : Shown)
    : ℕ → Type 0 where
  no_instance : TellsMissing old source.instance → ExpectsRepair limits source plan_name turns old 7
  refused_instance : TellsSuch old source.instance (IsRefusedInstance limits)
      → ExpectsRepair limits source plan_name turns old 3
  no_plan_file : (inst : Tables) → TellsInstance limits old source inst → TellsMissing old plan_name
      → ExpectsRepair limits source plan_name turns old 7
  refused_plan : (inst : Tables) → TellsInstance limits old source inst
      → TellsSuch old plan_name (IsRefusedPlan limits inst) → ExpectsRepair limits source plan_name turns old 4
  no_start : (inst : Tables) (plan : List (Option ℕ)) (i : ℕ) → TellsRepair limits old source plan_name inst plan
      → IsWithoutStart inst i → ExpectsRepair limits source plan_name turns old 10
  -- with turns for all plans, a plan is found where there is one
  a_plan : (inst : Tables) (plan : List (Option ℕ)) (starts : List ℕ)
      → TellsRepair limits old source plan_name inst plan → AreKeptStarts inst starts → AreEnough inst turns
      → ExpectsRepair limits source plan_name turns old 0
  no_plan : (inst : Tables) (plan : List (Option ℕ)) → TellsRepair limits old source plan_name inst plan
      → ((starts : List ℕ) → AreKeptStarts inst starts → ⊥) → AreEnough inst turns
      → ExpectsRepair limits source plan_name turns old 10

-- ---- what a run promises

-- every file but these two holds what it held
abbrev pub KeepsOthers : RepairFiles → (old new : Shown) → Type 0
KeepsOthers files old new = (name : List ℕ) → name ≢ files.cert → name ≢ files.out
    → holding new name ≡ holding old name

pub record RunsRepair (limits : Limits) (source : Source) (plan_name : List ℕ) (files : RepairFiles) (turns : ℕ)
    (old new : Shown) (status : ℕ) : Type 0 where
  -- what was due was written and said, or the writing or saying failed
  pub ends : Ends (DueRepair limits source plan_name files turns old) old new status
  -- what stands behind the status, which also is one of these
  pub behind : Behind (BehindRepair limits source plan_name files turns old new)
      (DueRepair limits source plan_name files turns old) old new status
  -- which status comes
  pub allowed : (expected : ℕ) → ExpectsRepair limits source plan_name turns old expected → IsAllowed expected status
  -- without a fault, the answer is one of those for the bytes of the files, or want of memory
  pub exact : (instance plan : List ℕ) → TellsBytes old source.instance instance → TellsBytes old plan_name plan
      → NoFault old new
      → IsAnswered (AnswersRepair limits by_bytes source.slack instance plan files turns) old new status
  -- no file is changed but those two, and none but with these statuses; at 9 and 10 that of the plan isn't
  pub others : KeepsOthers files old new
  pub unopened : (OpensSearched status → ⊥) → new.output ≡ old.output
  pub no_out : (status ≡ 9) ⊎ (status ≡ 10) → holding new files.out ≡ holding old files.out
  -- no call failed, but at 7 and 8
  pub quiet : IsQuiet status old new
