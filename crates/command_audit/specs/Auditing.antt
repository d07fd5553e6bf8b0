-- The command `audit`: what is due, what stands behind each status, and what a run promises.
--
-- `old` and `new` are what the desk shows before and after a run.
use Rattle.std.specs.Prelude.{◌≡◌, ℕ, List, Option}
use Rattle.plan_desk.specs.Desk.{Shown}
use Rattle.plan_desk.specs.Contents.{TellsSuch, Says}
use Rattle.instance_model.specs.declared.limits.Limits.{Limits}
use Rattle.instance_model.specs.Tables.{Tables}
use Rattle.certificate_tree.specs.declared.certificate.Certificate.{Certificate}
use Rattle.command_frame.specs.Sources.{Source}
use Rattle.command_frame.specs.Lines.{failing_leaf_line}
use Rattle.command_frame.specs.Ending.{Answer, IsOneAnswer, OrMemory, IsQuiet, Ends, Behind, IsAllowed}
use Rattle.command_frame.specs.Ending.{IsAnswered, NoFault}
use Rattle.command_frame.specs.Bytes.{RefusesInstance, IsRefusedInstance, RefusesPlan, IsRefusedPlan}
use Rattle.command_frame.specs.Bytes.{RefusesCertificate, IsRefusedCertificate}
use Rattle.command_frame.specs.Files.{reading, by_bytes, ReadsInstance, ReadsPlan, ReadsCertificate, SaysUnread}
use Rattle.command_frame.specs.Files.{SaysRefusal, TellsMissing, TellsBytes, TellsInstance, TellsPlan}
use Rattle.command_frame.specs.Files.{TellsCertificate}
use Rattle.command_answers.specs.Audit.{BoundsEveryRepair, IsValidFor, FailsFirstFor, audited_report, AnswersAudit}

-- ---- what is due

-- what is due, once the desk shows `at`
abbrev pub DueAudit : Limits → Source → (plan cert : List ℕ) → (old at : Shown) → Answer → Type 0
DueAudit limits source plan cert old at =
    OrMemory (AnswersAudit limits (reading old at) source.slack source.instance plan cert)

-- ---- what stands behind each status

-- the files were read
pub record ReadsAudit (limits : Limits) (source : Source) (plan_name cert_name : List ℕ) (old : Shown) : Type 0 where
  pub inst : Tables
  pub reads : ReadsInstance limits source old inst
  pub plan : List (Option ℕ)
  pub reads_plan : ReadsPlan limits plan_name inst old plan
  pub cert : Certificate
  pub reads_cert : ReadsCertificate limits cert_name inst old cert

-- 0: the certificate is valid, so every plan that keeps the rules changes at least so many starts as was said, and
-- where that is none, no plan keeps the rules; and the report was said
pub record ReportsAudited (limits : Limits) (source : Source) (plan_name cert_name : List ℕ) (old new : Shown)
    : Type 0 where
  pub files : ReadsAudit limits source plan_name cert_name old
  pub valid : IsValidFor files.inst files.plan files.cert
  pub bounds : BoundsEveryRepair files.inst files.plan files.cert.bound
  pub says : Says (audited_report files.inst files.cert.bound) old new

-- 5, where the certificate was read: the first leaf that doesn't hold was said
pub record RefusesLeaf (limits : Limits) (source : Source) (plan_name cert_name : List ℕ) (old new : Shown)
    : Type 0 where
  pub files : ReadsAudit limits source plan_name cert_name old
  pub n : ℕ
  pub first : FailsFirstFor files.inst files.plan files.cert n
  pub says : Says (failing_leaf_line n) old new

pub data BehindAudit (limits : Limits) (source : Source) (plan_name cert_name : List ℕ) (old new : Shown)
    : ℕ → Type 0 where
  accepted : ReportsAudited limits source plan_name cert_name old new
      → BehindAudit limits source plan_name cert_name old new 0
  refused_instance : SaysRefusal source.instance (RefusesInstance limits) old new
      → BehindAudit limits source plan_name cert_name old new 3
  refused_plan : (inst : Tables) → ReadsInstance limits source old inst
      → SaysRefusal plan_name (RefusesPlan limits inst) old new
      → BehindAudit limits source plan_name cert_name old new 4
  refused_certificate : (inst : Tables) (plan : List (Option ℕ)) → ReadsInstance limits source old inst
      → ReadsPlan limits plan_name inst old plan → SaysRefusal cert_name (RefusesCertificate limits inst) old new
      → BehindAudit limits source plan_name cert_name old new 5
  refused_leaf : RefusesLeaf limits source plan_name cert_name old new
      → BehindAudit limits source plan_name cert_name old new 5
  unread_instance : SaysUnread 2 source.instance old new → BehindAudit limits source plan_name cert_name old new 7
  unread_plan : (inst : Tables) → ReadsInstance limits source old inst → SaysUnread 3 plan_name old new
      → BehindAudit limits source plan_name cert_name old new 7
  unread_certificate : (inst : Tables) (plan : List (Option ℕ)) → ReadsInstance limits source old inst
      → ReadsPlan limits plan_name inst old plan → SaysUnread 4 cert_name old new
      → BehindAudit limits source plan_name cert_name old new 7

-- ---- which status comes, from what the files are told to hold

-- an instance, a plan and a certificate
pub record AuditedFiles : Type 0 where
  pub inst : Tables
  pub plan : List (Option ℕ)
  pub cert : Certificate

-- it is told that the bytes of the files stand for these
pub record TellsAudited (limits : Limits) (s : Shown) (source : Source) (plan_name cert_name : List ℕ)
    (files : AuditedFiles) : Type 0 where
  pub instance : TellsInstance limits s source files.inst
  pub plan : TellsPlan limits s plan_name files.inst files.plan
  pub cert : TellsCertificate limits s cert_name files.inst files.cert

pub data ExpectsAudit (limits : Limits) (source : Source) (plan_name cert_name : List ℕ) (old : Shown)
    : ℕ → Type 0 where
  no_instance : TellsMissing old source.instance → ExpectsAudit limits source plan_name cert_name old 7
  refused_instance : TellsSuch old source.instance (IsRefusedInstance limits)
      → ExpectsAudit limits source plan_name cert_name old 3
  no_plan : (inst : Tables) → TellsInstance limits old source inst → TellsMissing old plan_name
      → ExpectsAudit limits source plan_name cert_name old 7
  refused_plan : (inst : Tables) → TellsInstance limits old source inst
      → TellsSuch old plan_name (IsRefusedPlan limits inst) → ExpectsAudit limits source plan_name cert_name old 4
  no_certificate : (inst : Tables) (plan : List (Option ℕ)) → TellsInstance limits old source inst
      → TellsPlan limits old plan_name inst plan → TellsMissing old cert_name
      → ExpectsAudit limits source plan_name cert_name old 7
  refused_certificate : (inst : Tables) (plan : List (Option ℕ)) → TellsInstance limits old source inst
      → TellsPlan limits old plan_name inst plan → TellsSuch old cert_name (IsRefusedCertificate limits inst)
      → ExpectsAudit limits source plan_name cert_name old 5
  valid_certificate : (files : AuditedFiles) → TellsAudited limits old source plan_name cert_name files
      → IsValidFor files.inst files.plan files.cert → ExpectsAudit limits source plan_name cert_name old 0
  failing_leaf : (files : AuditedFiles) (n : ℕ) → TellsAudited limits old source plan_name cert_name files
      → FailsFirstFor files.inst files.plan files.cert n → ExpectsAudit limits source plan_name cert_name old 5

-- ---- what a run promises

pub record RunsAudit (limits : Limits) (source : Source) (plan_name cert_name : List ℕ) (old new : Shown) (status : ℕ)
    : Type 0 where
  -- what was due was said, or its saying failed
  pub ends : Ends (DueAudit limits source plan_name cert_name old) old new status
  -- what stands behind the status, which also is one of these
  pub behind : Behind (BehindAudit limits source plan_name cert_name old new)
      (DueAudit limits source plan_name cert_name old) old new status
  -- which status comes
  pub allowed : (expected : ℕ) → ExpectsAudit limits source plan_name cert_name old expected
      → IsAllowed expected status
  -- without a fault, the answer is the one for the bytes of the files, or want of memory
  pub exact : (instance plan cert : List ℕ) → TellsBytes old source.instance instance → TellsBytes old plan_name plan
      → TellsBytes old cert_name cert → NoFault old new
      → IsAnswered (AnswersAudit limits by_bytes source.slack instance plan cert) old new status
  -- the bytes have at most one answer
  pub one : (slack : ℕ) (instance plan cert : List ℕ)
      → IsOneAnswer (AnswersAudit limits by_bytes slack instance plan cert)
  -- no file is changed
  pub output : new.output ≡ old.output
  -- no call failed, but at 7 and 8
  pub quiet : IsQuiet status old new
