-- The command `check`: what is due, what stands behind each status, and what a run promises, for any kind of
-- certificates; `RunsCheck` is that for versions 1 and 2.
--
-- `old` and `new` are what the desk shows before and after a run.
use Rattle.std.specs.Prelude.{◌≡◌, ℕ, ℤ, pos, ◌-ℤ◌, List, Option, Some, None}
use Rattle.plan_desk.specs.Desk.{Shown}
use Rattle.plan_desk.specs.Contents.{TellsSuch, Says}
use Rattle.instance_model.specs.declared.limits.Limits.{Limits}
use Rattle.instance_model.specs.Tables.{Tables}
use Rattle.instance_model.specs.Values.{score_of}
use Rattle.instance_model.specs.Rules.{first_rule, KeepsRules}
use Rattle.instance_model.specs.declared.rule.Rule.{Rule}
use Rattle.lagrange_bound.specs.Goals.{risk_value}
use Rattle.certificate_lines.specs.declared.line.Bound.TheVariants.{NoPlan, Least}
use Rattle.certificate_tree.specs.declared.certificate.Certificate.{Certificate}
use Rattle.certificate_tree.specs.Validity.{IsProved, IsFirstUnproved}
use Rattle.command_frame.specs.Sources.{Source}
use Rattle.command_frame.specs.Lines.{failing_leaf_line}
use Rattle.command_frame.specs.Reports.{infeasible_report, accepted_report}
use Rattle.command_frame.specs.Ending.{Answer, IsOneAnswer, OrMemory, IsQuiet, Ends, Behind, IsAllowed}
use Rattle.command_frame.specs.Ending.{IsAnswered, NoFault}
use Rattle.command_frame.specs.Bytes.{RefusesInstance, IsRefusedInstance, RefusesPlan, IsRefusedPlan}
use Rattle.command_frame.specs.Bytes.{RefusesCertificateBy, IsRefusedCertificateBy}
use Rattle.command_frame.specs.Files.{reading, by_bytes, ReadsInstance, ReadsGiven, ReadsCertificateBy, SaysUnread}
use Rattle.command_frame.specs.Files.{SaysRefusal, TellsMissing, TellsBytes, TellsGivenBytes, TellsInstance}
use Rattle.command_frame.specs.Files.{TellsGiven, TellsCertificateBy}
use Rattle.command_frame.specs.Kinds.{CertificateKind, plain_kind}
use Rattle.command_answers.specs.Check.{BoundsEveryPlan, IsBest, GivenKeeps, AnswersCheckBy}

-- ---- what is due

-- what is due, once the desk shows `at`
abbrev pub DueCheck : {C : Type 0} → CertificateKind C → Limits → Source → Option (List ℕ) → List ℕ
    → (old at : Shown) → Answer → Type 0
DueCheck kind limits source plan cert old at =
    OrMemory (AnswersCheckBy kind limits (reading old at) source.slack source.instance plan cert)

-- ---- what stands behind each status

-- the files were read
pub record ReadsCheck {C : Type 0} (kind : CertificateKind C) (limits : Limits) (source : Source)
    (name : Option (List ℕ)) (cert_name : List ℕ) (old : Shown) : Type 0 where
  pub inst : Tables
  pub reads : ReadsInstance limits source old inst
  pub plan : Option (List (Option ℕ))
  pub reads_plan : ReadsGiven limits name inst old plan
  pub cert : C
  pub reads_cert : ReadsCertificateBy kind.texts limits cert_name inst old cert

-- 0: the certificate is valid, so every plan that keeps the rules has a score of at least its bound, and where that is
-- none, no plan keeps the rules; a plan that was given keeps them; where its score is the bound, no plan is better;
-- and the report was said
pub record ReportsAccepted {C : Type 0} (kind : CertificateKind C) (limits : Limits) (source : Source)
    (name : Option (List ℕ)) (cert_name : List ℕ) (old new : Shown) : Type 0 where
  pub files : ReadsCheck kind limits source name cert_name old
  pub valid : IsProved risk_value files.inst (kind.claim files.inst files.cert)
  pub bounds : BoundsEveryPlan files.inst (kind.claim files.inst files.cert).bound
  pub keeps : GivenKeeps files.inst files.plan
  pub no_plan : (kind.claim files.inst files.cert).bound ≡ NoPlan → files.plan ≡ None
  pub no_better : (plan : List (Option ℕ)) (b : ℤ) → files.plan ≡ Some plan
      → (kind.claim files.inst files.cert).bound ≡ Least b
      → score_of files.inst plan -ℤ b ≡ pos 0 → IsBest files.inst plan
  pub says : Says (accepted_report files.inst (kind.claim files.inst files.cert).bound files.plan) old new

-- 1: all files were read, a plan was given that does not keep the rules, and the first rule that it breaks was said
pub record ReportsBrokenGiven {C : Type 0} (kind : CertificateKind C) (limits : Limits) (source : Source)
    (name : Option (List ℕ)) (cert_name : List ℕ) (old new : Shown) : Type 0 where
  pub files : ReadsCheck kind limits source name cert_name old
  pub plan : List (Option ℕ)
  pub given : files.plan ≡ Some plan
  pub not_kept : KeepsRules files.inst plan → ⊥
  pub rule : Rule
  pub first : first_rule files.inst plan ≡ Some rule
  pub says : Says (infeasible_report files.inst rule) old new

-- 5, where the certificate was read: a plan that was given keeps the rules, and the first leaf that doesn't hold was
-- said
pub record RefusesLeaf {C : Type 0} (kind : CertificateKind C) (limits : Limits) (source : Source)
    (name : Option (List ℕ)) (cert_name : List ℕ) (old new : Shown) : Type 0 where
  pub files : ReadsCheck kind limits source name cert_name old
  pub keeps : GivenKeeps files.inst files.plan
  pub n : ℕ
  pub first : IsFirstUnproved risk_value files.inst (kind.claim files.inst files.cert) n
  pub says : Says (failing_leaf_line n) old new

pub data BehindCheck {C : Type 0} (kind : CertificateKind C) (limits : Limits) (source : Source)
    (name : Option (List ℕ)) (cert_name : List ℕ) (old new : Shown) : ℕ → Type 0 where
  accepted : ReportsAccepted kind limits source name cert_name old new
      → BehindCheck kind limits source name cert_name old new 0
  broken_given : ReportsBrokenGiven kind limits source name cert_name old new
      → BehindCheck kind limits source name cert_name old new 1
  refused_instance : SaysRefusal source.instance (RefusesInstance limits) old new
      → BehindCheck kind limits source name cert_name old new 3
  refused_plan : (plan : List ℕ) (inst : Tables) → name ≡ Some plan → ReadsInstance limits source old inst
      → SaysRefusal plan (RefusesPlan limits inst) old new → BehindCheck kind limits source name cert_name old new 4
  refused_certificate : (inst : Tables) (plan : Option (List (Option ℕ))) → ReadsInstance limits source old inst
      → ReadsGiven limits name inst old plan
      → SaysRefusal cert_name (RefusesCertificateBy kind.texts limits inst) old new
      → BehindCheck kind limits source name cert_name old new 5
  refused_leaf : RefusesLeaf kind limits source name cert_name old new
      → BehindCheck kind limits source name cert_name old new 5
  unread_instance : SaysUnread 2 source.instance old new → BehindCheck kind limits source name cert_name old new 7
  unread_plan : (plan : List ℕ) (inst : Tables) → name ≡ Some plan → ReadsInstance limits source old inst
      → SaysUnread 3 plan old new → BehindCheck kind limits source name cert_name old new 7
  unread_certificate : (inst : Tables) (plan : Option (List (Option ℕ))) → ReadsInstance limits source old inst
      → ReadsGiven limits name inst old plan → SaysUnread 4 cert_name old new
      → BehindCheck kind limits source name cert_name old new 7

-- ---- which status comes, from what the files are told to hold

-- an instance, a plan if one is given, and a certificate
pub record CheckedFiles (C : Type 0) : Type 0 where
  pub inst : Tables
  pub plan : Option (List (Option ℕ))
  pub cert : C

-- it is told that the bytes of the files stand for these
pub record TellsCheckedBy {C : Type 0} (kind : CertificateKind C) (limits : Limits) (s : Shown) (source : Source)
    (name : Option (List ℕ)) (cert_name : List ℕ) (files : CheckedFiles C) : Type 0 where
  pub instance : TellsInstance limits s source files.inst
  pub plan : TellsGiven limits s name files.inst files.plan
  pub cert : TellsCertificateBy kind.texts limits s cert_name files.inst files.cert

pub data ExpectsCheck {C : Type 0} (kind : CertificateKind C) (limits : Limits) (source : Source)
    (name : Option (List ℕ)) (cert_name : List ℕ) (old : Shown) : ℕ → Type 0 where
  no_instance : TellsMissing old source.instance → ExpectsCheck kind limits source name cert_name old 7
  refused_instance : TellsSuch old source.instance (IsRefusedInstance limits)
      → ExpectsCheck kind limits source name cert_name old 3
  no_plan : (plan : List ℕ) (inst : Tables) → name ≡ Some plan → TellsInstance limits old source inst
      → TellsMissing old plan → ExpectsCheck kind limits source name cert_name old 7
  refused_plan : (plan : List ℕ) (inst : Tables) → name ≡ Some plan → TellsInstance limits old source inst
      → TellsSuch old plan (IsRefusedPlan limits inst) → ExpectsCheck kind limits source name cert_name old 4
  no_certificate : (inst : Tables) (plan : Option (List (Option ℕ))) → TellsInstance limits old source inst
      → TellsGiven limits old name inst plan → TellsMissing old cert_name
      → ExpectsCheck kind limits source name cert_name old 7
  refused_certificate : (inst : Tables) (plan : Option (List (Option ℕ))) → TellsInstance limits old source inst
      → TellsGiven limits old name inst plan → TellsSuch old cert_name (IsRefusedCertificateBy kind.texts limits inst)
      → ExpectsCheck kind limits source name cert_name old 5
  broken_plan : (files : CheckedFiles C) (plan : List (Option ℕ))
      → TellsCheckedBy kind limits old source name cert_name files → files.plan ≡ Some plan
      → (KeepsRules files.inst plan → ⊥) → ExpectsCheck kind limits source name cert_name old 1
  valid_certificate : (files : CheckedFiles C) → TellsCheckedBy kind limits old source name cert_name files
      → GivenKeeps files.inst files.plan → IsProved risk_value files.inst (kind.claim files.inst files.cert)
      → ExpectsCheck kind limits source name cert_name old 0
  failing_leaf : (files : CheckedFiles C) (n : ℕ) → TellsCheckedBy kind limits old source name cert_name files
      → GivenKeeps files.inst files.plan → IsFirstUnproved risk_value files.inst (kind.claim files.inst files.cert) n
      → ExpectsCheck kind limits source name cert_name old 5

-- ---- what a run promises

pub record RunsCheckBy {C : Type 0} (kind : CertificateKind C) (limits : Limits) (source : Source)
    (name : Option (List ℕ)) (cert_name : List ℕ) (old new : Shown) (status : ℕ) : Type 0 where
  -- what was due was said, or its saying failed
  pub ends : Ends (DueCheck kind limits source name cert_name old) old new status
  -- what stands behind the status, which also is one of these
  pub behind : Behind (BehindCheck kind limits source name cert_name old new)
      (DueCheck kind limits source name cert_name old) old new status
  -- which status comes
  pub allowed : (expected : ℕ) → ExpectsCheck kind limits source name cert_name old expected → IsAllowed expected status
  -- without a fault, the answer is the one for the bytes of the files, or want of memory
  pub exact : (instance : List ℕ) (plan : Option (List ℕ)) (cert : List ℕ) → TellsBytes old source.instance instance
      → TellsGivenBytes old name plan → TellsBytes old cert_name cert → NoFault old new
      → IsAnswered (AnswersCheckBy kind limits by_bytes source.slack instance plan cert) old new status
  -- the bytes have at most one answer
  pub one : (slack : ℕ) (instance : List ℕ) (plan : Option (List ℕ)) (cert : List ℕ)
      → IsOneAnswer (AnswersCheckBy kind limits by_bytes slack instance plan cert)
  -- no file is changed
  pub output : new.output ≡ old.output
  -- no call failed, but at 7 and 8
  pub quiet : IsQuiet status old new

-- ---- certificates of versions 1 and 2

-- an instance, a plan if one is given, and a certificate
abbrev pub CheckedPlan : Type 0
CheckedPlan = CheckedFiles Certificate

-- it is told that the bytes of the files stand for these
abbrev pub TellsChecked : Limits → Shown → Source → Option (List ℕ) → List ℕ → CheckedPlan → Type 0
TellsChecked = TellsCheckedBy plain_kind

-- what a run promises
abbrev pub RunsCheck : Limits → Source → Option (List ℕ) → List ℕ → (old new : Shown) → ℕ → Type 0
RunsCheck = RunsCheckBy plain_kind
