-- The command `rebound`: the answers to an instance and a certificate, what stands behind each, and what a run
-- promises, for any kind of certificates; `RunsRebound` is that for versions 1 and 2.
--
-- `old` and `new` are what the desk shows before and after a run. Worths, scores and bounds are in parts of 10^-18.
use Rattle.std.specs.Prelude.{◌≡◌, ℕ, ◌<◌, ◌≤◌, List, [], ◌∷◌, ◌++◌, length, None, codes}
use Rattle.plan_desk.specs.Desk.{Shown}
use Rattle.plan_desk.specs.Contents.{TellsSuch, HoldsBytes, Says}
use Rattle.instance_model.specs.declared.limits.Limits.{Limits}
use Rattle.instance_model.specs.Tables.{Tables}
use Rattle.lagrange_bound.specs.Goals.{risk_value}
use Rattle.certificate_tree.specs.declared.certificate.Certificate.{Certificate}
use Rattle.certificate_tree.specs.Validity.{IsProved}
use Rattle.band_rebound.specs.declared.rebounded.ReboundTree.{ReboundTree}
use Rattle.band_rebound.specs.Rebinding.{IsNoLower}
use Rattle.band_rebound.specs.Rebounds.{IsReboundBy}
use Rattle.command_frame.specs.Sources.{Source}
use Rattle.command_frame.specs.Lines.{numbered_line}
use Rattle.command_frame.specs.Reports.{bound_or_none_line, rounded_line, accepted_report}
use Rattle.command_frame.specs.Ending.{Writing, Answer, reply, IsOneAnswer, OrMemory, IsQuiet, Ends, Behind, IsAllowed}
use Rattle.command_frame.specs.Ending.{IsAnswered, NoFault}
use Rattle.command_frame.specs.Bytes.{RefusesInstance, IsRefusedInstance, RefusesCertificateBy}
use Rattle.command_frame.specs.Bytes.{IsRefusedCertificateBy}
use Rattle.command_frame.specs.Files.{Meeting, reading, by_bytes, OnInstance, OnCertificateBy, ReadsInstance}
use Rattle.command_frame.specs.Files.{ReadsCertificateBy, SaysUnread, SaysRefusal, TellsMissing, TellsBytes}
use Rattle.command_frame.specs.Files.{TellsInstance, TellsCertificateBy}
use Rattle.command_frame.specs.Kinds.{CertificateKind, plain_kind}
use Rattle.command_frame.specs.Outputs.{long_output_line, KeepsAllBut, Opens}
use Rattle.command_answers.specs.Check.{BoundsEveryPlan, AnswersCheckBy}
use Rattle.command_answers.specs.Accepting.{IsCheckableBy}

-- ---- what a certificate becomes

-- its tree becomes this one, by the worths of its lists
abbrev pub BecomesBy : {C : Type 0} → CertificateKind C → Tables → C → ReboundTree → Type 0
BecomesBy kind inst cert =
    IsReboundBy inst (kind.claim inst cert).lists (kind.claim inst cert).worths (kind.claim inst cert).nodes

-- the certificate with this tree and its bound
abbrev pub with_tree : {C : Type 0} → CertificateKind C → C → ReboundTree → C
with_tree kind cert tree = kind.remade cert tree.bound tree.nodes

-- it claims this bound by this tree, and what it says of boxes stays
abbrev pub ClaimsTree : {C : Type 0} → CertificateKind C → Tables → C → ReboundTree → Type 0
ClaimsTree kind inst cert tree = kind.claim inst (with_tree kind cert tree)
    ≡ record (kind.claim inst cert) { bound = tree.bound; nodes = tree.nodes }

-- ---- the report

-- the report on a certificate that was made for the instance
abbrev pub rebound_report : Tables → ReboundTree → List ℕ
rebound_report inst answer =
    codes "rebound\n"
    ++ (bound_or_none_line answer.bound
    ++ (numbered_line (codes "kept ") answer.kept
    ++ (numbered_line (codes "changed ") answer.changed ++ rounded_line inst.rounded)))

-- ---- the answer

-- what is written: the text of the new certificate, as the file of word 4
abbrev pub out_write : {C : Type 0} → CertificateKind C → Tables → List ℕ → C → Writing
out_write kind inst out cert = record { word = 4; file = record { name = out; bytes = kind.text inst cert } }

-- The certificate is the one that the old one becomes, and its text is within the limit of certificate files. It is
-- valid for the instance, `check` without a plan accepts its text, and its bound holds for every plan; where the old
-- one is valid for the instance, the new bound is no lower.
pub record IsRebound {C : Type 0} (kind : CertificateKind C) (limits : Limits) (inst : Tables) (cert : C)
    (answer : ReboundTree) : Type 0 where
  pub is : BecomesBy kind inst cert answer
  pub claims : ClaimsTree kind inst cert answer
  pub valid : IsProved risk_value inst (kind.claim inst (with_tree kind cert answer))
  pub checkable : IsCheckableBy kind limits inst (with_tree kind cert answer)
  pub no_lower : IsProved risk_value inst (kind.claim inst cert)
      → IsNoLower (kind.claim inst cert).bound answer.bound
  pub within : length (kind.text inst (with_tree kind cert answer)) ≤ limits.certificate_bytes

-- The text of the certificate that the old one becomes has more bytes than certificate files may have.
pub record IsTooLong {C : Type 0} (kind : CertificateKind C) (limits : Limits) (inst : Tables) (cert : C)
    (answer : ReboundTree) : Type 0 where
  pub is : BecomesBy kind inst cert answer
  pub long : limits.certificate_bytes < length (kind.text inst (with_tree kind cert answer))

-- to an instance and a certificate: 12 exactly where the new text is too long, and else 0 with the text as a file
pub data RebindsBy {C : Type 0} (kind : CertificateKind C) (limits : Limits) (inst : Tables) (out : List ℕ) (cert : C)
    : Answer → Type 0 where
  rebound : (answer : ReboundTree) → IsRebound kind limits inst cert answer
      → RebindsBy kind limits inst out cert (record {
        status = 0;
        text = rebound_report inst answer;
        writes = out_write kind inst out (with_tree kind cert answer) ∷ [];
      })
  too_long : (answer : ReboundTree) → IsTooLong kind limits inst cert answer
      → RebindsBy kind limits inst out cert (reply 12 (long_output_line 4))

-- to the files, with a slack in 10^-12: the instance is word 2, the certificate word 3, and what is written word 4
abbrev pub AnswersReboundBy : {C : Type 0} → CertificateKind C → Limits → Meeting → ℕ → (instance cert out : List ℕ)
    → Answer → Type 0
AnswersReboundBy kind limits met slack instance cert out = OnInstance limits slack met 2 instance
    (λ inst. OnCertificateBy kind.texts limits inst met 3 cert (RebindsBy kind limits inst out))

-- what is due, once the desk shows `at`
abbrev pub DueRebound : {C : Type 0} → CertificateKind C → Limits → Source → (cert out : List ℕ) → (old at : Shown)
    → Answer → Type 0
DueRebound kind limits source cert out old at =
    OrMemory (AnswersReboundBy kind limits (reading old at) source.slack source.instance cert out)

-- ---- what stands behind each status

-- the files were read
pub record ReadsRebound {C : Type 0} (kind : CertificateKind C) (limits : Limits) (source : Source)
    (cert_name : List ℕ) (old : Shown) : Type 0 where
  pub inst : Tables
  pub reads : ReadsInstance limits source old inst
  pub cert : C
  pub reads_cert : ReadsCertificateBy kind.texts limits cert_name inst old cert

-- 0: both files were read, the certificate that the old one becomes was written, and the report was said. It is valid
-- for the instance, so every plan that keeps the rules has a score of at least its bound, and `check` with the same
-- instance and slack accepts it; where the old one is valid for the instance, the new bound is no lower.
pub record ReportsRebound {C : Type 0} (kind : CertificateKind C) (limits : Limits) (source : Source)
    (cert_name out : List ℕ) (old new : Shown) : Type 0 where
  pub files : ReadsRebound kind limits source cert_name old
  pub answer : ReboundTree
  pub is : BecomesBy kind files.inst files.cert answer
  pub claims : ClaimsTree kind files.inst files.cert answer
  pub valid : IsProved risk_value files.inst (kind.claim files.inst (with_tree kind files.cert answer))
  pub bounds : BoundsEveryPlan files.inst answer.bound
  pub no_lower : IsProved risk_value files.inst (kind.claim files.inst files.cert)
      → IsNoLower (kind.claim files.inst files.cert).bound answer.bound
  pub within : length (kind.text files.inst (with_tree kind files.cert answer)) ≤ limits.certificate_bytes
  pub held : HoldsBytes new out (kind.text files.inst (with_tree kind files.cert answer))
  pub accepted : AnswersCheckBy kind limits by_bytes source.slack files.reads.bytes None
      (kind.text files.inst (with_tree kind files.cert answer))
      (reply 0 (accepted_report files.inst answer.bound None))
  pub says : Says (rebound_report files.inst answer) old new

-- 12: both files were read, and the text of the certificate that the old one becomes is longer than the limit of
-- certificate files
pub record RefusesLong {C : Type 0} (kind : CertificateKind C) (limits : Limits) (source : Source)
    (cert_name : List ℕ) (old new : Shown) : Type 0 where
  pub files : ReadsRebound kind limits source cert_name old
  pub answer : ReboundTree
  pub is : BecomesBy kind files.inst files.cert answer
  pub long : limits.certificate_bytes < length (kind.text files.inst (with_tree kind files.cert answer))
  pub says : Says (long_output_line 4) old new

pub data BehindRebound {C : Type 0} (kind : CertificateKind C) (limits : Limits) (source : Source)
    (cert_name out : List ℕ) (old new : Shown) : ℕ → Type 0 where
  rebound : ReportsRebound kind limits source cert_name out old new
      → BehindRebound kind limits source cert_name out old new 0
  too_long : RefusesLong kind limits source cert_name old new
      → BehindRebound kind limits source cert_name out old new 12
  refused_instance : SaysRefusal source.instance (RefusesInstance limits) old new
      → BehindRebound kind limits source cert_name out old new 3
  refused_certificate : (inst : Tables) → ReadsInstance limits source old inst
      → SaysRefusal cert_name (RefusesCertificateBy kind.texts limits inst) old new
      → BehindRebound kind limits source cert_name out old new 5
  unread_instance : SaysUnread 2 source.instance old new → BehindRebound kind limits source cert_name out old new 7
  unread_certificate : (inst : Tables) → ReadsInstance limits source old inst → SaysUnread 3 cert_name old new
      → BehindRebound kind limits source cert_name out old new 7

-- ---- which status comes, from what the files are told to hold

pub data ExpectsRebound {C : Type 0} (kind : CertificateKind C) (limits : Limits) (source : Source)
    (cert_name : List ℕ) (old : Shown) : ℕ → Type 0 where
  no_instance : TellsMissing old source.instance → ExpectsRebound kind limits source cert_name old 7
  refused_instance : TellsSuch old source.instance (IsRefusedInstance limits)
      → ExpectsRebound kind limits source cert_name old 3
  no_certificate : (inst : Tables) → TellsInstance limits old source inst → TellsMissing old cert_name
      → ExpectsRebound kind limits source cert_name old 7
  refused_certificate : (inst : Tables) → TellsInstance limits old source inst
      → TellsSuch old cert_name (IsRefusedCertificateBy kind.texts limits inst)
      → ExpectsRebound kind limits source cert_name old 5
  short : (inst : Tables) (cert : C) (answer : ReboundTree) → TellsInstance limits old source inst
      → TellsCertificateBy kind.texts limits old cert_name inst cert → BecomesBy kind inst cert answer
      → length (kind.text inst (with_tree kind cert answer)) ≤ limits.certificate_bytes
      → ExpectsRebound kind limits source cert_name old 0
  long : (inst : Tables) (cert : C) (answer : ReboundTree) → TellsInstance limits old source inst
      → TellsCertificateBy kind.texts limits old cert_name inst cert → BecomesBy kind inst cert answer
      → limits.certificate_bytes < length (kind.text inst (with_tree kind cert answer))
      → ExpectsRebound kind limits source cert_name old 12

-- ---- what a run promises

pub record RunsReboundBy {C : Type 0} (kind : CertificateKind C) (limits : Limits) (source : Source)
    (cert_name out : List ℕ) (old new : Shown) (status : ℕ) : Type 0 where
  -- what was due was written and said, or the writing or saying failed
  pub ends : Ends (DueRebound kind limits source cert_name out old) old new status
  -- what stands behind the status, which also is one of these
  pub behind : Behind (BehindRebound kind limits source cert_name out old new)
      (DueRebound kind limits source cert_name out old) old new status
  -- which status comes
  pub allowed : (expected : ℕ) → ExpectsRebound kind limits source cert_name old expected → IsAllowed expected status
  -- without a fault, the answer is the one for the bytes of the files, or want of memory
  pub exact : (instance cert : List ℕ) → TellsBytes old source.instance instance → TellsBytes old cert_name cert
      → NoFault old new
      → IsAnswered (AnswersReboundBy kind limits by_bytes source.slack instance cert out) old new status
  -- the bytes have at most one answer
  pub one : (slack : ℕ) (instance cert : List ℕ)
      → IsOneAnswer (AnswersReboundBy kind limits by_bytes slack instance cert out)
  -- no file is changed but that of the new certificate, and that only with these statuses
  pub others : KeepsAllBut out old new
  pub unopened : (Opens status → ⊥) → new.output ≡ old.output
  -- no call failed, but at 7 and 8
  pub quiet : IsQuiet status old new

-- ---- certificates of versions 1 and 2

-- to an instance and a certificate: 12 exactly where the new text is too long, and else 0 with the text as a file
abbrev pub Rebinds : Limits → Tables → List ℕ → Certificate → Answer → Type 0
Rebinds = RebindsBy plain_kind

-- what a run promises
abbrev pub RunsRebound : Limits → Source → (cert_name out : List ℕ) → (old new : Shown) → ℕ → Type 0
RunsRebound = RunsReboundBy plain_kind
