-- The command `bound`: the answers to an instance, a plan that may be left out and a certificate that may be, what
-- stands behind each, and what a run promises.
--
-- `old` and `new` are what the desk shows before and after a run. Worths, scores and bounds are in parts of 10^-18.
use Rattle.std.specs.Prelude.{◌≡◌, ◌⊎◌, ℕ, ◌<◌, ◌≤◌, ℤ, ◌≤ℤ◌, List, [], ◌∷◌, ◌++◌, length, map, Option, Some, None}
use Rattle.std.specs.Prelude.{option_map, codes}
use Rattle.plan_desk.specs.Desk.{Shown}
use Rattle.plan_desk.specs.Contents.{TellsSuch, HoldsBytes, Says}
use Rattle.instance_model.specs.declared.limits.Limits.{Limits}
use Rattle.instance_model.specs.Tables.{Tables}
use Rattle.instance_model.specs.Values.{score_of}
use Rattle.instance_model.specs.Rules.{KeepsRules}
use Rattle.certificate_lines.specs.declared.line.Bound.{Bound}
use Rattle.certificate_lines.specs.declared.line.Bound.TheVariants.{NoPlan, Least}
use Rattle.branch_search.specs.declared.part.Part.{Part}
use Rattle.refined_check.specs.declared.certificate.certificate.RefinedCertificate.{RefinedCertificate}
use Rattle.refined_text.specs.text.Text.{refined_text}
use Rattle.refined_files.specs.RefinedKind.{refined_kind}
use Rattle.refined_search.specs.declared.raised.Raised.{Raised}
use Rattle.refined_search.specs.Raising.{LeavesToOthers, IsRaised}
use Rattle.branch_search.specs.Turns.{AreEnough}
use Rattle.command_frame.specs.Sources.{Source}
use Rattle.command_frame.specs.Lines.{numbered_line}
use Rattle.command_frame.specs.Reports.{bound_or_none_line, gap_text, rounded_line, accepted_report}
use Rattle.command_frame.specs.Ending.{Writing, Answer, reply, OrMemory, IsOneOf, IsQuiet, Ends, Behind, IsAllowed}
use Rattle.command_frame.specs.Ending.{IsAnswered, NoFault}
use Rattle.command_frame.specs.Bytes.{RefusesInstance, IsRefusedInstance, RefusesPlan, IsRefusedPlan}
use Rattle.command_frame.specs.Bytes.{RefusesCertificateBy, IsRefusedCertificateBy}
use Rattle.command_frame.specs.Files.{Meeting, reading, by_bytes, OnInstance, OnGiven, ReadsInstance, ReadsGiven}
use Rattle.command_frame.specs.Files.{SaysUnread, SaysRefusal, TellsMissing, TellsGivenBytes, TellsBytes}
use Rattle.command_frame.specs.Files.{TellsInstance, TellsGiven}
use Rattle.command_frame.specs.Outputs.{long_output_line, KeepsAllBut}
use Rattle.command_answers.specs.Check.{IsKeptPlan, BoundsEveryPlan, AnswersCheckBy}
use Rattle.command_answers.specs.Accepting.{IsCheckableBy}
use Rattle.command_bound.specs.Given.{OnGivenCertificateBy, ReadsGivenCertificateBy, TellsGivenCertificateBy}

-- ---- the plan

-- a plan that was given is handed in where it keeps every rule, and else left aside
abbrev pub IsHandedIn : Tables → Option (List (Option ℕ)) → Option (List ℕ) → Type 0
IsHandedIn inst None handed_in = handed_in ≡ None
IsHandedIn inst (Some plan) None = KeepsRules inst plan → ⊥
IsHandedIn inst (Some plan) (Some starts) = IsKeptPlan inst plan × (plan ≡ map Some starts)

-- ---- the bound

-- the bound is the least score of a plan that keeps every rule, or none, where no plan does
abbrev pub IsLeastScore : Tables → Bound → Type 0
IsLeastScore inst NoPlan = (plan : List (Option ℕ)) → IsKeptPlan inst plan → ⊥
IsLeastScore inst (Least b) =
    ((plan : List (Option ℕ)) × IsKeptPlan inst plan × (score_of inst plan ≡ b))
    × ((plan : List (Option ℕ)) → IsKeptPlan inst plan → b ≤ℤ score_of inst plan)

-- ---- the report

-- the last lines: the lists of the certificate, the splits that were made, and of the leaves of the old certificate how
-- many stayed and how many became others
abbrev pub counts_text : Tables → Raised → List ℕ
counts_text inst answer =
    numbered_line (codes "lists ") (length answer.cert.lists)
    ++ (numbered_line (codes "splits ") answer.splits
    ++ (numbered_line (codes "kept ") answer.kept
    ++ (numbered_line (codes "changed ") answer.changed ++ rounded_line inst.rounded)))

-- the report on a certificate that was made, and on the plan, where it was handed in
abbrev pub bound_report : Tables → Option (List ℕ) → Raised → List ℕ
bound_report inst handed_in answer =
    bound_or_none_line answer.cert.bound
    ++ (gap_text answer.cert.bound (option_map (λ starts. score_of inst (map Some starts)) handed_in)
    ++ counts_text inst answer)

-- the status: 10 where no plan keeps every rule
abbrev pub bound_status : Bound → ℕ
bound_status (Least b) = 0
bound_status NoPlan = 10

-- ---- the answer

-- what is written: the text of the certificate, as the file of word 5
abbrev pub out_write : Tables → List ℕ → RefinedCertificate → Writing
out_write inst out cert = record { word = 5; file = record { name = out; bytes = refined_text inst cert } }

-- what is left is left to other parts, of which there are some: no leaf that stands where the tree that was gone on
-- with had a leaf of this part may have a better plan than the best one
abbrev pub LeavesTheRest : (inst : Tables) (handed_in : Option (List ℕ)) (cert : Option RefinedCertificate) (turns : ℕ)
    (part : Part) (most : ℕ) (answer : Raised) → IsRaised inst handed_in cert turns part most answer → Type 0
LeavesTheRest inst handed_in cert turns part most answer is =
    LeavesToOthers inst answer part is.gone_on.given is.gone_on.by.tree

-- a certificate is made with so many further lists at most, and its text has more bytes than certificate files may have
pub record IsTooLong (limits : Limits) (inst : Tables) (cert : Option RefinedCertificate) (turns : ℕ) (part : Part)
    (handed_in : Option (List ℕ)) (most : ℕ) (answer : Raised) : Type 0 where
  pub is : IsRaised inst handed_in cert turns part most answer
  pub long : limits.certificate_bytes < length (refined_text inst answer.cert)

-- Up to 16 further lists may be added. Fewer may be, and one at least, only if a text with more lists was too long.
pub data LeavesOut (limits : Limits) (inst : Tables) (cert : Option RefinedCertificate) (turns : ℕ) (part : Part)
    (handed_in : Option (List ℕ)) : ℕ → Type 0 where
  none : LeavesOut limits inst cert turns part handed_in 16
  some : (most fewer : ℕ) (answer : Raised) → 1 ≤ fewer → fewer < most
      → IsTooLong limits inst cert turns part handed_in most answer
      → LeavesOut limits inst cert turns part handed_in fewer

-- The certificate is one that is made of the plan and the old certificate, whose leaves of this part alone were split.
-- Its text is within the limit of certificate files, and lists that would make the text too long are left out. `check`
-- without a plan accepts that text, and its bound holds for every plan. Exactly these turns were spent, or the bound is
-- the least score, or what is left is left to other parts. If the turns are enough for all plans, it is one of the last
-- two.
pub record IsBounded (limits : Limits) (inst : Tables) (given : Option (List (Option ℕ)))
    (cert : Option RefinedCertificate) (turns : ℕ) (part : Part) (handed_in : Option (List ℕ)) (answer : Raised)
    : Type 0 where
  pub plan : IsHandedIn inst given handed_in
  pub most : ℕ
  pub left_out : LeavesOut limits inst cert turns part handed_in most
  pub is : IsRaised inst handed_in cert turns part most answer
  pub checkable : IsCheckableBy refined_kind limits inst answer.cert
  pub spent : (answer.splits ≡ turns) ⊎ IsLeastScore inst answer.cert.bound
      ⊎ LeavesTheRest inst handed_in cert turns part most answer is
  pub enough : AreEnough inst turns → IsLeastScore inst answer.cert.bound
      ⊎ LeavesTheRest inst handed_in cert turns part most answer is
  pub within : length (refined_text inst answer.cert) ≤ limits.certificate_bytes

-- to an instance, a plan if one is given, and a certificate if one is: 12 if the text is too long with the old lists
-- and one further list at most; else the text as a file, with 10 if the bound is none, and 0 if it is a number
pub data RaisesBound (limits : Limits) (inst : Tables) (given : Option (List (Option ℕ))) (out : List ℕ) (turns : ℕ)
    (part : Part)
    (cert : Option RefinedCertificate) : Answer → Type 0 where
  raised : (handed_in : Option (List ℕ)) (answer : Raised)
      → IsBounded limits inst given cert turns part handed_in answer
      → RaisesBound limits inst given out turns part cert (record {
        status = bound_status answer.cert.bound;
        text = bound_report inst handed_in answer;
        writes = out_write inst out answer.cert ∷ [];
      })
  too_long : (handed_in : Option (List ℕ)) (answer : Raised) → IsHandedIn inst given handed_in
      → IsTooLong limits inst cert turns part handed_in 1 answer
      → RaisesBound limits inst given out turns part cert (reply 12 (long_output_line 5))

-- to the files, with a slack in 10^-12: the instance is word 2, the plan word 3, the certificate word 4, and what is
-- written word 5
abbrev pub AnswersBound : Limits → Meeting → ℕ → (instance : List ℕ) → (plan cert : Option (List ℕ)) → (out : List ℕ)
    → (turns : ℕ) (part : Part) → Answer → Type 0
AnswersBound limits met slack instance plan cert out turns part = OnInstance limits slack met 2 instance
    (λ inst. OnGiven limits inst met 3 plan
    (λ given. OnGivenCertificateBy refined_kind.texts limits inst met 4 cert
    (RaisesBound limits inst given out turns part)))

-- what is due, once the desk shows `at`
abbrev pub DueBound : Limits → Source → (plan cert : Option (List ℕ)) → (out : List ℕ) → (turns : ℕ) (part : Part)
    → (old at : Shown)
    → Answer → Type 0
DueBound limits source plan cert out turns part old at =
    OrMemory (AnswersBound limits (reading old at) source.slack source.instance plan cert out turns part)

-- ---- what stands behind each status

-- the files were read
pub record ReadsBound (limits : Limits) (source : Source) (name cert_name : Option (List ℕ)) (old : Shown)
    : Type 0 where
  pub inst : Tables
  pub reads : ReadsInstance limits source old inst
  pub plan : Option (List (Option ℕ))
  pub reads_plan : ReadsGiven limits name inst old plan
  pub cert : Option RefinedCertificate
  pub reads_cert : ReadsGivenCertificateBy refined_kind.texts limits cert_name inst old cert

-- The files were read, a certificate that is made of them was written, and the report was said. Every plan that keeps
-- the rules has a score of at least its bound, or where that is none, no plan keeps the rules; and `check` with the
-- same instance and slack accepts what was written. Lists that would make the text too long are left out. Exactly these
-- turns were spent, or the bound is the least score, or what is left is left to other parts. If the turns are enough for
-- all plans, it is one of the last two.
pub record WritesBound (limits : Limits) (source : Source) (name cert_name : Option (List ℕ)) (out : List ℕ)
    (turns : ℕ) (part : Part)
    (bound : Bound) (old new : Shown) : Type 0 where
  pub files : ReadsBound limits source name cert_name old
  pub handed_in : Option (List ℕ)
  pub plan : IsHandedIn files.inst files.plan handed_in
  pub answer : Raised
  pub most : ℕ
  pub left_out : LeavesOut limits files.inst files.cert turns part handed_in most
  pub is : IsRaised files.inst handed_in files.cert turns part most answer
  pub bound_is : answer.cert.bound ≡ bound
  pub bounds : BoundsEveryPlan files.inst bound
  pub spent : (answer.splits ≡ turns) ⊎ IsLeastScore files.inst bound
      ⊎ LeavesTheRest files.inst handed_in files.cert turns part most answer is
  pub enough : AreEnough files.inst turns → IsLeastScore files.inst bound
      ⊎ LeavesTheRest files.inst handed_in files.cert turns part most answer is
  pub within : length (refined_text files.inst answer.cert) ≤ limits.certificate_bytes
  pub held : HoldsBytes new out (refined_text files.inst answer.cert)
  pub accepted : AnswersCheckBy refined_kind limits by_bytes source.slack files.reads.bytes None
      (refined_text files.inst answer.cert) (reply 0 (accepted_report files.inst bound None))
  pub says : Says (bound_report files.inst handed_in answer) old new

-- 12: the files were read. The text of a certificate that is made of them, with the old lists and one further list at
-- most, is longer than the limit of certificate files.
pub record RefusesLong (limits : Limits) (source : Source) (name cert_name : Option (List ℕ)) (turns : ℕ) (part : Part)
    (old new : Shown) : Type 0 where
  pub files : ReadsBound limits source name cert_name old
  pub handed_in : Option (List ℕ)
  pub plan : IsHandedIn files.inst files.plan handed_in
  pub answer : Raised
  pub too_long : IsTooLong limits files.inst files.cert turns part handed_in 1 answer
  pub says : Says (long_output_line 5) old new

pub data BehindBound (limits : Limits) (source : Source) (name cert_name : Option (List ℕ)) (out : List ℕ) (turns : ℕ)
    (part : Part)
    (old new : Shown) : ℕ → Type 0 where
  -- 0: the bound is a number; 10: it is none
  bounded : (b : ℤ) → WritesBound limits source name cert_name out turns part (Least b) old new
      → BehindBound limits source name cert_name out turns part old new 0
  no_plan_exists : WritesBound limits source name cert_name out turns part NoPlan old new
      → BehindBound limits source name cert_name out turns part old new 10
  too_long : RefusesLong limits source name cert_name turns part old new
      → BehindBound limits source name cert_name out turns part old new 12
  refused_instance : SaysRefusal source.instance (RefusesInstance limits) old new
      → BehindBound limits source name cert_name out turns part old new 3
  refused_plan : (plan : List ℕ) (inst : Tables) → name ≡ Some plan → ReadsInstance limits source old inst
      → SaysRefusal plan (RefusesPlan limits inst) old new
      → BehindBound limits source name cert_name out turns part old new 4
  refused_certificate : (cert : List ℕ) (inst : Tables) (plan : Option (List (Option ℕ))) → cert_name ≡ Some cert
      → ReadsInstance limits source old inst → ReadsGiven limits name inst old plan
      → SaysRefusal cert (RefusesCertificateBy refined_kind.texts limits inst) old new
      → BehindBound limits source name cert_name out turns part old new 5
  unread_instance : SaysUnread 2 source.instance old new
      → BehindBound limits source name cert_name out turns part old new 7
  unread_plan : (plan : List ℕ) (inst : Tables) → name ≡ Some plan → ReadsInstance limits source old inst
      → SaysUnread 3 plan old new → BehindBound limits source name cert_name out turns part old new 7
  unread_certificate : (cert : List ℕ) (inst : Tables) (plan : Option (List (Option ℕ))) → cert_name ≡ Some cert
      → ReadsInstance limits source old inst → ReadsGiven limits name inst old plan → SaysUnread 4 cert old new
      → BehindBound limits source name cert_name out turns part old new 7

-- ---- which status comes, from what the files are told to hold

-- where one is missing or refused
pub data ExpectsBound (limits : Limits) (source : Source) (name cert_name : Option (List ℕ)) (old : Shown)
    : ℕ → Type 0 where
  no_instance : TellsMissing old source.instance → ExpectsBound limits source name cert_name old 7
  refused_instance : TellsSuch old source.instance (IsRefusedInstance limits)
      → ExpectsBound limits source name cert_name old 3
  no_plan : (plan : List ℕ) (inst : Tables) → name ≡ Some plan → TellsInstance limits old source inst
      → TellsMissing old plan → ExpectsBound limits source name cert_name old 7
  refused_plan : (plan : List ℕ) (inst : Tables) → name ≡ Some plan → TellsInstance limits old source inst
      → TellsSuch old plan (IsRefusedPlan limits inst) → ExpectsBound limits source name cert_name old 4
  no_certificate : (cert : List ℕ) (inst : Tables) (plan : Option (List (Option ℕ))) → cert_name ≡ Some cert
      → TellsInstance limits old source inst → TellsGiven limits old name inst plan → TellsMissing old cert
      → ExpectsBound limits source name cert_name old 7
  refused_certificate : (cert : List ℕ) (inst : Tables) (plan : Option (List (Option ℕ))) → cert_name ≡ Some cert
      → TellsInstance limits old source inst → TellsGiven limits old name inst plan
      → TellsSuch old cert (IsRefusedCertificateBy refined_kind.texts limits inst)
      → ExpectsBound limits source name cert_name old 5

-- an instance, a plan if one is given, and a certificate if one is
pub record BoundFiles : Type 0 where
  pub inst : Tables
  pub plan : Option (List (Option ℕ))
  pub cert : Option RefinedCertificate

-- it is told that the bytes of the files stand for these
pub record TellsBoundFiles (limits : Limits) (old : Shown) (source : Source) (name cert_name : Option (List ℕ))
    (files : BoundFiles) : Type 0 where
  pub instance : TellsInstance limits old source files.inst
  pub plan : TellsGiven limits old name files.inst files.plan
  pub cert : TellsGivenCertificateBy refined_kind.texts limits old cert_name files.inst files.cert

-- where all are there, and the text that is made isn't too long: 0 where a plan keeps every rule; and with turns for
-- all plans, and one part alone, 10 where none does
pub data ExpectsMade (limits : Limits) (source : Source) (name cert_name : Option (List ℕ)) (turns : ℕ) (part : Part)
    (old : Shown)
    : ℕ → Type 0 where
  a_plan : (files : BoundFiles) (plan : List (Option ℕ)) → TellsBoundFiles limits old source name cert_name files
      → IsKeptPlan files.inst plan → ExpectsMade limits source name cert_name turns part old 0
  none_keeps : (files : BoundFiles) → TellsBoundFiles limits old source name cert_name files
      → ((plan : List (Option ℕ)) → IsKeptPlan files.inst plan → ⊥) → part.count ≡ 1 → AreEnough files.inst turns
      → ExpectsMade limits source name cert_name turns part old 10

-- ---- what a run promises

-- the statuses with which the file is opened: it was written, or its writing or what is said then failed
abbrev pub OpensBound : ℕ → Type 0
OpensBound status = IsOneOf (0 ∷ 8 ∷ 10 ∷ []) status

pub record RunsBound (limits : Limits) (source : Source) (name cert_name : Option (List ℕ)) (out : List ℕ) (turns : ℕ)
    (part : Part)
    (old new : Shown) (status : ℕ) : Type 0 where
  -- what was due was written and said, or the writing or saying failed
  pub ends : Ends (DueBound limits source name cert_name out turns part old) old new status
  -- what stands behind the status, which also is one of these
  pub behind : Behind (BehindBound limits source name cert_name out turns part old new)
      (DueBound limits source name cert_name out turns part old) old new status
  -- which status comes
  pub allowed : (expected : ℕ) → ExpectsBound limits source name cert_name old expected → IsAllowed expected status
  pub made : (expected : ℕ) → ExpectsMade limits source name cert_name turns part old expected
      → (status ≡ 12) ⊎ IsAllowed expected status
  -- without a fault, the answer is one of those for the bytes of the files, or want of memory
  pub exact : (instance : List ℕ) (plan cert : Option (List ℕ)) → TellsBytes old source.instance instance
      → TellsGivenBytes old name plan → TellsGivenBytes old cert_name cert → NoFault old new
      → IsAnswered (AnswersBound limits by_bytes source.slack instance plan cert out turns part) old new status
  -- no file is changed but that of the certificate, and that only with these statuses
  pub others : KeepsAllBut out old new
  pub unopened : (OpensBound status → ⊥) → new.output ≡ old.output
  -- no call failed, but at 7 and 8
  pub quiet : IsQuiet status old new
