-- What the steps of the command come to. Cited by private functions only: no part of any promise.
use Rattle.std.specs.Prelude.{◌≡◌, ◌^◌, ℕ, ◌<◌, List, length, map, Option, Some, IfSome, option_map, unsigned_abs}
use Rattle.plan_desk.specs.Desk.{Shown}
use Rattle.plan_desk.specs.Contents.{KeepsFiles}
use Rattle.instance_model.specs.declared.limits.Limits.{Limits}
use Rattle.instance_model.specs.Tables.{Tables}
use Rattle.instance_model.specs.Values.{score_of}
use Rattle.branch_search.specs.declared.part.Part.{Part}
use Rattle.branch_search.specs.Best.{IsFeasiblePlan}
use Rattle.refined_check.specs.declared.certificate.certificate.RefinedCertificate.{RefinedCertificate}
use Rattle.refined_check.specs.certificate.Ranges.{IsRefinedInRange}
use Rattle.refined_text.specs.text.Text.{refined_text}
use Rattle.refined_files.specs.RefinedKind.{refined_kind}
use Rattle.refined_search.specs.declared.raised.Raised.{Raised}
use Rattle.refined_search.specs.Raising.{IsRaised}
use Rattle.command_frame.specs.Sources.{Source}
use Rattle.command_frame.specs.Lines.{memory_line}
use Rattle.command_frame.specs.Ending.{Answer}
use Rattle.command_frame.specs.Files.{ReadsInstance, ReadsGiven}
use Rattle.command_frame.specs.Refusals.{IsReport, SaysOrFails}
use Rattle.command_frame.specs.Writing.{TellsAnswer}
use Rattle.command_answers.specs.Accepting.{ValidWithinIsAcceptableBy}
use Rattle.command_bound.specs.declared.incumbent.Incumbent.{Incumbent}
use Rattle.command_bound.specs.declared.making.Made.{Made}
use Rattle.command_bound.specs.Given.{ReadsGivenCertificateBy}
use Rattle.command_bound.specs.Bounding.{IsHandedIn, LeavesOut, bound_report, bound_status, RaisesBound}

-- the files were read
pub record AreRead (limits : Limits) (source : Source) (name cert_name : Option (List ℕ)) (old : Shown) (inst : Tables)
    (plan : Option (List (Option ℕ))) (cert : Option RefinedCertificate) : Type 0 where
  pub reads : ReadsInstance limits source old inst
  pub reads_plan : ReadsGiven limits name inst old plan
  pub each : IfSome plan (λ p. length p ≡ length inst.names)
  pub reads_cert : ReadsGivenCertificateBy refined_kind.texts limits cert_name inst old cert
  pub in_range : IfSome cert (IsRefinedInRange inst)

-- the starts of a plan that is handed in
abbrev pub starts_of : Option Incumbent → Option (List ℕ)
starts_of given = option_map (λ x. x.starts) given

-- one that is handed in is feasible, and this is its score
pub record IsIncumbent (inst : Tables) (x : Incumbent) : Type 0 where
  pub feasible : IsFeasiblePlan inst x.starts
  pub score : x.score ≡ score_of inst (map Some x.starts)
  pub small : unsigned_abs x.score < 10 ^ 36

-- a plan that was given is handed in, or left aside
pub record IsChosen (inst : Tables) (given : Option (List (Option ℕ))) (chosen : Option Incumbent) : Type 0 where
  pub is : IsHandedIn inst given (starts_of chosen)
  pub incumbent : IfSome chosen (IsIncumbent inst)

-- a certificate that is made with as many further lists as its text has room for: its text may be too long only with
-- one at most
pub record IsWithin (limits : Limits) (inst : Tables) (handed_in : Option (List ℕ)) (cert : Option RefinedCertificate)
    (turns : ℕ) (part : Part) (answer : Raised) : Type 0 where
  pub most : ℕ
  pub left_out : LeavesOut limits inst cert turns part handed_in most
  pub is : IsRaised inst handed_in cert turns part most answer
  pub one : limits.certificate_bytes < length (refined_text inst answer.cert) → most ≡ 1

-- a certificate that is made, and the report on it
pub record IsMade (limits : Limits) (inst : Tables) (given : Option (List (Option ℕ)))
    (cert : Option RefinedCertificate) (turns : ℕ) (part : Part) (made : Made) : Type 0 where
  pub handed_in : Option (List ℕ)
  pub plan : IsHandedIn inst given handed_in
  pub within : IsWithin limits inst handed_in cert turns part made.raised
  pub acceptable : ValidWithinIsAcceptableBy refined_kind inst
  pub report : IsReport (bound_status made.raised.cert.bound) (bound_report inst handed_in made.raised) made.report

-- an answer was told, or memory ran out before the file was opened
pub data TellsBound (limits : Limits) (inst : Tables) (given : Option (List (Option ℕ))) (out : List ℕ) (turns : ℕ)
    (part : Part)
    (cert : Option RefinedCertificate) (old new : Shown) (status : ℕ) : Type 0 where
  told : (a : Answer) → RaisesBound limits inst given out turns part cert a → TellsAnswer a old new status
      → TellsBound limits inst given out turns part cert old new status
  no_memory : KeepsFiles old new → SaysOrFails 11 memory_line old new status
      → TellsBound limits inst given out turns part cert old new status
