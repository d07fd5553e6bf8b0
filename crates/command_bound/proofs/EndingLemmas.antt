-- The end of a run.
use Rattle.std.proofs.Common.{◌≡◌, ℕ, List, Option}
use Rattle.plan_desk.specs.Desk.{Shown}
use Rattle.plan_desk.specs.Contents.{OnlyReads}
use Rattle.instance_model.specs.declared.limits.Limits.{Limits}
use Rattle.instance_model.specs.Tables.{Tables}
use Rattle.branch_search.specs.declared.part.Part.{Part}
use Rattle.refined_check.specs.declared.certificate.certificate.RefinedCertificate.{RefinedCertificate}
use Rattle.command_frame.specs.Sources.{Source}
use Rattle.command_frame.specs.Ending.{Answer, Ends}
use Rattle.command_frame.specs.Files.{reading}
use Rattle.command_frame.proofs.EndLemmas.{memory_ends}
use Rattle.command_frame.proofs.WriteLemmas.{told_ends}
use Rattle.command_bound.specs.Bounding.{AnswersBound, DueBound}
use Rattle.command_bound.specs.Made.{AreRead, TellsBound}
use Rattle.command_bound.specs.Made.TellsBound.{told, no_memory}
use Rattle.command_bound.proofs.ReadingLemmas.{read_answers}
use Rattle.command_bound.proofs.BoundRun.{bound_stays}

module _ (limits : Limits) (source : Source) (name cert_name : Option (List ℕ)) (out : List ℕ) (turns : ℕ) (part : Part)
    (old mid new : Shown) (reads : OnlyReads old mid) (inst : Tables) (given : Option (List (Option ℕ)))
    (cert : Option RefinedCertificate) (read : AreRead limits source name cert_name old inst given cert) where
  abbrev Answering : Shown → Answer → Type 0
  Answering at = AnswersBound limits (reading old at) source.slack source.instance name cert_name out turns part

  -- the files were read, and an answer to them was told, or memory ran out
  pub read_ends : (status : ℕ) → mid.faults ≡ old.faults
      → TellsBound limits inst given out turns part cert mid new status
      → Ends (DueBound limits source name cert_name out turns part old) old new status
  read_ends status last (told a raises tells) =
      told_ends Answering old mid a reads last
      (read_answers limits source name cert_name out turns part old mid inst given cert a read raises) new status
      (λ at. bound_stays limits source name cert_name out turns part old mid at) tells
  read_ends status last (no_memory keeps says) = memory_ends Answering old mid new status reads keeps last says
