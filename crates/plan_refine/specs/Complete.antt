-- What a run gives where nothing is wrong: which statuses, and the command's own answer to what its files stand for.
--
-- Of each file that the command reads it is told that it holds bytes, within the limit of such files, which are read:
-- as an instance, or as a plan or a certificate of that instance, of any version. And no fault rose. So the words, the
-- texts and the desk leave nothing to refuse, and the status is one of the command's own, or 11. `old` and `new` are
-- what the desk shows before and after a run.
use Rattle.std.specs.Prelude.{ℕ, List, [], ◌∷◌, Option}
use Rattle.plan_desk.specs.Desk.{Shown}
use Rattle.instance_model.specs.Limits.{standard_limits}
use Rattle.instance_model.specs.Tables.{Tables}
use Rattle.branch_search.specs.declared.part.Part.{Part}
use Rattle.refined_check.specs.declared.certificate.certificate.RefinedCertificate.{RefinedCertificate}
use Rattle.refined_files.specs.RefinedKind.{refined_kind}
use Rattle.command_frame.specs.Sources.{Source}
use Rattle.command_frame.specs.Files.{TellsInstance, TellsCertificateBy}
use Rattle.command_frame.specs.Completing.{Completes}
use Rattle.command_answers.specs.Check.{ChecksBy}
use Rattle.command_check.specs.Checking.{CheckedFiles, TellsCheckedBy}
use Rattle.command_rebound.specs.Rebinding.{RebindsBy}
use Rattle.command_bound.specs.Bounding.{BoundFiles, TellsBoundFiles, RaisesBound}
use Rattle.command_improve.specs.Improving.{TellsImprove, Improves}
use Rattle.plan_refine.specs.Words.{check, rebound, bound, improve}
use Rattle.plan_refine.specs.Outcome.{Asks}

-- after a run in which no fault rose: for each command, which statuses come, 11 aside
pub record IsComplete (words : List (List ℕ)) (old new : Shown) (status : ℕ) : Type 0 where
  -- 0: the certificate is valid. 1: a plan that is given breaks a rule. 5: a leaf doesn't hold.
  pub checks : (source : Source) (name : Option (List ℕ)) (cert_name : List ℕ)
      (files : CheckedFiles RefinedCertificate)
      → Asks words (check source name cert_name)
      → TellsCheckedBy refined_kind standard_limits old source name cert_name files
      → Completes (0 ∷ 1 ∷ 5 ∷ []) (ChecksBy refined_kind files.inst files.plan files.cert) old new status
  -- 0: the new certificate is written. 12: its text is too long.
  pub rebounds : (source : Source) (cert_name out : List ℕ) (inst : Tables) (cert : RefinedCertificate)
      → Asks words (rebound source cert_name out) → TellsInstance standard_limits old source inst
      → TellsCertificateBy refined_kind.texts standard_limits old cert_name inst cert
      → Completes (0 ∷ 12 ∷ []) (RebindsBy refined_kind standard_limits inst out cert) old new status
  -- 0: the certificate is written, and its bound is a number. 10: it is written, and there is no plan. 12: its text is
  -- too long.
  pub bounds : (source : Source) (name cert_name : Option (List ℕ)) (out : List ℕ) (turns : ℕ) (part : Part)
      (files : BoundFiles)
      → Asks words (bound source name cert_name out turns part)
      → TellsBoundFiles standard_limits old source name cert_name files
      → Completes (0 ∷ 10 ∷ 12 ∷ []) (RaisesBound standard_limits files.inst files.plan out turns part files.cert)
      old new status
  -- 0: a plan is written that keeps every rule. 9: none was found, and nothing is written. 10: an intervention has no
  -- allowed start, and nothing is written.
  pub improves : (source : Source) (name : Option (List ℕ)) (out : List ℕ) (turns seed : ℕ) (inst : Tables)
      (plan : Option (List (Option ℕ))) → Asks words (improve source name out turns seed)
      → TellsImprove standard_limits old source name inst plan
      → Completes (0 ∷ 9 ∷ 10 ∷ []) (Improves standard_limits inst plan out turns) old new status
