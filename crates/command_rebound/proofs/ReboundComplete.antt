-- `rebound` with an instance and a certificate that are read: 0, 12 or 11.
use Rattle.std.proofs.Common.{ℕ, inl, inr, List, [], ◌∷◌, refl}
use Rattle.plan_desk.specs.Desk.{Shown}
use Rattle.instance_model.specs.declared.limits.Limits.{Limits}
use Rattle.instance_model.specs.Tables.{Tables}
use Rattle.command_frame.specs.Sources.{Source}
use Rattle.command_frame.specs.Ending.{Answer, IsOneOf, NoFault}
use Rattle.command_frame.specs.Files.{by_bytes, OnCertificateBy, TellsInstance, TellsCertificateBy}
use Rattle.command_frame.specs.Kinds.{CertificateKind}
use Rattle.command_rebound.specs.Rebinding.{RebindsBy, AnswersReboundBy, RunsReboundBy}
use Rattle.command_rebound.specs.Rebinding.RebindsBy.{rebound, too_long}
use Rattle.command_frame.specs.Completing.{Completes}
use Rattle.command_frame.proofs.CompleteReads.{told_instance, told_certificate, on_instance, on_certificate}
use Rattle.command_frame.proofs.CompleteLemmas.{completes}

module _ {C : Type 0} (kind : CertificateKind C) where
  statuses : (limits : Limits) (inst : Tables) (out : List ℕ) (cert : C) (a : Answer)
      → RebindsBy kind limits inst out cert a → IsOneOf (0 ∷ 12 ∷ []) a.status
  statuses limits inst out cert a (rebound answer is) = inl refl
  statuses limits inst out cert a (too_long answer is) = inr (inl refl)

  pub rebound_completes : (limits : Limits) (source : Source) (cert_name out : List ℕ) (inst : Tables)
      (cert : C) (old new : Shown) (status : ℕ)
      → RunsReboundBy kind limits source cert_name out old new status
      → TellsInstance limits old source inst → TellsCertificateBy kind.texts limits old cert_name inst cert
      → NoFault old new → Completes (0 ∷ 12 ∷ []) (RebindsBy kind limits inst out cert) old new status
  rebound_completes limits source cert_name out inst cert old new status run tells tells_cert calm =
      let i = told_instance limits old source inst tells in
      let c = told_certificate limits old cert_name inst cert tells_cert in
      completes (0 ∷ 12 ∷ []) (AnswersReboundBy kind limits by_bytes source.slack i.bytes c.bytes out)
      (RebindsBy kind limits inst out cert) old new status
      (λ a due. on_certificate limits inst 3 c.bytes cert (RebindsBy kind limits inst out) a c.such
      (on_instance limits source.slack 2 i.bytes inst
      (λ x. OnCertificateBy kind.texts limits x by_bytes 3 c.bytes (RebindsBy kind limits x out)) a i.such due))
      (statuses limits inst out cert) (run.exact i.bytes c.bytes i.tells c.tells calm)
