-- `check` with an instance, a plan, if one is given, and a certificate that are read: 0, 1, 5 or 11.
use Rattle.std.proofs.Common.{ℕ, inl, inr, List, [], ◌∷◌, Option, refl}
use Rattle.plan_desk.specs.Desk.{Shown}
use Rattle.instance_model.specs.declared.limits.Limits.{Limits}
use Rattle.instance_model.specs.Tables.{Tables}
use Rattle.certificate_tree.specs.Validity.{Claim}
use Rattle.command_frame.specs.Sources.{Source}
use Rattle.command_frame.specs.Ending.{Answer, IsOneOf, NoFault}
use Rattle.command_frame.specs.Files.{by_bytes, OnGiven, OnCertificateBy}
use Rattle.command_frame.specs.Kinds.{CertificateKind}
use Rattle.command_check.specs.Checking.{CheckedFiles, TellsCheckedBy, RunsCheckBy}
use Rattle.command_answers.specs.Check.{ChecksClaim, ChecksBy, AnswersCheckBy}
use Rattle.command_answers.specs.Check.ChecksClaim.{broken_plan, failing_leaf, accepted}
use Rattle.command_frame.specs.Completing.{Completes}
use Rattle.command_frame.proofs.CompleteReads.{told_instance, told_given, told_certificate, on_instance, on_given}
use Rattle.command_frame.proofs.CompleteReads.{on_certificate}
use Rattle.command_frame.proofs.CompleteLemmas.{completes}

statuses : (inst : Tables) (given : Option (List (Option ℕ))) (claim : Claim) (a : Answer)
    → ChecksClaim inst given claim a → IsOneOf (0 ∷ 1 ∷ 5 ∷ []) a.status
statuses inst given claim a (broken_plan rule breaks) = inr (inl refl)
statuses inst given claim a (failing_leaf n refuses) = inr (inr (inl refl))
statuses inst given claim a (accepted accepts) = inl refl

pub check_completes : {C : Type 0} (kind : CertificateKind C) (limits : Limits) (source : Source)
    (name : Option (List ℕ)) (cert_name : List ℕ) (files : CheckedFiles C) (old new : Shown) (status : ℕ)
    → RunsCheckBy kind limits source name cert_name old new status
    → TellsCheckedBy kind limits old source name cert_name files → NoFault old new
    → Completes (0 ∷ 1 ∷ 5 ∷ []) (ChecksBy kind files.inst files.plan files.cert) old new status
check_completes kind limits source name cert_name files old new status run tells calm =
    let i = told_instance limits old source files.inst tells.instance in
    let p = told_given limits old name files.inst files.plan tells.plan in
    let c = told_certificate limits old cert_name files.inst files.cert tells.cert in
    completes (0 ∷ 1 ∷ 5 ∷ []) (AnswersCheckBy kind limits by_bytes source.slack i.bytes p.bytes c.bytes)
    (ChecksBy kind files.inst files.plan files.cert) old new status
    (λ a due. on_certificate limits files.inst 4 c.bytes files.cert (ChecksBy kind files.inst files.plan) a c.such
    (on_given limits files.inst 3 p.bytes files.plan
    (λ q. OnCertificateBy kind.texts limits files.inst by_bytes 4 c.bytes (ChecksBy kind files.inst q)) a p.such
    (on_instance limits source.slack 2 i.bytes files.inst
    (λ x. OnGiven limits x by_bytes 3 p.bytes
    (λ q. OnCertificateBy kind.texts limits x by_bytes 4 c.bytes (ChecksBy kind x q))) a i.such due)))
    (statuses files.inst files.plan (kind.claim files.inst files.cert))
    (run.exact i.bytes p.bytes c.bytes i.tells p.tells c.tells calm)
