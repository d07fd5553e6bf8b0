-- `audit` with an instance, a plan and a certificate that are read: 0, 5 or 11.
use Rattle.std.proofs.Common.{ℕ, inl, inr, List, [], ◌∷◌, refl}
use Rattle.plan_desk.specs.Desk.{Shown}
use Rattle.instance_model.specs.Limits.{standard_limits}
use Rattle.command_frame.specs.Sources.{Source}
use Rattle.command_frame.specs.Ending.{Answer, IsOneOf, NoFault}
use Rattle.command_frame.specs.Files.{by_bytes, OnPlan, OnCertificate}
use Rattle.command_audit.specs.Auditing.{AuditedFiles, TellsAudited, RunsAudit}
use Rattle.command_answers.specs.Audit.{Audits, AnswersAudit}
use Rattle.command_answers.specs.Audit.Audits.{accepted, failing_leaf}
use Rattle.command_frame.specs.Completing.{Completes}
use Rattle.command_frame.proofs.CompleteReads.{told_instance, told_plan, told_certificate, on_instance, on_plan}
use Rattle.command_frame.proofs.CompleteReads.{on_certificate}
use Rattle.command_frame.proofs.CompleteLemmas.{completes}

statuses : (files : AuditedFiles) (a : Answer) → Audits files.inst files.plan files.cert a
    → IsOneOf (0 ∷ 5 ∷ []) a.status
statuses files a (accepted is) = inl refl
statuses files a (failing_leaf n is) = inr (inl refl)

pub audit_completes : (source : Source) (name cert_name : List ℕ) (files : AuditedFiles) (old new : Shown) (status : ℕ)
    → RunsAudit standard_limits source name cert_name old new status
    → TellsAudited standard_limits old source name cert_name files → NoFault old new
    → Completes (0 ∷ 5 ∷ []) (Audits files.inst files.plan files.cert) old new status
audit_completes source name cert_name files old new status run tells calm =
    let i = told_instance standard_limits old source files.inst tells.instance in
    let p = told_plan standard_limits old name files.inst files.plan tells.plan in
    let c = told_certificate standard_limits old cert_name files.inst files.cert tells.cert in
    completes (0 ∷ 5 ∷ []) (AnswersAudit standard_limits by_bytes source.slack i.bytes p.bytes c.bytes)
    (Audits files.inst files.plan files.cert) old new status
    (λ a due. on_certificate standard_limits files.inst 4 c.bytes files.cert (Audits files.inst files.plan) a c.such
    (on_plan standard_limits files.inst 3 p.bytes files.plan
    (λ q. OnCertificate standard_limits files.inst by_bytes 4 c.bytes (Audits files.inst q)) a p.such
    (on_instance standard_limits source.slack 2 i.bytes files.inst
    (λ x. OnPlan standard_limits x by_bytes 3 p.bytes
    (λ q. OnCertificate standard_limits x by_bytes 4 c.bytes (Audits x q))) a i.such due)))
    (statuses files) (run.exact i.bytes p.bytes c.bytes i.tells p.tells c.tells calm)
