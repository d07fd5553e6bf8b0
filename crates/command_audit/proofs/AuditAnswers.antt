-- The bytes of the files of an audit have one answer.
use Rattle.std.proofs.Common.{ℕ, List, Option, refl, ap}
use Rattle.instance_model.specs.declared.limits.Limits.{Limits}
use Rattle.instance_model.specs.Tables.{Tables}
use Rattle.certificate_tree.specs.declared.certificate.Certificate.{Certificate}
use Rattle.command_frame.specs.Lines.{failing_leaf_line}
use Rattle.command_frame.specs.Ending.{reply, IsOneAnswer}
use Rattle.command_frame.specs.Files.{by_bytes, OnPlan, OnCertificate}
use Rattle.command_frame.proofs.AnswerLemmas.{instance_once, plan_once, certificate_once}
use Rattle.command_answers.specs.Audit.{Audits, AnswersAudit}
use Rattle.command_answers.specs.Audit.Audits.{accepted, failing_leaf}

audited_once : (inst : Tables) (old : List (Option ℕ)) (cert : Certificate) → IsOneAnswer (Audits inst old cert)
audited_once inst old cert a b (accepted x) (accepted y) = refl
audited_once inst old cert a b (accepted x) (failing_leaf m y) = absurd (y.invalid x.valid)
audited_once inst old cert a b (failing_leaf n x) (accepted y) = absurd (x.invalid y.valid)
audited_once inst old cert a b (failing_leaf n x) (failing_leaf m y) =
    ap (λ z. reply 5 (failing_leaf_line z)) (y.only n x.first)

pub audited_files_once : (limits : Limits) (slack : ℕ) (instance plan cert : List ℕ)
    → IsOneAnswer (AnswersAudit limits by_bytes slack instance plan cert)
audited_files_once limits slack instance plan cert =
    instance_once limits slack 2 instance
    (λ inst. OnPlan limits inst by_bytes 3 plan (λ p. OnCertificate limits inst by_bytes 4 cert (Audits inst p)))
    (λ inst. plan_once limits inst 3 plan (λ p. OnCertificate limits inst by_bytes 4 cert (Audits inst p))
    (λ p. certificate_once limits inst 4 cert (Audits inst p) (audited_once inst p)))
