-- What was read of the files of an audit.
use Rattle.std.proofs.Common.{ℕ, List, Option}
use Rattle.plan_desk.specs.Desk.{Shown}
use Rattle.instance_model.specs.declared.limits.Limits.{Limits}
use Rattle.instance_model.specs.Tables.{Tables}
use Rattle.certificate_tree.specs.declared.certificate.Certificate.{Certificate}
use Rattle.command_frame.specs.Sources.{Source}
use Rattle.command_frame.specs.Ending.{Answer}
use Rattle.command_frame.specs.Bytes.{SpellsOne, RefusesCertificate}
use Rattle.command_frame.specs.Files.{reading, OnPlan, OnCertificate, ReadsInstance, ReadsPlan, ReadsCertificate}
use Rattle.command_frame.specs.Files.OnFile.{stands}
use Rattle.command_frame.specs.declared.refusal.Refusal.{Refusal}
use Rattle.command_frame.specs.Refusals.{IsCertificateCause, IsDueAs}
use Rattle.command_frame.proofs.FileLemmas.{on_other, IsRead, read_both, before_reading, reads_before}
use Rattle.command_frame.proofs.ReadLemmas.{due_within, after_instance, after_plan}
use Rattle.command_frame.proofs.CertificateLemmas.{certificate_cause_due}
use Rattle.command_answers.specs.Audit.{Audits, AnswersAudit}

-- what is due for the certificate of an audit
abbrev pub OnAudited : Limits → List ℕ → (old new : Shown) → Tables → List (Option ℕ) → Answer → Type 0
OnAudited limits cert_name old new inst plan =
    OnCertificate limits inst (reading old new) 4 cert_name (Audits inst plan)

pub audit_refuses_certificate : (limits : Limits) (source : Source) (name cert_name : List ℕ)
    (old mid last new : Shown) (inst : Tables) (plan : List (Option ℕ)) (r : Refusal)
    → ReadsInstance limits source old inst → IsRead old mid
    → ReadsPlan limits name inst mid plan → IsRead mid last
    → IsCertificateCause limits 4 cert_name inst last new r
    → IsDueAs (AnswersAudit limits (reading old new) source.slack source.instance name cert_name) r
audit_refuses_certificate limits source name cert_name old mid last new inst plan r reads read reads_plan read_plan
    cause =
    due_within (OnCertificate limits inst (reading last new) 4 cert_name (Audits inst plan))
    (AnswersAudit limits (reading old new) source.slack source.instance name cert_name) r
    (λ a due. after_instance limits source old new inst
    (λ i. OnPlan limits i (reading old new) 3 name (OnAudited limits cert_name old new i)) a reads
    (after_plan limits name old mid new inst plan (OnAudited limits cert_name old new inst) a read reads_plan
    (on_other (reading last new) (reading old new) 4 cert_name cert_name (RefusesCertificate limits inst)
    (SpellsOne limits inst) (Audits inst plan) (Audits inst plan) a
    (before_reading cert_name old last new (read_both old mid last read read_plan)) (λ x b n. n) due)))
    (certificate_cause_due limits 4 cert_name inst last new (Audits inst plan) r cause)

pub audit_answers : (limits : Limits) (source : Source) (name cert_name : List ℕ) (old mid last new : Shown)
    (inst : Tables) (plan : List (Option ℕ)) (cert : Certificate) (a : Answer)
    → ReadsInstance limits source old inst → IsRead old mid
    → ReadsPlan limits name inst mid plan → IsRead mid last
    → ReadsCertificate limits cert_name inst last cert → Audits inst plan cert a
    → AnswersAudit limits (reading old new) source.slack source.instance name cert_name a
audit_answers limits source name cert_name old mid last new inst plan cert a reads read reads_plan read_plan
    reads_cert audits =
    let here = reads_before cert_name old last (λ bytes. SpellsOne limits inst bytes cert)
    (read_both old mid last read read_plan) reads_cert in
    after_instance limits source old new inst
    (λ i. OnPlan limits i (reading old new) 3 name (OnAudited limits cert_name old new i)) a reads
    (after_plan limits name old mid new inst plan (OnAudited limits cert_name old new inst) a read reads_plan
    (stands here.bytes cert a here.held here.such audits))
