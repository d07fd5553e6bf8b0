-- What a run of `audit` promises follows from its end.
use Rattle.std.proofs.Common.{◌≡◌, ℕ, ◌⊎◌, inl, inr, List, Option, refl, sym, subst}
use Rattle.plan_desk.specs.Desk.{Shown}
use Rattle.plan_desk.specs.Contents.{Says, KeepsFiles}
use Rattle.instance_model.specs.declared.limits.Limits.{Limits}
use Rattle.instance_model.specs.Tables.{Tables}
use Rattle.certificate_tree.specs.declared.certificate.Certificate.{Certificate}
use Rattle.command_frame.specs.Sources.{Source}
use Rattle.command_frame.specs.Ending.{Answer, Ends}
use Rattle.command_frame.specs.Bytes.{TakesOne, RefusesInstance, Spells, RefusesPlan, SpellsCertificate, SpellsOne}
use Rattle.command_frame.specs.Bytes.{IsRefusedCertificate, RefusesCertificate}
use Rattle.command_frame.specs.Files.{Meeting, reading, by_bytes, OnPlan, OnCertificate, ReadsInstance, ReadsPlan}
use Rattle.command_frame.specs.Files.{TellsInstance, TellsPlan}
use Rattle.command_frame.specs.Files.OnFile.{unread, refused, stands}
use Rattle.command_frame.proofs.FileLemmas.{Carries, on_other, later_reading, exact_reading, OrUnread, missing_file}
use Rattle.command_frame.proofs.FileLemmas.{refused_file, told_file, then_next, then_more, say_refusal}
use Rattle.command_frame.proofs.AnswerLemmas.{instance_status, plan_status, certificate_status, text_accepted}
use Rattle.command_frame.proofs.AnswerLemmas.{refused_apart}
use Rattle.command_frame.proofs.EndLemmas.{Stays, ends_quiet, ends_behind, ends_allowed, ends_exact}
use Rattle.command_frame.proofs.TakenLemmas.{on_taken, bad_instance, on_spelled, bad_plan}
use Rattle.command_audit.specs.Auditing.{DueAudit, ReadsAudit}
use Rattle.command_answers.specs.Audit.{IsValidFor, FailsFirstFor, Audits, AnswersAudit}
use Rattle.command_audit.specs.Auditing.{BehindAudit, AuditedFiles, TellsAudited, ExpectsAudit, RunsAudit}
use Rattle.command_answers.specs.Audit.Audits.{accepted, failing_leaf}
use Rattle.command_audit.specs.Auditing.BehindAudit.{accepted as behind_accepted}
use Rattle.command_audit.specs.Auditing.BehindAudit.{refused_certificate as behind_refused_certificate}
use Rattle.command_audit.specs.Auditing.BehindAudit.{refused_instance as behind_refused_instance}
use Rattle.command_audit.specs.Auditing.BehindAudit.{refused_leaf as behind_refused_leaf}
use Rattle.command_audit.specs.Auditing.BehindAudit.{refused_plan as behind_refused_plan}
use Rattle.command_audit.specs.Auditing.BehindAudit.{unread_certificate as behind_unread_certificate}
use Rattle.command_audit.specs.Auditing.BehindAudit.{unread_instance as behind_unread_instance}
use Rattle.command_audit.specs.Auditing.BehindAudit.{unread_plan as behind_unread_plan}
use Rattle.command_audit.specs.Auditing.ExpectsAudit.{failing_leaf as expects_failing_leaf}
use Rattle.command_audit.specs.Auditing.ExpectsAudit.{no_certificate as expects_no_certificate}
use Rattle.command_audit.specs.Auditing.ExpectsAudit.{no_instance as expects_no_instance}
use Rattle.command_audit.specs.Auditing.ExpectsAudit.{no_plan as expects_no_plan}
use Rattle.command_audit.specs.Auditing.ExpectsAudit.{refused_certificate as expects_refused_certificate}
use Rattle.command_audit.specs.Auditing.ExpectsAudit.{refused_instance as expects_refused_instance}
use Rattle.command_audit.specs.Auditing.ExpectsAudit.{refused_plan as expects_refused_plan}
use Rattle.command_audit.specs.Auditing.ExpectsAudit.{valid_certificate as expects_valid_certificate}
use Rattle.command_audit.proofs.AuditAnswers.{audited_files_once}

-- what is answered to a certificate, and to a plan
abbrev OnAudited : Limits → Meeting → List ℕ → Tables → List (Option ℕ) → Answer → Type 0
OnAudited limits met cert inst plan = OnCertificate limits inst met 4 cert (Audits inst plan)

abbrev OnPlanned : Limits → Meeting → (plan cert : List ℕ) → Tables → Answer → Type 0
OnPlanned limits met plan cert inst = OnPlan limits inst met 3 plan (OnAudited limits met cert inst)

audit_other : (limits : Limits) (slack : ℕ) (met other : Meeting) (i p c j q d : List ℕ) (a : Answer)
    → Carries met i other j → Carries met p other q → Carries met c other d
    → AnswersAudit limits met slack i p c a → AnswersAudit limits other slack j q d a
audit_other limits slack met other i p c j q d a ci cp cd =
    on_other met other 2 i j (RefusesInstance limits) (TakesOne limits slack) (OnPlanned limits met p c)
    (OnPlanned limits other q d) a ci
    (λ inst b. on_other met other 3 p q (RefusesPlan limits inst) (Spells limits inst) (OnAudited limits met c inst)
    (OnAudited limits other d inst) b cp
    (λ x e. on_other met other 4 c d (RefusesCertificate limits inst) (SpellsOne limits inst) (Audits inst x)
    (Audits inst x) e cd (λ y f audits. audits)))

pub audit_stays : (limits : Limits) (source : Source) (name cert_name : List ℕ) (old mid new : Shown)
    → Stays (λ at. AnswersAudit limits (reading old at) source.slack source.instance name cert_name) mid new
audit_stays limits source name cert_name old mid new goes a =
    audit_other limits source.slack (reading old mid) (reading old new) source.instance name cert_name source.instance
    name cert_name a (later_reading source.instance old mid new goes)
    (later_reading name old mid new goes) (later_reading cert_name old mid new goes)

-- ---- what stands behind the status

audited_behind : (limits : Limits) (source : Source) (name cert_name : List ℕ) (old new : Shown)
    (files : ReadsAudit limits source name cert_name old) (a : Answer)
    → Audits files.inst files.plan files.cert a → Says a.text old new
    → BehindAudit limits source name cert_name old new a.status
audited_behind limits source name cert_name old new files a (accepted all) says =
    behind_accepted (record { files = files; valid = all.valid; bounds = all.bounds; says = says })
audited_behind limits source name cert_name old new files a (failing_leaf n leaf) says =
    behind_refused_leaf (record { files = files; n = n; first = leaf.first; says = says })

certificate_behind : (limits : Limits) (source : Source) (name cert_name : List ℕ) (old new : Shown) (inst : Tables)
    (plan : List (Option ℕ)) (a : Answer)
    → ReadsInstance limits source old inst → ReadsPlan limits name inst old plan
    → OnAudited limits (reading old new) cert_name inst plan a → Says a.text old new
    → BehindAudit limits source name cert_name old new a.status
certificate_behind limits source name cert_name old new inst plan a reads reads_plan (unread fails) says =
    behind_unread_certificate inst plan reads reads_plan (record { fails = fails; says = says })
certificate_behind limits source name cert_name old new inst plan a reads reads_plan (refused bytes b held is) says =
    subst (λ (n : ℕ). BehindAudit limits source name cert_name old new n)
    (sym (certificate_status limits inst bytes b is))
    (behind_refused_certificate inst plan reads reads_plan
    (say_refusal cert_name (RefusesCertificate limits inst) old new bytes b held is says))
certificate_behind limits source name cert_name old new inst plan a reads reads_plan
    (stands bytes cert b held spells audits) says =
    audited_behind limits source name cert_name old new
    (record {
      inst = inst;
      reads = reads;
      plan = plan;
      reads_plan = reads_plan;
      cert = cert;
      reads_cert = record { bytes = bytes; held = held; such = spells };
    }) b audits says

plan_behind : (limits : Limits) (source : Source) (name cert_name : List ℕ) (old new : Shown) (inst : Tables)
    (a : Answer)
    → ReadsInstance limits source old inst → OnPlanned limits (reading old new) name cert_name inst a
    → Says a.text old new → BehindAudit limits source name cert_name old new a.status
plan_behind limits source name cert_name old new inst a reads (unread fails) says =
    behind_unread_plan inst reads (record { fails = fails; says = says })
plan_behind limits source name cert_name old new inst a reads (refused bytes b held is) says =
    subst (λ (n : ℕ). BehindAudit limits source name cert_name old new n) (sym (plan_status limits inst bytes b is))
    (behind_refused_plan inst reads (say_refusal name (RefusesPlan limits inst) old new bytes b held is says))
plan_behind limits source name cert_name old new inst a reads (stands bytes plan b held spells due) says =
    certificate_behind limits source name cert_name old new inst plan b reads
    (record { bytes = bytes; held = held; such = spells }) due says

audit_behind : (limits : Limits) (source : Source) (name cert_name : List ℕ) (old new : Shown) (a : Answer)
    → AnswersAudit limits (reading old new) source.slack source.instance name cert_name a → Says a.text old new
    → BehindAudit limits source name cert_name old new a.status
audit_behind limits source name cert_name old new a (unread fails) says =
    behind_unread_instance (record { fails = fails; says = says })
audit_behind limits source name cert_name old new a (refused bytes b held is) says =
    subst (λ (n : ℕ). BehindAudit limits source name cert_name old new n) (sym (instance_status limits bytes b is))
    (behind_refused_instance (say_refusal source.instance (RefusesInstance limits) old new bytes b held is says))
audit_behind limits source name cert_name old new a (stands bytes inst b held takes due) says =
    plan_behind limits source name cert_name old new inst b (record { bytes = bytes; held = held; such = takes }) due
    says

-- ---- which status comes

valid_verdict : (inst : Tables) (plan : List (Option ℕ)) (cert : Certificate) (a : Answer) → IsValidFor inst plan cert
    → Audits inst plan cert a → OrUnread 0 a
valid_verdict inst plan cert a valid (accepted all) = inr refl
valid_verdict inst plan cert a valid (failing_leaf n leaf) = absurd (leaf.invalid valid)

leaf_verdict : (inst : Tables) (plan : List (Option ℕ)) (cert : Certificate) (n : ℕ) (a : Answer)
    → FailsFirstFor inst plan cert n → Audits inst plan cert a → OrUnread 5 a
leaf_verdict inst plan cert n a first (accepted all) = absurd (all.holds n first)
leaf_verdict inst plan cert n a first (failing_leaf m leaf) = inr refl

on_planned : (limits : Limits) (source : Source) (name cert_name : List ℕ) (old new : Shown) (inst : Tables)
    (plan : List (Option ℕ)) (a : Answer)
    → TellsInstance limits old source inst → TellsPlan limits old name inst plan
    → AnswersAudit limits (reading old new) source.slack source.instance name cert_name a
    → (a.status ≡ 7) ⊎ OnAudited limits (reading old new) cert_name inst plan a
on_planned limits source name cert_name old new inst plan a tells spells due =
    then_more (OnPlanned limits (reading old new) name cert_name inst a)
    (OnAudited limits (reading old new) cert_name inst plan a) a
    (on_spelled limits inst name old new (OnAudited limits (reading old new) cert_name inst) plan a spells)
    (on_taken limits source old new (OnPlanned limits (reading old new) name cert_name) inst a tells due)

on_text : (limits : Limits) (source : Source) (name cert_name : List ℕ) (old new : Shown) (files : AuditedFiles)
    (a : Answer)
    → TellsAudited limits old source name cert_name files
    → AnswersAudit limits (reading old new) source.slack source.instance name cert_name a
    → (a.status ≡ 7) ⊎ Audits files.inst files.plan files.cert a
on_text limits source name cert_name old new files a tells due =
    then_more (OnAudited limits (reading old new) cert_name files.inst files.plan a)
    (Audits files.inst files.plan files.cert a) a
    (told_file 4 cert_name old new (RefusesCertificate limits files.inst) (SpellsOne limits files.inst)
    (Audits files.inst files.plan) a
    (λ bytes. SpellsCertificate limits files.inst bytes files.cert) files.cert tells.cert
    (λ bytes b spells is. text_accepted limits files.inst bytes files.cert b spells is)
    (λ bytes other spells one. sym (one.only files.cert spells.text_of)))
    (on_planned limits source name cert_name old new files.inst files.plan a tells.instance tells.plan due)

audit_expects : (limits : Limits) (source : Source) (name cert_name : List ℕ) (old new : Shown) (expected : ℕ)
    → ExpectsAudit limits source name cert_name old expected → (a : Answer)
    → AnswersAudit limits (reading old new) source.slack source.instance name cert_name a → OrUnread expected a
audit_expects limits source name cert_name old new expected (expects_no_instance missing) a due =
    inl (missing_file 2 source.instance old new (RefusesInstance limits) (TakesOne limits source.slack)
    (OnPlanned limits (reading old new) name cert_name) a missing due)
audit_expects limits source name cert_name old new expected (expects_refused_instance tells) a due =
    bad_instance limits source old new (OnPlanned limits (reading old new) name cert_name) a tells due
audit_expects limits source name cert_name old new expected (expects_no_plan inst tells missing) a due =
    then_next (OnPlanned limits (reading old new) name cert_name inst a) 7 a
    (λ d. inl (missing_file 3 name old new (RefusesPlan limits inst) (Spells limits inst)
    (OnAudited limits (reading old new) cert_name inst) a missing d))
    (on_taken limits source old new (OnPlanned limits (reading old new) name cert_name) inst a tells due)
audit_expects limits source name cert_name old new expected (expects_refused_plan inst tells bad) a due =
    then_next (OnPlanned limits (reading old new) name cert_name inst a) 4 a
    (bad_plan limits inst name old new (OnAudited limits (reading old new) cert_name inst) a bad)
    (on_taken limits source old new (OnPlanned limits (reading old new) name cert_name) inst a tells due)
audit_expects limits source name cert_name old new expected (expects_no_certificate inst plan tells spells missing) a
    due =
    then_next (OnAudited limits (reading old new) cert_name inst plan a) 7 a
    (λ d. inl (missing_file 4 cert_name old new (RefusesCertificate limits inst) (SpellsOne limits inst)
    (Audits inst plan) a missing d))
    (on_planned limits source name cert_name old new inst plan a tells spells due)
audit_expects limits source name cert_name old new expected (expects_refused_certificate inst plan tells spells bad) a
    due =
    then_next (OnAudited limits (reading old new) cert_name inst plan a) 5 a
    (refused_file 4 cert_name old new (RefusesCertificate limits inst) (SpellsOne limits inst) (Audits inst plan) a
    (IsRefusedCertificate limits inst) 5 bad
    (λ bytes x one. refused_apart limits inst bytes x one) (certificate_status limits inst))
    (on_planned limits source name cert_name old new inst plan a tells spells due)
audit_expects limits source name cert_name old new expected (expects_valid_certificate files tells valid) a due =
    then_next (Audits files.inst files.plan files.cert a) 0 a
    (valid_verdict files.inst files.plan files.cert a valid)
    (on_text limits source name cert_name old new files a tells due)
audit_expects limits source name cert_name old new expected (expects_failing_leaf files n tells first) a due =
    then_next (Audits files.inst files.plan files.cert a) 5 a
    (leaf_verdict files.inst files.plan files.cert n a first)
    (on_text limits source name cert_name old new files a tells due)

-- ---- a run

pub audit_runs : (limits : Limits) (source : Source) (name cert_name : List ℕ) (old new : Shown) (status : ℕ)
    → Ends (DueAudit limits source name cert_name old) old new status → KeepsFiles old new
    → RunsAudit limits source name cert_name old new status
audit_runs limits source name cert_name old new status ends keeps =
    record {
      ends = ends;
      behind = ends_behind (λ at. AnswersAudit limits (reading old at) source.slack source.instance name cert_name)
          (BehindAudit limits source name cert_name old new) old new status
          (audit_behind limits source name cert_name old new) ends;
      allowed = λ expected expects.
          ends_allowed (λ at. AnswersAudit limits (reading old at) source.slack source.instance name cert_name) old new
          status expected (audit_expects limits source name cert_name old new expected expects) ends;
      exact = λ instance plan cert tells tells_plan tells_cert calm.
          ends_exact (λ at. AnswersAudit limits (reading old at) source.slack source.instance name cert_name)
          (AnswersAudit limits by_bytes source.slack instance plan cert) old new status
          (λ a. audit_other limits source.slack (reading old new) by_bytes source.instance name cert_name instance plan
          cert a (exact_reading source.instance instance old new tells calm)
          (exact_reading name plan old new tells_plan calm) (exact_reading cert_name cert old new tells_cert calm))
          calm ends;
      one = audited_files_once limits;
      output = keeps;
      quiet = ends_quiet (DueAudit limits source name cert_name old) old new status ends;
    }
