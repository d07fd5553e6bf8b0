-- What was read of a certificate file, and of a plan file that may be left out.
use Rattle.std.proofs.Common.{ℕ, inl, inr, List, Option, Some, None, refl, sym, subst}
use Rattle.plan_desk.specs.Desk.{Shown}
use Rattle.instance_model.specs.declared.limits.Limits.{Limits}
use Rattle.instance_model.specs.Tables.{Tables}
use Rattle.command_frame.specs.Lines.{read_line}
use Rattle.command_frame.specs.Ending.{Answer, reply}
use Rattle.command_frame.specs.Bytes.{Spells, CertificateTexts, SpellsOneBy, RefusesCertificateBy}
use Rattle.command_frame.specs.Bytes.RefusesCertificateBy.{long_certificate, faulty_certificate}
use Rattle.command_frame.specs.Files.{reading, OnGiven, OnCertificateBy, ReadsGiven}
use Rattle.command_frame.specs.Files.OnFile.{unread, refused, stands}
use Rattle.command_frame.specs.declared.refusal.Refusal.{Refusal}
use Rattle.command_frame.specs.declared.refusal.Refusal.TheVariants as refusal
use Rattle.command_frame.specs.Refusals.{IsGivenCause, IsCertificateCauseBy, IsDueAs}
use Rattle.command_frame.proofs.FileLemmas.{IsRead, reads_before}
use Rattle.command_frame.proofs.ReadLemmas.{long_refused, plan_cause_due}

-- ---- a refusal is due

pub certificate_cause_due : {C : Type 0} {texts : CertificateTexts C} (limits : Limits) (word : ℕ) (name : List ℕ)
    (inst : Tables) (old new : Shown) (Next : C → Answer → Type 0) (r : Refusal)
    → IsCertificateCauseBy texts limits word name inst old new r
    → IsDueAs (OnCertificateBy texts limits inst (reading old new) word name Next) r
certificate_cause_due {texts = texts} limits word name inst old new Next (refusal.Unread w) (is, fails) =
    inr (subst
    (λ (n : ℕ). OnCertificateBy texts limits inst (reading old new) word name Next (reply 7 (read_line n)))
    (sym is) (unread fails))
certificate_cause_due {texts = texts} limits word name inst old new Next refusal.LongCertificate held =
    inr (long_refused word name old new (RefusesCertificateBy texts limits inst)
    (SpellsOneBy texts limits inst) Next _ limits.certificate_bytes (λ bytes l. long_certificate l) held)
certificate_cause_due limits word name inst old new Next (refusal.Certificate fault) reads =
    inr (refused reads.bytes _ reads.held (faulty_certificate fault reads.such))
certificate_cause_due limits word name inst old new Next refusal.Memory cause = inl refl
certificate_cause_due limits word name inst old new Next refusal.LongInstance cause = absurd cause
certificate_cause_due limits word name inst old new Next (refusal.Instance fault) cause = absurd cause
certificate_cause_due limits word name inst old new Next refusal.LongPlan cause = absurd cause
certificate_cause_due limits word name inst old new Next (refusal.Plan fault) cause = absurd cause
certificate_cause_due limits word name inst old new Next refusal.LongScript cause = absurd cause
certificate_cause_due limits word name inst old new Next (refusal.Script fault) cause = absurd cause

pub given_cause_due : (limits : Limits) (word : ℕ) (name : Option (List ℕ)) (inst : Tables) (old new : Shown)
    (Next : Option (List (Option ℕ)) → Answer → Type 0) (r : Refusal)
    → IsGivenCause limits word name inst old new r
    → IsDueAs (OnGiven limits inst (reading old new) word name Next) r
given_cause_due limits word None inst old new Next r cause = absurd cause
given_cause_due limits word (Some name) inst old new Next r cause =
    plan_cause_due limits word name inst old new (λ p. Next (Some p)) r cause

-- ---- the plan was read, if one is given

-- the plan was read, if one is given, and then the next answer is due
pub after_given : (limits : Limits) (word : ℕ) (name : Option (List ℕ)) (old mid new : Shown) (inst : Tables)
    (plan : Option (List (Option ℕ))) (Next : Option (List (Option ℕ)) → Answer → Type 0) (a : Answer)
    → IsRead old mid
    → ReadsGiven limits name inst mid plan → Next plan a
    → OnGiven limits inst (reading old new) word name Next a
after_given limits word None old mid new inst None Next a read reads next = next
after_given limits word None old mid new inst (Some plan) Next a read reads next = absurd reads
after_given limits word (Some name) old mid new inst None Next a read reads next = absurd reads
after_given limits word (Some name) old mid new inst (Some plan) Next a read reads next =
    let here = reads_before name old mid
    (λ bytes. Spells limits inst bytes plan) read reads in stands here.bytes plan a here.held here.such
    next
