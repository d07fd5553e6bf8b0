-- A certificate file that may be left out, and a plan file that may be: as they are met, refused and read.
use Rattle.std.proofs.Common.{◌≡◌, ℕ, ◌⊎◌, inr, List, Option, Some, None, sym, subst}
use Rattle.plan_desk.specs.Desk.{Shown}
use Rattle.instance_model.specs.declared.limits.Limits.{Limits}
use Rattle.instance_model.specs.Tables.{Tables}
use Rattle.command_frame.specs.Ending.{Answer}
use Rattle.command_frame.specs.Bytes.{Spells, CertificateTexts, SpellsCertificateBy, SpellsOneBy, RefusesCertificateBy}
use Rattle.command_frame.specs.Files.{Meeting, reading, OnPlan, OnGiven, OnCertificateBy, ReadsGiven, TellsGiven}
use Rattle.command_frame.specs.Files.OnFile.{stands}
use Rattle.command_frame.specs.declared.refusal.Refusal.{Refusal}
use Rattle.command_frame.specs.Refusals.{IsDueAs}
use Rattle.command_frame.proofs.FileLemmas.{CarriesGiven, on_other, IsRead, reads_before, told_file}
use Rattle.command_frame.proofs.CertificateLemmas.{certificate_cause_due}
use Rattle.command_frame.proofs.AnswerLemmas.{text_accepted}
use Rattle.command_frame.proofs.TakenLemmas.{on_spelled}
use Rattle.command_bound.specs.Given.{OnGivenCertificateBy, ReadsGivenCertificateBy, TellsGivenCertificateBy}
use Rattle.command_bound.specs.Given.{IsGivenCertificateCauseBy}

-- ---- a certificate

module _ {C : Type 0} (texts : CertificateTexts C) (limits : Limits) (inst : Tables) where
  -- from one way of meeting files to another
  pub on_given_certificate_other : (met other : Meeting) (word : ℕ) (name also : Option (List ℕ))
      (Next Then : Option C → Answer → Type 0) (a : Answer) → CarriesGiven met name other also
      → ((x : Option C) (b : Answer) → Next x b → Then x b)
      → OnGivenCertificateBy texts limits inst met word name Next a
      → OnGivenCertificateBy texts limits inst other word also Then a
  on_given_certificate_other met other word None None Next Then a c f due = f None a due
  on_given_certificate_other met other word None (Some also) Next Then a c f due = absurd c
  on_given_certificate_other met other word (Some name) None Next Then a c f due = absurd c
  on_given_certificate_other met other word (Some name) (Some also) Next Then a c f due =
      on_other met other word name also (RefusesCertificateBy texts limits inst) (SpellsOneBy texts limits inst)
      (λ x. Next (Some x)) (λ x. Then (Some x)) a c (λ x. f (Some x)) due

  -- a refusal is due
  pub given_certificate_cause_due : (word : ℕ) (name : Option (List ℕ)) (old new : Shown)
      (Next : Option C → Answer → Type 0) (r : Refusal)
      → IsGivenCertificateCauseBy texts limits word name inst old new r
      → IsDueAs (OnGivenCertificateBy texts limits inst (reading old new) word name Next) r
  given_certificate_cause_due word None old new Next r cause = absurd cause
  given_certificate_cause_due word (Some name) old new Next r cause =
      certificate_cause_due limits word name inst old new (λ x. Next (Some x)) r cause

  -- it was read, if one is given, and then the next answer is due
  pub after_given_certificate : (word : ℕ) (name : Option (List ℕ)) (old new : Shown) (cert : Option C)
      (Next : Option C → Answer → Type 0) (a : Answer) → ReadsGivenCertificateBy texts limits name inst old cert
      → Next cert a → OnGivenCertificateBy texts limits inst (reading old new) word name Next a
  after_given_certificate word None old new None Next a reads next = next
  after_given_certificate word None old new (Some cert) Next a reads next = absurd reads
  after_given_certificate word (Some name) old new None Next a reads next = absurd reads
  after_given_certificate word (Some name) old new (Some cert) Next a reads next =
      stands reads.bytes cert a reads.held reads.such next

  pub given_certificate_before : (name : Option (List ℕ)) (old mid : Shown) (cert : Option C) → IsRead old mid
      → ReadsGivenCertificateBy texts limits name inst mid cert
      → ReadsGivenCertificateBy texts limits name inst old cert
  given_certificate_before None old mid None read reads = tt
  given_certificate_before None old mid (Some cert) read reads = absurd reads
  given_certificate_before (Some name) old mid None read reads = absurd reads
  given_certificate_before (Some name) old mid (Some cert) read reads =
      reads_before name old mid (λ bytes. SpellsOneBy texts limits inst bytes cert) read reads

  -- where it is told, if one is given, the next answer is for it
  pub on_told_certificate : (word : ℕ) (name : Option (List ℕ)) (old new : Shown) (Next : Option C → Answer → Type 0)
      (cert : Option C) (a : Answer) → TellsGivenCertificateBy texts limits old name inst cert
      → OnGivenCertificateBy texts limits inst (reading old new) word name Next a → (a.status ≡ 7) ⊎ Next cert a
  on_told_certificate word None old new Next None a tells due = inr due
  on_told_certificate word None old new Next (Some cert) a tells due = absurd tells
  on_told_certificate word (Some name) old new Next None a tells due = absurd tells
  on_told_certificate word (Some name) old new Next (Some cert) a tells due =
      told_file word name old new (RefusesCertificateBy texts limits inst) (SpellsOneBy texts limits inst)
      (λ x. Next (Some x)) a (λ bytes. SpellsCertificateBy texts limits inst bytes cert) cert tells
      (λ bytes b spells is. text_accepted limits inst bytes cert b spells is)
      (λ bytes other spells one. sym (one.only cert spells.text_of)) due

  -- what is answered to one that is named
  pub on_named_certificate : (word : ℕ) (name : Option (List ℕ)) (cert : List ℕ) (old new : Shown)
      (Next : Option C → Answer → Type 0) (a : Answer) → name ≡ Some cert
      → OnGivenCertificateBy texts limits inst (reading old new) word name Next a
      → OnCertificateBy texts limits inst (reading old new) word cert (λ x. Next (Some x)) a
  on_named_certificate word name cert old new Next a is due =
      subst (λ (o : Option (List ℕ)). OnGivenCertificateBy texts limits inst (reading old new) word o Next a) is due

-- ---- a plan

pub given_before : (limits : Limits) (inst : Tables) (name : Option (List ℕ)) (old mid : Shown)
    (plan : Option (List (Option ℕ))) → IsRead old mid → ReadsGiven limits name inst mid plan
    → ReadsGiven limits name inst old plan
given_before limits inst None old mid None read reads = tt
given_before limits inst None old mid (Some plan) read reads = absurd reads
given_before limits inst (Some name) old mid None read reads = absurd reads
given_before limits inst (Some name) old mid (Some plan) read reads =
    reads_before name old mid (λ bytes. Spells limits inst bytes plan) read reads

-- it was read, if one is given, and then the next answer is due
pub after_given_plan : (limits : Limits) (inst : Tables) (word : ℕ) (name : Option (List ℕ)) (old new : Shown)
    (plan : Option (List (Option ℕ))) (Next : Option (List (Option ℕ)) → Answer → Type 0) (a : Answer)
    → ReadsGiven limits name inst old plan → Next plan a → OnGiven limits inst (reading old new) word name Next a
after_given_plan limits inst word None old new None Next a reads next = next
after_given_plan limits inst word None old new (Some plan) Next a reads next = absurd reads
after_given_plan limits inst word (Some name) old new None Next a reads next = absurd reads
after_given_plan limits inst word (Some name) old new (Some plan) Next a reads next =
    stands reads.bytes plan a reads.held reads.such next

-- where the plan is told, if one is given, the next answer is for it
pub on_told_plan : (limits : Limits) (inst : Tables) (name : Option (List ℕ)) (old new : Shown)
    (Next : Option (List (Option ℕ)) → Answer → Type 0) (plan : Option (List (Option ℕ))) (a : Answer)
    → TellsGiven limits old name inst plan → OnGiven limits inst (reading old new) 3 name Next a
    → (a.status ≡ 7) ⊎ Next plan a
on_told_plan limits inst None old new Next None a tells due = inr due
on_told_plan limits inst None old new Next (Some plan) a tells due = absurd tells
on_told_plan limits inst (Some name) old new Next None a tells due = absurd tells
on_told_plan limits inst (Some name) old new Next (Some plan) a tells due =
    on_spelled limits inst name old new (λ p. Next (Some p)) plan a tells due

-- what is answered to a plan that is named
pub on_named_plan : (limits : Limits) (inst : Tables) (name : Option (List ℕ)) (plan : List ℕ) (old new : Shown)
    (Next : Option (List (Option ℕ)) → Answer → Type 0) (a : Answer) → name ≡ Some plan
    → OnGiven limits inst (reading old new) 3 name Next a
    → OnPlan limits inst (reading old new) 3 plan (λ p. Next (Some p)) a
on_named_plan limits inst name plan old new Next a is due =
    subst (λ (o : Option (List ℕ)). OnGiven limits inst (reading old new) 3 o Next a) is due
