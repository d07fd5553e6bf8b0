-- Texts of certificates of every version: how they begin, and that each is one of one certificate.
use Rattle.std.proofs.Common.{◌≡◌, ◌⊎◌, inl, inr, ℕ, refl, sym, ◌∙◌, ap, subst, Bool, true, false, List, ◌++◌}
use Rattle.std.proofs.Common.{MatchBool, Result, Ok, Err}
use Rattle.instance_model.specs.Tables.{Tables}
use Rattle.instance_model.specs.Fitting.{IsFitting}
use Rattle.certificate_lines.specs.declared.line.Version.{Version}
use Rattle.certificate_lines.specs.declared.line.Version.TheVariants.{One, Two}
use Rattle.certificate_lines.specs.declared.line.CertificateLine.TheVariants.{Title}
use Rattle.certificate_tree.specs.declared.certificate.Certificate.{Certificate}
use Rattle.certificate_text.specs.Text.{line_text, certificate_text}
use Rattle.certificate_text.specs.Laws.{TextsTell}
use Rattle.certificate_text.specs.declared.read.fault.CertFault.{CertFault}
use Rattle.certificate_text.specs.declared.read.fault.CertFault.TheVariants.{Cut, BadLine, Bounds, Memory}
use Rattle.certificate_text.specs.read.Faults.{HasCertFault, IsTextOf}
use Rattle.certificate_text.specs.read.Laws.{TextsAreTold}
use Rattle.certificate_text.proofs.ReadCompleteLemmas.{no_fault}
use Rattle.refined_check.specs.declared.certificate.certificate.RefinedCertificate.{RefinedCertificate}
use Rattle.refined_check.specs.certificate.Ranges.{IsRefinedInRange}
use Rattle.refined_text.specs.text.Text.{refined_text}
use Rattle.refined_text.specs.grammar.Laws.{RefinedTextsTell}
use Rattle.refined_text.specs.read.Faults.{HasRefinedCertFault, IsRefinedTextOf}
use Rattle.refined_text.specs.read.Laws.{RefinedTextsAreTold}
use Rattle.refined_text.proofs.ReadCompleteLemmas.{no_fault as no_refined_fault}
use Rattle.refined_text.specs.versions.Versions.{refined_certificate_of}
use Rattle.refined_text.specs.versions.AnyTexts.{begins_refined, IsOlderText}
use Rattle.refined_text.specs.versions.Laws.{VersionsStayInRange, EachTextIsTold, AnyTextsAreInRange, AnyTextsTell}
use Rattle.refined_text.specs.versions.Laws.{AnyTextsAreSound, AnyTextsAreTold}

-- ---- how texts begin

refined_begins : (inst : Tables) (cert : RefinedCertificate) → begins_refined (refined_text inst cert) ≡ true
refined_begins inst cert = refl

title_begins : (version : Version) (rest : List ℕ) → begins_refined (line_text (Title version) ++ rest) ≡ false
title_begins One rest = refl
title_begins Two rest = refl

older_begins : (inst : Tables) (cert : Certificate) → begins_refined (certificate_text inst cert) ≡ false
older_begins inst cert = title_begins cert.version _

pub EachTextIsTold-from : EachTextIsTold
EachTextIsTold-from = record {
  refined = λ inst bytes cert t.
      let e = ap begins_refined t.text ∙ refined_begins inst cert in
      subst (λ (b : Bool). MatchBool b (IsRefinedTextOf inst bytes cert) (IsOlderText inst bytes cert)) (sym e) t;
  older = λ inst bytes cert t.
      let e = ap begins_refined t.text ∙ older_begins inst cert in
      let as_told = refined_certificate_of inst cert in
      let P : Bool → Type 0 = λ b. MatchBool b (IsRefinedTextOf inst bytes as_told) (IsOlderText inst bytes as_told) in
      subst P (sym e) (record { older = cert; text = t; told = refl });
}

-- ---- what a text is one of

pub AnyTextsAreInRange-from : VersionsStayInRange → AnyTextsAreInRange
AnyTextsAreInRange-from law inst bytes cert = at (begins_refined bytes)
  where
    at : (b : Bool) → MatchBool b (IsRefinedTextOf inst bytes cert) (IsOlderText inst bytes cert)
        → IsRefinedInRange inst cert
    at true t = t.in_range
    at false t = subst (IsRefinedInRange inst) (sym t.told) (law inst t.older t.text.in_range)

pub AnyTextsTell-from : TextsTell → RefinedTextsTell → AnyTextsTell
AnyTextsTell-from older refined inst bytes a b f = at (begins_refined bytes)
  where
    at : (x : Bool) → MatchBool x (IsRefinedTextOf inst bytes a) (IsOlderText inst bytes a)
        → MatchBool x (IsRefinedTextOf inst bytes b) (IsOlderText inst bytes b) → a ≡ b
    at true s t = refined inst a b f s.in_range t.in_range (sym s.text ∙ t.text)
    at false s t =
        s.told
        ∙ ap (refined_certificate_of inst)
        (older inst s.older t.older f s.text.in_range t.text.in_range (sym s.text.text ∙ t.text.text))
        ∙ sym t.told

older_sound : (inst : Tables) (bytes : List ℕ) (cert : Certificate) (fault : CertFault) → IsFitting inst
    → IsTextOf inst bytes cert → HasCertFault inst bytes fault → ⊥
older_sound inst bytes cert (Cut n) f t h =
    let e : Cut n ≡ Memory = no_fault inst cert bytes (Cut n) f t.in_range t.text h in cc
older_sound inst bytes cert (BadLine n) f t h =
    let e : BadLine n ≡ Memory = no_fault inst cert bytes (BadLine n) f t.in_range t.text h in cc
older_sound inst bytes cert (Bounds n) f t h =
    let e : Bounds n ≡ Memory = no_fault inst cert bytes (Bounds n) f t.in_range t.text h in cc
older_sound inst bytes cert Memory f t h = h

refined_sound : (inst : Tables) (bytes : List ℕ) (cert : RefinedCertificate) (fault : CertFault) → IsFitting inst
    → IsRefinedTextOf inst bytes cert → HasRefinedCertFault inst bytes fault → ⊥
refined_sound inst bytes cert (Cut n) f t h =
    let e : Cut n ≡ Memory = no_refined_fault inst cert bytes (Cut n) f t.in_range t.text h in cc
refined_sound inst bytes cert (BadLine n) f t h =
    let e : BadLine n ≡ Memory = no_refined_fault inst cert bytes (BadLine n) f t.in_range t.text h in cc
refined_sound inst bytes cert (Bounds n) f t h =
    let e : Bounds n ≡ Memory = no_refined_fault inst cert bytes (Bounds n) f t.in_range t.text h in cc
refined_sound inst bytes cert Memory f t h = h

pub AnyTextsAreSound-from : AnyTextsAreSound
AnyTextsAreSound-from inst bytes cert fault f = at (begins_refined bytes)
  where
    at : (x : Bool) → MatchBool x (IsRefinedTextOf inst bytes cert) (IsOlderText inst bytes cert)
        → MatchBool x (HasRefinedCertFault inst bytes fault) (HasCertFault inst bytes fault) → ⊥
    at true t h = refined_sound inst bytes cert fault f t h
    at false t h = older_sound inst bytes t.older fault f t.text h

pub AnyTextsAreTold-from : TextsAreTold → RefinedTextsAreTold → AnyTextsAreTold
AnyTextsAreTold-from older refined inst bytes = at (begins_refined bytes)
  where
    at : (x : Bool)
        → ((cert : RefinedCertificate) → MatchBool x (IsRefinedTextOf inst bytes cert) (IsOlderText inst bytes cert) → ⊥)
        → ((fault : CertFault) → MatchBool x (HasRefinedCertFault inst bytes fault) (HasCertFault inst bytes fault) → ⊥)
        → ⊥
    at true no_text no_fault = refined inst bytes no_text no_fault
    at false no_text no_fault = older inst bytes
        (λ cert t. no_text (refined_certificate_of inst cert) (record { older = cert; text = t; told = refl })) no_fault

-- ---- what is read

-- where what is read is the certificate that is spelled, what it is told as is what that one is told as
pub told_as : (inst : Tables) (read older : Certificate) (told cert : RefinedCertificate)
    → (◌≡◌ {A = Result Certificate CertFault} (Ok read) (Ok older))
    ⊎ (◌≡◌ {A = Result Certificate CertFault} (Ok read) (Err Memory))
    → told ≡ refined_certificate_of inst read → cert ≡ refined_certificate_of inst older
    → (◌≡◌ {A = Result RefinedCertificate CertFault} (Ok told) (Ok cert))
    ⊎ (◌≡◌ {A = Result RefinedCertificate CertFault} (Ok told) (Err Memory))
told_as inst read older told cert (inl e) t c =
    inl (ap (λ (x : RefinedCertificate). Ok x) (t ∙ ap (refined_certificate_of inst) (same e) ∙ sym c))
  where
    same : ◌≡◌ {A = Result Certificate CertFault} (Ok read) (Ok older) → read ≡ older
    same e = cc
told_as inst read older told cert (inr e) t c = absurd (never e)
  where
    never : ◌≡◌ {A = Result Certificate CertFault} (Ok read) (Err Memory) → ⊥
    never e = cc
