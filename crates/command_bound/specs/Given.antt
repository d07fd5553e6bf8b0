-- A certificate file that may be left out.
use Rattle.std.specs.Prelude.{ℕ, ⊤, List, Option, Some, None}
use Rattle.plan_desk.specs.Desk.{Shown}
use Rattle.instance_model.specs.declared.limits.Limits.{Limits}
use Rattle.instance_model.specs.Tables.{Tables}
use Rattle.command_frame.specs.declared.refusal.Refusal.{Refusal}
use Rattle.command_frame.specs.Ending.{Answer}
use Rattle.command_frame.specs.Bytes.{CertificateTexts}
use Rattle.command_frame.specs.Files.{Meeting, OnCertificateBy, ReadsCertificateBy, TellsCertificateBy}
use Rattle.command_frame.specs.Refusals.{IsCertificateCauseBy}

-- what is answered to it
abbrev pub OnGivenCertificateBy : {C : Type 0} → CertificateTexts C → Limits → Tables → Meeting → ℕ
    → Option (List ℕ) → (Option C → Answer → Type 0) → Answer → Type 0
OnGivenCertificateBy texts limits inst met word None Next = Next None
OnGivenCertificateBy texts limits inst met word (Some name) Next =
    OnCertificateBy texts limits inst met word name (λ cert. Next (Some cert))

-- none was given; or the file of this name was read, and its bytes are the text of this certificate and of no other
abbrev pub ReadsGivenCertificateBy : {C : Type 0} → CertificateTexts C → Limits → Option (List ℕ) → Tables → Shown
    → Option C → Type 0
ReadsGivenCertificateBy texts limits None inst old None = ⊤
ReadsGivenCertificateBy texts limits (Some name) inst old (Some cert) =
    ReadsCertificateBy texts limits name inst old cert
ReadsGivenCertificateBy _ _ _ _ _ _ = ⊥

-- none is given; or it is told that the bytes of the file are the text of this certificate
abbrev pub TellsGivenCertificateBy : {C : Type 0} → CertificateTexts C → Limits → Shown → Option (List ℕ) → Tables
    → Option C → Type 0
TellsGivenCertificateBy texts limits s None inst None = ⊤
TellsGivenCertificateBy texts limits s (Some name) inst (Some cert) =
    TellsCertificateBy texts limits s name inst cert
TellsGivenCertificateBy _ _ _ _ _ _ = ⊥

-- why the file is refused, if one is given. No part of any promise.
abbrev pub IsGivenCertificateCauseBy : {C : Type 0} → CertificateTexts C → Limits → ℕ → Option (List ℕ) → Tables
    → (old new : Shown) → Refusal → Type 0
IsGivenCertificateCauseBy texts limits at None inst old new refusal = ⊥
IsGivenCertificateCauseBy texts limits at (Some name) inst old new refusal =
    IsCertificateCauseBy texts limits at name inst old new refusal
