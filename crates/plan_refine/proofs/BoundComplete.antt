-- `bound` with an instance, a plan, if one is given, and a certificate, if one is, that are read: 0, 10, 12 or 11.
use Rattle.std.proofs.Common.{ℕ, inl, inr, List, [], ◌∷◌, Option, Some, None, refl}
use Rattle.std.specs.Prelude.{⊤}
use Rattle.plan_desk.specs.Desk.{Shown}
use Rattle.instance_model.specs.Limits.{standard_limits}
use Rattle.instance_model.specs.Tables.{Tables}
use Rattle.certificate_lines.specs.declared.line.Bound.{Bound}
use Rattle.certificate_lines.specs.declared.line.Bound.TheVariants.{NoPlan, Least}
use Rattle.branch_search.specs.declared.part.Part.{Part}
use Rattle.refined_check.specs.declared.certificate.certificate.RefinedCertificate.{RefinedCertificate}
use Rattle.refined_files.specs.RefinedKind.{refined_kind}
use Rattle.command_frame.specs.Sources.{Source}
use Rattle.command_frame.specs.Ending.{Answer, IsOneOf, NoFault}
use Rattle.command_frame.specs.Bytes.{SpellsCertificateBy}
use Rattle.command_frame.specs.Files.{by_bytes, OnGiven, TellsGivenBytes}
use Rattle.command_frame.specs.Completing.{Completes}
use Rattle.command_frame.proofs.CompleteReads.{told_instance, told_given, told_certificate, on_instance, on_given}
use Rattle.command_frame.proofs.CompleteReads.{on_certificate}
use Rattle.command_frame.proofs.CompleteLemmas.{completes}
use Rattle.command_bound.specs.Given.{OnGivenCertificateBy, TellsGivenCertificateBy}
use Rattle.command_bound.specs.Bounding.{bound_status, RaisesBound, AnswersBound, BoundFiles, TellsBoundFiles}
use Rattle.command_bound.specs.Bounding.{RunsBound}
use Rattle.command_bound.specs.Bounding.RaisesBound.{raised, too_long}

-- ---- the bytes of a certificate that may be left out

-- they are left out with the certificate, or spell it
abbrev SpellsGiven : Tables → Option (List ℕ) → Option RefinedCertificate → Type 0
SpellsGiven inst None None = ⊤
SpellsGiven inst (Some bytes) (Some cert) = SpellsCertificateBy refined_kind.texts standard_limits inst bytes cert
SpellsGiven _ _ _ = ⊥

record ToldCertificate (s : Shown) (name : Option (List ℕ)) (inst : Tables) (cert : Option RefinedCertificate)
    : Type 0 where
  bytes : Option (List ℕ)
  tells : TellsGivenBytes s name bytes
  such : SpellsGiven inst bytes cert

told : (s : Shown) (name : Option (List ℕ)) (inst : Tables) (cert : Option RefinedCertificate)
    → TellsGivenCertificateBy refined_kind.texts standard_limits s name inst cert → ToldCertificate s name inst cert
told s None inst None tells = record { bytes = None; tells = tt; such = tt }
told s None inst (Some cert) tells = absurd tells
told s (Some name) inst None tells = absurd tells
told s (Some name) inst (Some cert) tells =
    let one = told_certificate standard_limits s name inst cert tells in
    record { bytes = Some one.bytes; tells = one.tells; such = one.such }

-- the answer to them is the next one, for what they stand for
on_told : (inst : Tables) (bytes : Option (List ℕ)) (cert : Option RefinedCertificate)
    (Next : Option RefinedCertificate → Answer → Type 0) (a : Answer) → SpellsGiven inst bytes cert
    → OnGivenCertificateBy refined_kind.texts standard_limits inst by_bytes 4 bytes Next a → Next cert a
on_told inst None None Next a spells due = due
on_told inst None (Some cert) Next a spells due = absurd spells
on_told inst (Some bytes) None Next a spells due = absurd spells
on_told inst (Some bytes) (Some cert) Next a spells due =
    on_certificate standard_limits inst 4 bytes cert (λ c. Next (Some c)) a spells due

-- ---- the statuses

status_of : (bound : Bound) → IsOneOf (0 ∷ 10 ∷ 12 ∷ []) (bound_status bound)
status_of (Least b) = inl refl
status_of NoPlan = inr (inl refl)

statuses : (inst : Tables) (given : Option (List (Option ℕ))) (out : List ℕ) (turns : ℕ) (part : Part)
    (cert : Option RefinedCertificate) (a : Answer) → RaisesBound standard_limits inst given out turns part cert a
    → IsOneOf (0 ∷ 10 ∷ 12 ∷ []) a.status
statuses inst given out turns part cert a (raised handed_in answer is) = status_of answer.cert.bound
statuses inst given out turns part cert a (too_long handed_in answer plan long) = inr (inr (inl refl))

-- ---- a run

pub bound_completes : (source : Source) (name cert_name : Option (List ℕ)) (out : List ℕ) (turns : ℕ) (part : Part)
    (files : BoundFiles) (old new : Shown) (status : ℕ)
    → RunsBound standard_limits source name cert_name out turns part old new status
    → TellsBoundFiles standard_limits old source name cert_name files → NoFault old new
    → Completes (0 ∷ 10 ∷ 12 ∷ []) (RaisesBound standard_limits files.inst files.plan out turns part files.cert) old new
    status
bound_completes source name cert_name out turns part files old new status run tells calm =
    let i = told_instance standard_limits old source files.inst tells.instance in
    let p = told_given standard_limits old name files.inst files.plan tells.plan in
    let c = told old cert_name files.inst files.cert tells.cert in
    completes (0 ∷ 10 ∷ 12 ∷ [])
    (AnswersBound standard_limits by_bytes source.slack i.bytes p.bytes c.bytes out turns part)
    (RaisesBound standard_limits files.inst files.plan out turns part files.cert) old new status
    (λ a due. on_told files.inst c.bytes files.cert (RaisesBound standard_limits files.inst files.plan out turns part) a
    c.such
    (on_given standard_limits files.inst 3 p.bytes files.plan
    (λ q. OnGivenCertificateBy refined_kind.texts standard_limits files.inst by_bytes 4 c.bytes
    (RaisesBound standard_limits files.inst q out turns part)) a p.such
    (on_instance standard_limits source.slack 2 i.bytes files.inst
    (λ x. OnGiven standard_limits x by_bytes 3 p.bytes
    (λ q. OnGivenCertificateBy refined_kind.texts standard_limits x by_bytes 4 c.bytes
    (RaisesBound standard_limits x q out turns part))) a i.such due)))
    (statuses files.inst files.plan out turns part files.cert)
    (run.exact i.bytes p.bytes c.bytes i.tells p.tells c.tells calm)
