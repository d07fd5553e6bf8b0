-- What was read of the files.
use Rattle.std.proofs.Common.{◌≡◌, ℕ, List, length, Option, IfSome}
use Rattle.plan_desk.specs.Desk.{Shown}
use Rattle.instance_model.specs.declared.limits.Limits.{Limits}
use Rattle.instance_model.specs.Tables.{Tables}
use Rattle.branch_search.specs.declared.part.Part.{Part}
use Rattle.refined_check.specs.declared.certificate.certificate.RefinedCertificate.{RefinedCertificate}
use Rattle.refined_check.specs.certificate.Ranges.{IsRefinedInRange}
use Rattle.refined_files.specs.RefinedKind.{refined_kind}
use Rattle.command_frame.specs.Sources.{Source}
use Rattle.command_frame.specs.Ending.{Answer}
use Rattle.command_frame.specs.Files.{reading, OnGiven, ReadsInstance, ReadsGiven}
use Rattle.command_frame.specs.declared.refusal.Refusal.{Refusal}
use Rattle.command_frame.specs.Refusals.{IsGivenCause, IsDueAs, AfterGiven}
use Rattle.command_frame.proofs.FileLemmas.{on_given_other, IsRead, read_given, before_given}
use Rattle.command_frame.proofs.ReadLemmas.{due_within, after_instance}
use Rattle.command_frame.proofs.CertificateLemmas.{given_cause_due, after_given}
use Rattle.command_bound.specs.Given.{OnGivenCertificateBy, ReadsGivenCertificateBy, IsGivenCertificateCauseBy}
use Rattle.command_bound.specs.Bounding.{RaisesBound, AnswersBound}
use Rattle.command_bound.specs.Made.{AreRead}
use Rattle.command_bound.proofs.GivenLemmas.{on_given_certificate_other, given_certificate_cause_due}
use Rattle.command_bound.proofs.GivenLemmas.{after_given_certificate, given_certificate_before, given_before}
use Rattle.command_bound.proofs.GivenLemmas.{after_given_plan}

-- what is answered to the certificate
abbrev pub OnOld : Limits → Option (List ℕ) → List ℕ → ℕ → Part → Tables → (old new : Shown) → Option (List (Option ℕ))
    → Answer → Type 0
OnOld limits cert_name out turns part inst old new given =
    OnGivenCertificateBy refined_kind.texts limits inst (reading old new) 4 cert_name
    (RaisesBound limits inst given out turns part)

module _ (limits : Limits) (source : Source) (name cert_name : Option (List ℕ)) where
  -- all were read
  pub are_read : (old mid last : Shown) (inst : Tables) (given : Option (List (Option ℕ)))
      (cert : Option RefinedCertificate) → ReadsInstance limits source old inst → IsRead old mid
      → ReadsGiven limits name inst mid given → IfSome given (λ p. length p ≡ length inst.names)
      → last.faults ≡ mid.faults → AfterGiven name mid last
      → ReadsGivenCertificateBy refined_kind.texts limits cert_name inst last cert → IfSome cert (IsRefinedInRange inst)
      → AreRead limits source name cert_name old inst given cert
  are_read old mid last inst given cert reads read reads_given each same after reads_cert range = record {
    reads = reads;
    reads_plan = given_before limits inst name old mid given read reads_given;
    each = each;
    reads_cert = given_certificate_before refined_kind.texts limits inst cert_name old last cert
        (read_given name old mid last read same after) reads_cert;
    in_range = range;
  }

module _ (limits : Limits) (source : Source) (name cert_name : Option (List ℕ)) (out : List ℕ) (turns : ℕ)
    (part : Part) where
  pub refuses_plan : (old mid new : Shown) (inst : Tables) (r : Refusal) → ReadsInstance limits source old inst
      → IsRead old mid → IsGivenCause limits 3 name inst mid new r
      → IsDueAs (AnswersBound limits (reading old new) source.slack source.instance name cert_name out turns part) r
  refuses_plan old mid new inst r reads read cause =
      due_within (OnGiven limits inst (reading mid new) 3 name (OnOld limits cert_name out turns part inst old new))
      (AnswersBound limits (reading old new) source.slack source.instance name cert_name out turns part) r
      (λ a due. after_instance limits source old new inst
      (λ i. OnGiven limits i (reading old new) 3 name (OnOld limits cert_name out turns part i old new)) a reads
      (on_given_other limits inst (reading mid new) (reading old new) 3 name name
      (OnOld limits cert_name out turns part inst old new) (OnOld limits cert_name out turns part inst old new) a
      (before_given name old mid new read) (λ x b n. n) due))
      (given_cause_due limits 3 name inst mid new (OnOld limits cert_name out turns part inst old new) r cause)

  pub refuses_certificate : (old mid last new : Shown) (inst : Tables) (given : Option (List (Option ℕ)))
      (r : Refusal) → ReadsInstance limits source old inst → IsRead old mid → ReadsGiven limits name inst mid given
      → last.faults ≡ mid.faults → AfterGiven name mid last
      → IsGivenCertificateCauseBy refined_kind.texts limits 4 cert_name inst last new r
      → IsDueAs (AnswersBound limits (reading old new) source.slack source.instance name cert_name out turns part) r
  refuses_certificate old mid last new inst given r reads read reads_given same after cause =
      due_within
      (OnGivenCertificateBy refined_kind.texts limits inst (reading last new) 4 cert_name
      (RaisesBound limits inst given out turns part))
      (AnswersBound limits (reading old new) source.slack source.instance name cert_name out turns part) r
      (λ a due. after_instance limits source old new inst
      (λ i. OnGiven limits i (reading old new) 3 name (OnOld limits cert_name out turns part i old new)) a reads
      (after_given limits 3 name old mid new inst given (OnOld limits cert_name out turns part inst old new) a read
      reads_given
      (on_given_certificate_other refined_kind.texts limits inst (reading last new) (reading old new) 4 cert_name
      cert_name (RaisesBound limits inst given out turns part) (RaisesBound limits inst given out turns part) a
      (before_given cert_name old last new (read_given name old mid last read same after)) (λ x b n. n) due)))
      (given_certificate_cause_due refined_kind.texts limits inst 4 cert_name last new
      (RaisesBound limits inst given out turns part) r cause)

  -- an answer to what was read is one to the files
  pub read_answers : (old new : Shown) (inst : Tables) (given : Option (List (Option ℕ)))
      (cert : Option RefinedCertificate) (a : Answer) → AreRead limits source name cert_name old inst given cert
      → RaisesBound limits inst given out turns part cert a
      → AnswersBound limits (reading old new) source.slack source.instance name cert_name out turns part a
  read_answers old new inst given cert a read raises =
      after_instance limits source old new inst
      (λ i. OnGiven limits i (reading old new) 3 name (OnOld limits cert_name out turns part i old new)) a read.reads
      (after_given_plan limits inst 3 name old new given (OnOld limits cert_name out turns part inst old new) a
      read.reads_plan
      (after_given_certificate refined_kind.texts limits inst 4 cert_name old new cert
      (RaisesBound limits inst given out turns part) a read.reads_cert raises))
