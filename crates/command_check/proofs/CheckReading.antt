-- What was read of the files of a check.
use Rattle.std.proofs.Common.{◌≡◌, ℕ, List, Option}
use Rattle.plan_desk.specs.Desk.{Shown}
use Rattle.instance_model.specs.declared.limits.Limits.{Limits}
use Rattle.instance_model.specs.Tables.{Tables}
use Rattle.command_frame.specs.Sources.{Source}
use Rattle.command_frame.specs.Ending.{Answer}
use Rattle.command_frame.specs.Bytes.{SpellsOneBy, RefusesCertificateBy}
use Rattle.command_frame.specs.Files.{reading, OnGiven, OnCertificateBy, ReadsInstance, ReadsGiven}
use Rattle.command_frame.specs.Files.{ReadsCertificateBy}
use Rattle.command_frame.specs.Files.OnFile.{stands}
use Rattle.command_frame.specs.Kinds.{CertificateKind}
use Rattle.command_answers.specs.Check.{ChecksBy, AnswersCheckBy}
use Rattle.command_frame.specs.declared.refusal.Refusal.{Refusal}
use Rattle.command_frame.specs.Refusals.{IsGivenCause, IsCertificateCauseBy, IsDueAs, AfterGiven}
use Rattle.command_frame.proofs.FileLemmas.{on_other, on_given_other, IsRead, read_given, before_reading, before_given}
use Rattle.command_frame.proofs.FileLemmas.{reads_before}
use Rattle.command_frame.proofs.ReadLemmas.{due_within, after_instance}
use Rattle.command_frame.proofs.CertificateLemmas.{certificate_cause_due, given_cause_due, after_given}

module _ {C : Type 0} (kind : CertificateKind C) where
  -- what is due for the certificate of a check
  abbrev pub OnChecked : Limits → List ℕ → Tables → (old new : Shown) → Option (List (Option ℕ)) → Answer → Type 0
  OnChecked limits cert_name inst old new given =
      OnCertificateBy kind.texts limits inst (reading old new) 4 cert_name (ChecksBy kind inst given)

  pub check_refuses_plan : (limits : Limits) (source : Source) (name : Option (List ℕ)) (cert_name : List ℕ)
      (old mid new : Shown) (inst : Tables) (r : Refusal)
      → ReadsInstance limits source old inst → IsRead old mid
      → IsGivenCause limits 3 name inst mid new r
      → IsDueAs (AnswersCheckBy kind limits (reading old new) source.slack source.instance name cert_name) r
  check_refuses_plan limits source name cert_name old mid new inst r reads read cause =
      due_within (OnGiven limits inst (reading mid new) 3 name (OnChecked limits cert_name inst old new))
      (AnswersCheckBy kind limits (reading old new) source.slack source.instance name cert_name) r
      (λ a due. after_instance limits source old new inst
      (λ i. OnGiven limits i (reading old new) 3 name (OnChecked limits cert_name i old new)) a reads
      (on_given_other limits inst (reading mid new) (reading old new) 3 name name
      (OnChecked limits cert_name inst old new) (OnChecked limits cert_name inst old new) a
      (before_given name old mid new read) (λ x b n. n) due))
      (given_cause_due limits 3 name inst mid new (OnChecked limits cert_name inst old new) r cause)

  pub check_refuses_certificate : (limits : Limits) (source : Source) (name : Option (List ℕ)) (cert_name : List ℕ)
      (old mid last new : Shown) (inst : Tables) (given : Option (List (Option ℕ))) (r : Refusal)
      → ReadsInstance limits source old inst → IsRead old mid → ReadsGiven limits name inst mid given
      → last.faults ≡ mid.faults → AfterGiven name mid last
      → IsCertificateCauseBy kind.texts limits 4 cert_name inst last new r
      → IsDueAs (AnswersCheckBy kind limits (reading old new) source.slack source.instance name cert_name) r
  check_refuses_certificate limits source name cert_name old mid last new inst given r reads read reads_given same
      after cause =
      due_within (OnCertificateBy kind.texts limits inst (reading last new) 4 cert_name (ChecksBy kind inst given))
      (AnswersCheckBy kind limits (reading old new) source.slack source.instance name cert_name) r
      (λ a due. after_instance limits source old new inst
      (λ i. OnGiven limits i (reading old new) 3 name (OnChecked limits cert_name i old new)) a reads
      (after_given limits 3 name old mid new inst given (OnChecked limits cert_name inst old new) a read reads_given
      (on_other (reading last new) (reading old new) 4 cert_name cert_name (RefusesCertificateBy kind.texts limits inst)
      (SpellsOneBy kind.texts limits inst) (ChecksBy kind inst given) (ChecksBy kind inst given) a
      (before_reading cert_name old last new (read_given name old mid last read same after)) (λ x b n. n) due)))
      (certificate_cause_due limits 4 cert_name inst last new (ChecksBy kind inst given) r cause)

  pub check_answers : (limits : Limits) (source : Source) (name : Option (List ℕ)) (cert_name : List ℕ)
      (old mid last new : Shown) (inst : Tables) (given : Option (List (Option ℕ))) (cert : C) (a : Answer)
      → ReadsInstance limits source old inst → IsRead old mid → ReadsGiven limits name inst mid given
      → last.faults ≡ mid.faults → AfterGiven name mid last
      → ReadsCertificateBy kind.texts limits cert_name inst last cert → ChecksBy kind inst given cert a
      → AnswersCheckBy kind limits (reading old new) source.slack source.instance name cert_name a
  check_answers limits source name cert_name old mid last new inst given cert a reads read reads_given same
      after reads_cert checks =
      let here = reads_before cert_name old last (λ bytes. SpellsOneBy kind.texts limits inst bytes cert)
      (read_given name old mid last read same after) reads_cert in
      after_instance limits source old new inst
      (λ i. OnGiven limits i (reading old new) 3 name (OnChecked limits cert_name i old new)) a reads
      (after_given limits 3 name old mid new inst given (OnChecked limits cert_name inst old new) a read reads_given
      (stands here.bytes cert a here.held here.such checks))
