-- What was read of the files.
use Rattle.std.proofs.Common.{ℕ, List}
use Rattle.plan_desk.specs.Desk.{Shown}
use Rattle.instance_model.specs.declared.limits.Limits.{Limits}
use Rattle.instance_model.specs.Tables.{Tables}
use Rattle.command_frame.specs.Sources.{Source}
use Rattle.command_frame.specs.Ending.{Answer}
use Rattle.command_frame.specs.Bytes.{SpellsOneBy, RefusesCertificateBy}
use Rattle.command_frame.specs.Files.{reading, OnCertificateBy, ReadsInstance, ReadsCertificateBy}
use Rattle.command_frame.specs.Files.OnFile.{stands}
use Rattle.command_frame.specs.Kinds.{CertificateKind}
use Rattle.command_frame.specs.declared.refusal.Refusal.{Refusal}
use Rattle.command_frame.specs.Refusals.{IsCertificateCauseBy, IsDueAs}
use Rattle.command_frame.proofs.FileLemmas.{on_other, IsRead, before_reading, reads_before}
use Rattle.command_frame.proofs.ReadLemmas.{due_within, after_instance}
use Rattle.command_frame.proofs.CertificateLemmas.{certificate_cause_due}
use Rattle.command_rebound.specs.Rebinding.{RebindsBy, AnswersReboundBy}
use Rattle.command_rebound.specs.Made.{AreRead}

module _ {C : Type 0} (kind : CertificateKind C) where
  -- the certificate file is refused after the instance was read
  pub refuses_certificate : (limits : Limits) (source : Source) (name out : List ℕ) (old mid new : Shown)
      (inst : Tables) (r : Refusal) → ReadsInstance limits source old inst → IsRead old mid
      → IsCertificateCauseBy kind.texts limits 3 name inst mid new r
      → IsDueAs (AnswersReboundBy kind limits (reading old new) source.slack source.instance name out) r
  refuses_certificate limits source name out old mid new inst r reads read cause =
      due_within (OnCertificateBy kind.texts limits inst (reading mid new) 3 name (RebindsBy kind limits inst out))
      (AnswersReboundBy kind limits (reading old new) source.slack source.instance name out) r
      (λ a due. after_instance limits source old new inst
      (λ i. OnCertificateBy kind.texts limits i (reading old new) 3 name (RebindsBy kind limits i out)) a reads
      (on_other (reading mid new) (reading old new) 3 name name (RefusesCertificateBy kind.texts limits inst)
      (SpellsOneBy kind.texts limits inst) (RebindsBy kind limits inst out) (RebindsBy kind limits inst out) a
      (before_reading name old mid new read) (λ x b n. n) due))
      (certificate_cause_due limits 3 name inst mid new (RebindsBy kind limits inst out) r cause)

  -- both were read
  pub are_read : (limits : Limits) (source : Source) (name : List ℕ) (old mid : Shown) (inst : Tables)
      (cert : C) → ReadsInstance limits source old inst → IsRead old mid
      → ReadsCertificateBy kind.texts limits name inst mid cert → kind.range inst cert
      → AreRead kind limits source name old inst cert
  are_read limits source name old mid inst cert reads read reads_cert range = record {
    reads = reads;
    reads_cert = reads_before name old mid (λ bytes. SpellsOneBy kind.texts limits inst bytes cert) read reads_cert;
    in_range = range;
  }

  -- an answer to what was read is one to the files
  pub read_answers : (limits : Limits) (source : Source) (name out : List ℕ) (old new : Shown) (inst : Tables)
      (cert : C) (a : Answer) → AreRead kind limits source name old inst cert → RebindsBy kind limits inst out cert a
      → AnswersReboundBy kind limits (reading old new) source.slack source.instance name out a
  read_answers limits source name out old new inst cert a read rebinds =
      stands read.reads.bytes inst a read.reads.held read.reads.such
      (stands read.reads_cert.bytes cert a read.reads_cert.held read.reads_cert.such rebinds)
