-- The text of a certificate within the limit spells it, and has no fault.
use Rattle.std.proofs.Common.{◌≡◌, ◌≤◌, refl, sym, length}
use Rattle.instance_model.specs.declared.limits.Limits.{Limits}
use Rattle.instance_model.specs.Tables.{Tables}
use Rattle.instance_model.specs.Fitting.{IsFitting}
use Rattle.certificate_tree.specs.declared.certificate.Certificate.{Certificate}
use Rattle.certificate_tree.specs.Ranges.{IsInRange}
use Rattle.certificate_text.specs.Text.{certificate_text}
use Rattle.certificate_text.specs.Laws.{TextsTell}
use Rattle.certificate_text.specs.declared.read.fault.CertFault.{CertFault}
use Rattle.certificate_text.specs.declared.read.fault.CertFault.TheVariants.{Cut, BadLine, Bounds, Memory}
use Rattle.certificate_text.specs.read.Faults.{HasCertFault}
use Rattle.certificate_text.proofs.ReadCompleteLemmas.{no_fault}
use Rattle.command_frame.specs.Bytes.{SpellsOne}

module _ (limits : Limits) (inst : Tables) (fit : IsFitting inst) (cert : Certificate) (in_range : IsInRange inst cert)
    (short : length (certificate_text inst cert) ≤ limits.certificate_bytes) where
  -- the text has no fault
  sound : (fault : CertFault) → HasCertFault inst (certificate_text inst cert) fault → ⊥
  sound (Cut n) has = never (no_fault inst cert (certificate_text inst cert) (Cut n) fit in_range refl has)
    where
      never : Cut n ≡ Memory → ⊥
      never e = cc
  sound (BadLine n) has = never (no_fault inst cert (certificate_text inst cert) (BadLine n) fit in_range refl has)
    where
      never : BadLine n ≡ Memory → ⊥
      never e = cc
  sound (Bounds n) has = never (no_fault inst cert (certificate_text inst cert) (Bounds n) fit in_range refl has)
    where
      never : Bounds n ≡ Memory → ⊥
      never e = cc
  sound Memory has = has

  pub spells : TextsTell → SpellsOne limits inst (certificate_text inst cert) cert
  spells tell = record {
    spells = record { within = short; text_of = record { in_range = in_range; text = refl } };
    only = λ other also. tell inst other cert fit also.in_range in_range (sym also.text);
    sound = sound;
  }
