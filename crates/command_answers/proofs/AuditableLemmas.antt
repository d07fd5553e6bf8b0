-- `audit` accepts each valid certificate whose text is short.
use Rattle.std.proofs.Common.{◌≡◌, ℕ, List, Option, refl, arith}
use Rattle.instance_model.specs.Limits.{standard_limits}
use Rattle.instance_model.specs.Tables.{Tables}
use Rattle.instance_model.specs.Fitting.{IsFitting}
use Rattle.certificate_tree.specs.declared.certificate.Certificate.{Certificate}
use Rattle.certificate_tree.specs.Validity.{claim_of}
use Rattle.certificate_tree.specs.Laws.{ValidBoundsPlans, NodesAreOneTree}
use Rattle.certificate_check.specs.declared.verdict.CertVerdict.TheVariants.{Valid, LeafFails}
use Rattle.certificate_check.proofs.VerdictLemmas.{one_verdict}
use Rattle.certificate_text.specs.Text.{certificate_text}
use Rattle.certificate_text.specs.Laws.{TextsTell}
use Rattle.plan_changes.specs.Changes.{change_base, change_value, BoundsCountChanges}
use Rattle.command_frame.specs.Files.OnFile.{stands}
use Rattle.command_answers.specs.Audit.{FailsFirstFor, IsAudited}
use Rattle.command_answers.specs.Audit.Audits.{accepted}
use Rattle.command_answers.proofs.BoundLemmas.{bounds_every_repair}
use Rattle.command_frame.proofs.TextLemmas.{spells}
use Rattle.command_answers.specs.Accepting.{IsShortValidFor, ShortValidIsAuditable}

module _ (inst : Tables) (fit : IsFitting inst) (old : List (Option ℕ)) (cert : Certificate)
    (good : IsShortValidFor inst old cert) where
  none_fails : NodesAreOneTree → (n : ℕ) → FailsFirstFor inst old cert n → ⊥
  none_fails law n first =
      never (one_verdict law (change_value old) inst (claim_of (change_base old) inst cert) Valid (LeafFails n)
      good.valid first)
    where
      never : LeafFails n ≡ Valid → ⊥
      never e = cc

  is_audited : NodesAreOneTree → ValidBoundsPlans (change_base old) (change_value old) → BoundsCountChanges
      → IsAudited inst old cert
  is_audited one law counts = record {
    valid = good.valid;
    holds = none_fails one;
    bounds = bounds_every_repair inst old cert.bound counts (law inst cert fit good.in_range good.valid);
  }

pub auditable : (inst : Tables) (old : List (Option ℕ)) → IsFitting inst → NodesAreOneTree → TextsTell
    → ValidBoundsPlans (change_base old) (change_value old) → BoundsCountChanges → ShortValidIsAuditable inst old
auditable inst old fit one tell law counts cert good =
    let all = is_audited inst fit old cert good one law counts in
    let text = spells standard_limits inst fit cert good.in_range (omega (arith, good.short)) tell in
    record {
      in_range = good.in_range;
      accepted = stands (certificate_text inst cert) cert _ refl text (accepted all);
      bounds = all.bounds;
      short = good.short;
    }
