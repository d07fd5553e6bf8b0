-- What is answered on a certificate.
use Rattle.std.proofs.Common.{◌≡◌, ℕ, List, Option, sym, ◌∙◌, subst}
use Rattle.instance_model.specs.Tables.{Tables}
use Rattle.certificate_tree.specs.declared.certificate.Certificate.{Certificate}
use Rattle.certificate_tree.specs.Validity.{BoundsPlans}
use Rattle.certificate_check.specs.declared.verdict.CertVerdict.{CertVerdict}
use Rattle.certificate_check.specs.declared.verdict.CertVerdict.TheVariants.{Valid, LeafFails}
use Rattle.certificate_check.specs.Verdicts.{IsVerdict}
use Rattle.plan_changes.specs.Changes.{change_base, change_value, BoundsCountChanges}
use Rattle.command_frame.specs.Lines.{failing_leaf_line}
use Rattle.command_frame.specs.Ending.{reply}
use Rattle.command_answers.specs.Audit.{IsValidFor, FailsFirstFor, audited_report, Audits}
use Rattle.command_answers.specs.Audit.Audits.{accepted, failing_leaf}
use Rattle.command_answers.proofs.BoundLemmas.{bounds_every_repair}

-- the checker's verdict on a certificate
pub record Verdict (inst : Tables) (old : List (Option ℕ)) (cert : Certificate) (verdict : CertVerdict) : Type 0 where
  pub right : IsVerdict (change_base old) (change_value old) inst cert verdict
  pub only : (other : CertVerdict) → IsVerdict (change_base old) (change_value old) inst cert other
      → other ≡ verdict
  pub bounds : verdict ≡ Valid → BoundsPlans (change_value old) inst cert.bound

not_valid : (n : ℕ) → Valid ≡ LeafFails n → ⊥
not_valid n e = cc

same_leaf : (n m : ℕ) → LeafFails m ≡ LeafFails n → m ≡ n
same_leaf n m e = cc

pub valid_audits : (inst : Tables) (old seen : List (Option ℕ)) (cert : Certificate) (verdict : CertVerdict)
    (text : List ℕ)
    → seen ≡ old → verdict ≡ Valid → Verdict inst seen cert verdict → BoundsCountChanges
    → text ≡ audited_report inst cert.bound → Audits inst old cert (reply 0 text)
valid_audits inst old seen cert verdict text same is v counts report =
    let right : IsValidFor inst seen cert = subst
    (IsVerdict (change_base seen) (change_value seen) inst cert) is v.right in
    subst (λ (p : List (Option ℕ)). Audits inst p cert (reply 0 text)) same
    (subst (λ (t : List ℕ). Audits inst seen cert (reply 0 t)) (sym report)
    (accepted (record {
      valid = right;
      holds = λ n first. not_valid n (sym (v.only (LeafFails n) first ∙ is));
      bounds = bounds_every_repair inst seen cert.bound counts (v.bounds is);
    })))

pub leaf_audits : (inst : Tables) (old seen : List (Option ℕ)) (cert : Certificate) (verdict : CertVerdict) (n : ℕ)
    (text : List ℕ)
    → seen ≡ old → verdict ≡ LeafFails n → Verdict inst seen cert verdict → text ≡ failing_leaf_line n
    → Audits inst old cert (reply 5 text)
leaf_audits inst old seen cert verdict n text same is v report =
    let right : FailsFirstFor inst seen cert n = subst
    (IsVerdict (change_base seen) (change_value seen) inst cert) is v.right in
    subst (λ (p : List (Option ℕ)). Audits inst p cert (reply 5 text)) same
    (subst (λ (t : List ℕ). Audits inst seen cert (reply 5 t)) (sym report)
    (failing_leaf n (record {
      first = right;
      only = λ m first. same_leaf n m (v.only (LeafFails m) first ∙ is);
      invalid = λ valid. not_valid n (v.only Valid valid ∙ is);
    })))
