-- The verdict on the certificate that was read of a text is the verdict on every certificate of which it is the text.
use Rattle.std.proofs.Common.{◌≡◌, ℕ, ◌⊎◌, inl, inr, List, sym, ◌∙◌, subst}
use Rattle.std.specs.Prelude.{Result, Ok, Err}
use Rattle.instance_model.specs.Tables.{Tables}
use Rattle.lagrange_bound.specs.Goals.{risk_base, risk_value}
use Rattle.certificate_tree.specs.declared.certificate.Certificate.{Certificate}
use Rattle.certificate_tree.specs.Validity.{IsValid, IsFirstFailing}
use Rattle.certificate_text.specs.declared.read.fault.CertFault.{CertFault}
use Rattle.certificate_text.specs.declared.read.fault.CertFault.TheVariants.{Memory}
use Rattle.certificate_text.specs.read.Faults.{IsTextOf}
use Rattle.certificate_check.specs.declared.verdict.CertVerdict.{CertVerdict}
use Rattle.certificate_check.specs.declared.verdict.CertVerdict.TheVariants.{Valid, LeafFails}
use Rattle.certificate_check.specs.Verdicts.{IsVerdict}

-- a certificate that was read of a text, and the verdict on it
pub record IsAudited (inst : Tables) (text : List ℕ) (cert : Certificate) (verdict : CertVerdict) : Type 0 where
  pub complete : (other : Certificate) → IsTextOf inst text other
      → (◌≡◌ {A = Result Certificate CertFault} (Ok cert) (Ok other))
      ⊎ (◌≡◌ {A = Result Certificate CertFault} (Ok cert) (Err Memory))
  pub only : (other : CertVerdict) → IsVerdict risk_base risk_value inst cert other → other ≡ verdict

same : (a b : Certificate) → (◌≡◌ {A = Result Certificate CertFault} (Ok a) (Ok b))
    ⊎ (◌≡◌ {A = Result Certificate CertFault} (Ok a) (Err Memory)) → b ≡ a
same a b (inl e) = cc
same a b (inr e) = cc

-- each verdict on a certificate of the text is the one
the_verdict : (inst : Tables) (text : List ℕ) (cert other : Certificate) (verdict w : CertVerdict)
    → IsAudited inst text cert verdict → IsTextOf inst text other
    → IsVerdict risk_base risk_value inst other w → w ≡ verdict
the_verdict inst text cert other verdict w audited is right = audited.only w
    (subst (λ (x : Certificate). IsVerdict risk_base risk_value inst x w)
    (same cert other (audited.complete other is)) right)

not_valid : (n : ℕ) → LeafFails n ≡ Valid → ⊥
not_valid n e = cc

pub no_leaf_fails : (inst : Tables) (text : List ℕ) (cert other : Certificate) (verdict : CertVerdict) (n : ℕ)
    → verdict ≡ Valid → IsAudited inst text cert verdict → IsTextOf inst text other
    → IsFirstFailing risk_base risk_value inst other n → ⊥
no_leaf_fails inst text cert other verdict n is audited text_of first =
    not_valid n (the_verdict inst text cert other verdict (LeafFails n) audited text_of first ∙ is)

pub not_all_hold : (inst : Tables) (text : List ℕ) (cert other : Certificate) (verdict : CertVerdict) (n : ℕ)
    → verdict ≡ LeafFails n → IsAudited inst text cert verdict → IsTextOf inst text other
    → IsValid risk_base risk_value inst other → ⊥
not_all_hold inst text cert other verdict n is audited text_of valid =
    not_valid n (sym (the_verdict inst text cert other verdict Valid audited text_of valid ∙ is))

pub one_leaf : (inst : Tables) (text : List ℕ) (cert other : Certificate) (verdict : CertVerdict) (n m : ℕ)
    → verdict ≡ LeafFails n → IsAudited inst text cert verdict → IsTextOf inst text other
    → IsFirstFailing risk_base risk_value inst other m → n ≡ m
one_leaf inst text cert other verdict n m is audited text_of first = let e : LeafFails m ≡ LeafFails n =
    the_verdict inst text cert other verdict (LeafFails m) audited text_of first ∙ is in cc
