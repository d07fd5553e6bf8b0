-- `check` accepts each valid certificate whose text is within the limit of certificate files.
use Rattle.std.proofs.Common.{◌≡◌, ℕ, refl, None}
use Rattle.instance_model.specs.declared.limits.Limits.{Limits}
use Rattle.instance_model.specs.Tables.{Tables}
use Rattle.instance_model.specs.Fitting.{IsFitting}
use Rattle.instance_model.specs.Exact.{CostIsJustAboveScore}
use Rattle.lagrange_bound.specs.Goals.{risk_value}
use Rattle.certificate_tree.specs.Validity.{Claim, IsProved, IsFirstUnproved}
use Rattle.certificate_tree.specs.Laws.{ProvedBoundsPlans, NodesAreOneTree}
use Rattle.certificate_check.specs.declared.verdict.CertVerdict.TheVariants.{Valid, LeafFails}
use Rattle.certificate_check.proofs.VerdictLemmas.{one_verdict}
use Rattle.command_frame.specs.Files.OnFile.{stands}
use Rattle.command_frame.specs.Kinds.{CertificateKind, IsLawfulClaim, IsLawfulKind}
use Rattle.command_answers.specs.Check.{IsAcceptedClaim}
use Rattle.command_answers.specs.Check.ChecksClaim.{accepted}
use Rattle.command_answers.proofs.BoundLemmas.{bounds_every}
use Rattle.command_answers.specs.Accepting.{ValidWithinIsAcceptableBy}

module _ (inst : Tables) (fit : IsFitting inst) (costs : CostIsJustAboveScore inst) (one : NodesAreOneTree)
    (law : ProvedBoundsPlans) where
  none_fails : (claim : Claim) → IsProved risk_value inst claim → (n : ℕ) → IsFirstUnproved risk_value inst claim n → ⊥
  none_fails claim valid n first = never (one_verdict one risk_value inst claim Valid (LeafFails n) valid first)
    where
      never : LeafFails n ≡ Valid → ⊥
      never e = cc

  is_accepted : (claim : Claim) → IsLawfulClaim inst claim → IsProved risk_value inst claim
      → IsAcceptedClaim inst None claim
  is_accepted claim lawful valid = record {
    valid = valid;
    holds = none_fails claim valid;
    bounds = bounds_every inst claim.bound (law risk_value inst claim fit lawful.boxes valid);
    costs = costs;
    keeps = tt;
  }

  pub acceptable : {C : Type 0} (kind : CertificateKind C) → IsLawfulKind kind inst
      → ValidWithinIsAcceptableBy kind inst
  acceptable kind lawful limits cert good =
      let all = is_accepted (kind.claim inst cert) (lawful.claims cert good.in_range) good.valid in
      let text = lawful.told limits cert good.in_range good.within in
      record {
        checkable = record {
          in_range = good.in_range;
          accepted = stands (kind.text inst cert) cert _ refl text (accepted all);
          bounds = all.bounds;
        };
        accepted = all;
      }
