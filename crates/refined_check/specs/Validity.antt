-- What a certificate by refined price lists claims, when it is valid, which leaf is the first that doesn't hold, and the
-- verdict.
use Rattle.std.specs.Prelude.{ℕ, length}
use Rattle.instance_model.specs.Tables.{Tables}
use Rattle.lagrange_bound.specs.Goals.{risk_value}
use Rattle.certificate_tree.specs.Validity.{Claim, IsProved, IsFirstUnproved}
use Rattle.certificate_check.specs.declared.verdict.CertVerdict.{CertVerdict}
use Rattle.certificate_check.specs.Verdicts.{IsVerdictOn}
use Rattle.refined_check.specs.declared.certificate.certificate.RefinedCertificate.{RefinedCertificate}
use Rattle.refined_check.specs.Worths.{refined_worths}

-- its bound, the worths by its lists, and its nodes
abbrev pub refined_claim : Tables → RefinedCertificate → Claim
refined_claim inst cert =
    record {
      bound = cert.bound;
      lists = length cert.lists;
      worths = refined_worths inst cert.lists;
      nodes = cert.nodes;
    }

-- it is valid where its claim is proved for the score
abbrev pub IsRefinedValid : Tables → RefinedCertificate → Type 0
IsRefinedValid inst cert = IsProved risk_value inst (refined_claim inst cert)

-- leaf n is the first of its leaves that doesn't hold
abbrev pub IsRefinedFirstFailing : Tables → RefinedCertificate → ℕ → Type 0
IsRefinedFirstFailing inst cert = IsFirstUnproved risk_value inst (refined_claim inst cert)

-- the verdict on a certificate: it is valid, or leaf n is the first that doesn't hold
abbrev pub IsRefinedVerdict : Tables → RefinedCertificate → CertVerdict → Type 0
IsRefinedVerdict inst cert = IsVerdictOn risk_value inst (refined_claim inst cert)
