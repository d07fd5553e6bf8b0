-- What the checker says of a tree and of a certificate.
use Rattle.instance_model.specs.Tables.{Tables}
use Rattle.lagrange_bound.specs.Goals.{Bases, PlanValue}
use Rattle.certificate_tree.specs.declared.certificate.Certificate.{Certificate}
use Rattle.certificate_tree.specs.Validity.{Claim, claim_of, IsProved, IsFirstUnproved}
use Rattle.certificate_check.specs.declared.verdict.CertVerdict.{CertVerdict}
use Rattle.certificate_check.specs.declared.verdict.CertVerdict.TheVariants.{Valid, LeafFails}

-- the verdict on a claim: it is proved, or leaf n is the first that doesn't hold
abbrev pub IsVerdictOn : PlanValue → Tables → Claim → CertVerdict → Type 0
IsVerdictOn value inst claim Valid = IsProved value inst claim
IsVerdictOn value inst claim (LeafFails n) = IsFirstUnproved value inst claim n

-- the verdict on a certificate: it is valid, or leaf n is the first that doesn't hold
abbrev pub IsVerdict : Bases → PlanValue → Tables → Certificate → CertVerdict → Type 0
IsVerdict base value inst cert = IsVerdictOn value inst (claim_of base inst cert)
