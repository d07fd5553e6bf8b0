-- The laws of certificates by refined price lists.
use Rattle.std.specs.Prelude.{List, length, All}
use Rattle.instance_model.specs.Tables.{Tables}
use Rattle.instance_model.specs.Fitting.{IsFitting}
use Rattle.lagrange_bound.specs.Goals.{risk_value}
use Rattle.certificate_tree.specs.Validity.{BoundBoxes, BoundsPlans}
use Rattle.refined_prices.specs.RefinedLists.{RefinedList, IsRefinedList}
use Rattle.refined_check.specs.declared.certificate.certificate.RefinedCertificate.{RefinedCertificate}
use Rattle.refined_check.specs.certificate.Ranges.{IsRefinedInRange}
use Rattle.refined_check.specs.Worths.{refined_worths}
use Rattle.refined_check.specs.Validity.{IsRefinedValid}

-- no feasible plan in a box scores below a worth of the box by refined price lists in range
abbrev pub RefinedListsBoundBoxes : Type 0
RefinedListsBoundBoxes =
    (inst : Tables) (lists : List RefinedList) → IsFitting inst → All (IsRefinedList inst) lists
    → BoundBoxes risk_value inst (length lists) (refined_worths inst lists)

-- a valid certificate in range bounds the score of every feasible plan
abbrev pub RefinedValidBoundsPlans : Type 0
RefinedValidBoundsPlans = (inst : Tables) (cert : RefinedCertificate) → IsFitting inst → IsRefinedInRange inst cert
    → IsRefinedValid inst cert → BoundsPlans risk_value inst cert.bound
