-- The worths by refined price lists bound the scores of plans, and so does a valid certificate by them.
use Rattle.std.proofs.Common.{ℕ, zero, suc, ◌≤◌, arith, ◌≤ℤ◌, List, length, get_or, All}
use Rattle.instance_model.specs.Tables.{Tables}
use Rattle.instance_model.specs.Fitting.{IsFitting}
use Rattle.lagrange_bound.specs.declared.span.Span.{Span}
use Rattle.lagrange_bound.specs.Prices.{zero_list}
use Rattle.lagrange_bound.specs.Goals.{risk_base, risk_value}
use Rattle.lagrange_bound.specs.Boxes.{IsPlanIn}
use Rattle.lagrange_bound.specs.Pricings.{pricing_of, PricesAreLawful, LawfulWorthsBoundPlans}
use Rattle.lagrange_bound.proofs.PriceLemmas.{zero_in_range}
use Rattle.certificate_tree.specs.Laws.{ProvedBoundsPlans}
use Rattle.refined_prices.specs.RefinedLists.{RefinedList, IsRefinedList, zero_refined}
use Rattle.refined_prices.specs.RefinedWorth.{refined_pricing, RefinedListsAreLawful}
use Rattle.refined_check.specs.Worths.{refined_pricing_at, refined_worths}
use Rattle.refined_check.specs.Validity.{refined_claim}
use Rattle.refined_check.specs.Laws.{RefinedListsBoundBoxes, RefinedValidBoundsPlans}

-- no plan of a box scores below its worth, by any list of a certificate
worth_bounds : (inst : Tables) (lists : List RefinedList) (box : List Span) (starts : List ℕ) (j : ℕ)
    → PricesAreLawful risk_base risk_value → RefinedListsAreLawful → LawfulWorthsBoundPlans → IsFitting inst
    → All (IsRefinedList inst) lists → j ≤ length lists → IsPlanIn inst box starts
    → refined_worths inst lists box j ≤ℤ risk_value inst starts
unfolding refined_pricing_at
worth_bounds inst lists box starts zero lawful refined bounds f h l p =
    bounds risk_value inst (pricing_of (risk_base inst (zero_list inst)) inst (zero_list inst)) box starts
    (lawful inst (zero_list inst) f (zero_in_range inst)) p
worth_bounds inst lists box starts (suc j) lawful refined bounds f h l p =
    let list = get_or lists j (zero_refined inst) in
    bounds risk_value inst (refined_pricing inst list) box starts
    (refined inst list f (h j (zero_refined inst) (omega (arith, l)))) p

pub RefinedListsBoundBoxes-from : PricesAreLawful risk_base risk_value → RefinedListsAreLawful
    → LawfulWorthsBoundPlans → RefinedListsBoundBoxes
RefinedListsBoundBoxes-from lawful refined bounds inst lists f h box starts j l b p =
    worth_bounds inst lists box starts j lawful refined bounds f h l p

pub RefinedValidBoundsPlans-from : RefinedListsBoundBoxes → ProvedBoundsPlans → RefinedValidBoundsPlans
RefinedValidBoundsPlans-from boxes law inst cert f r v =
    law risk_value inst (refined_claim inst cert) f (boxes inst cert.lists f r.lists) v
