-- The tables of refined price lists, by number.
use Rattle.std.proofs.Common.{◌≡◌, ℕ, ◌+◌, ◌<◌, ◌∙◌, ap, List, length, get_or, add-one}
use Rattle.std.proofs.lemmas.List.{get_or_default}
use Rattle.instance_model.specs.Tables.{Tables}
use Rattle.lagrange_bound.specs.declared.span.Span.{Span}
use Rattle.lagrange_bound.specs.Prices.{PriceList, zero_list}
use Rattle.lagrange_bound.specs.Goals.{risk_base}
use Rattle.lagrange_bound.specs.Boxes.{IsBox, HasStarts}
use Rattle.lagrange_bound.specs.Worth.{worth_of}
use Rattle.lagrange_bound.specs.Pricings.{Pricing, pricing_worth}
use Rattle.lagrange_bound.specs.Tabulated.{PriceRows, worth_in}
use Rattle.lagrange_bound.specs.PricedTables.{IsPricingTable}
use Rattle.certificate_tree.proofs.TableLemmas.{GivesWorths}
use Rattle.refined_prices.specs.RefinedLists.{RefinedList, zero_refined}
use Rattle.refined_prices.specs.RefinedWorth.{refined_pricing}
use Rattle.refined_check.specs.Worths.{refined_pricing_at, refined_worths}

-- the worths by list 0, by what is known of the table of a price list
pub zero_worths : (inst : Tables) (lists : List RefinedList) (prices : PriceList) (table : PriceRows)
    → prices ≡ zero_list inst
    → ((box : List Span) → IsBox inst box → HasStarts inst box
    → worth_in table box ≡ worth_of (risk_base inst prices) inst prices box)
    → GivesWorths inst (refined_worths inst lists) 0 table
unfolding refined_pricing_at worth_of pricing_worth
zero_worths inst lists prices table e h box b s =
    h box b s ∙ ap (λ (p : PriceList). worth_of (risk_base inst p) inst p box) e

-- those by the next list
list_more : (inst : Tables) (lists : List RefinedList) (k : ℕ) (list : RefinedList) → k < length lists
    → list ≡ get_or lists k list → refined_pricing inst list ≡ refined_pricing_at inst lists (k + 1)
unfolding refined_pricing_at
list_more inst lists k list l e =
    rw (add-one k) (ap (refined_pricing inst) (e ∙ get_or_default lists k list (zero_refined inst) l))

pub list_worths : (inst : Tables) (lists : List RefinedList) (k : ℕ) (list : RefinedList) (table : PriceRows)
    → k < length lists → list ≡ get_or lists k list → IsPricingTable inst (refined_pricing inst list) table
    → GivesWorths inst (refined_worths inst lists) (k + 1) table
list_worths inst lists k list table l e t box b s =
    t.worths box b s ∙ ap (λ (pricing : Pricing). pricing_worth inst pricing box) (list_more inst lists k list l e)
