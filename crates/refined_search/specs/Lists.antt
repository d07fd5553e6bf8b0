-- The price lists of a certificate that is made, or gone on with: those that it had, and more behind them.
use Rattle.std.specs.Prelude.{◌≡◌, ℕ, ◌+◌, ◌*◌, ◌<◌, ◌≤◌, ◌≤ℤ◌, List, [], ◌∷◌, ◌++◌, length, get_or, All, Any, cond}
use Rattle.std.specs.Prelude.{ltb}
use Rattle.std.specs.Prelude.{Option, Some, None}
use Rattle.instance_model.specs.Tables.{Tables}
use Rattle.instance_model.specs.Keys.{IsOpening}
use Rattle.lagrange_bound.specs.Prices.{PriceList}
use Rattle.price_ladder.specs.Raised.{IsRaised as IsRaisedFor, least_total, root_worth}
use Rattle.branch_search.specs.declared.part.Part.{Part}
use Rattle.refined_prices.specs.RefinedLists.{RefinedList, IsRefinedList, zero_refined}
use Rattle.refined_check.specs.declared.certificate.certificate.RefinedCertificate.{RefinedCertificate}
use Rattle.refined_check.specs.certificate.Orders.{IsInOrder}
use Rattle.refined_check.specs.Singles.{refined_of}
use Rattle.refined_search.specs.Alike.{PriceAlike, AddUnlike}

-- the lists of a certificate, if there is one
abbrev pub lists_of : Option RefinedCertificate → List RefinedList
lists_of None = []
lists_of (Some cert) = cert.lists

-- the plan that a price list is raised for: the one handed in, or else that of the least allowed starts
abbrev pub IsLadderPlan : Tables → Option (List ℕ) → List ℕ → Type 0
IsLadderPlan inst None starts = IsOpening inst starts
IsLadderPlan inst (Some plan) starts = starts ≡ plan

-- A price list that is raised for a plan. The box of all starts is worth no less by this list than by the zeros. This
-- list, or one that prices alike, is the list of zeros or stands among the lists.
pub record HasRaised (inst : Tables) (starts : List ℕ) (lists : List RefinedList) : Type 0 where
  pub prices : PriceList
  pub raised : IsRaisedFor inst starts prices
  pub not_below_zeros : least_total inst ≤ℤ root_worth inst prices
  pub among : Any (λ list. PriceAlike inst list (refined_of inst prices)) (zero_refined inst ∷ lists)

-- how many splits a short search makes before a list is raised over a box that the search leaves open: the first
-- search first
abbrev pub short_searches : List ℕ
short_searches =
    10 ∷ 15 ∷ 22 ∷ 33 ∷ 49 ∷ 73 ∷ 110 ∷ 165 ∷ 247 ∷ 370 ∷ 556 ∷ 834 ∷ 1251 ∷ 1877 ∷ []

-- How many lists may be added, of so many at most. The parts of one certificate have the lists of that certificate, so
-- that the parts can be joined.
abbrev pub most_added : Option RefinedCertificate → Part → ℕ → ℕ
most_added None part most = most
most_added (Some cert) part most = cond (ltb 1 part.count) 0 most

-- The lists begin with the old ones. Each further list prices otherwise than the zeros and than all lists before it.
-- There are so many further lists at most. Each one behind the first two takes a short search, which is a fourth of the
-- turns at most. If a list may be added, one that is raised for a plan is among the lists.
pub record AreListsFor (inst : Tables) (incumbent : Option (List ℕ)) (old : List RefinedList) (turns most : ℕ)
    (lists : List RefinedList) : Type 0 where
  pub few : length lists ≤ 16
  pub in_range : All (IsRefinedList inst) lists
  pub in_order : All IsInOrder lists
  pub more : List RefinedList
  pub behind : lists ≡ old ++ more
  pub unlike : AddUnlike inst (zero_refined inst ∷ old) more
  pub counted : length more ≤ most
  pub searched : (k : ℕ) → k + 2 < length more → get_or short_searches k 0 * 4 ≤ turns
  pub raised : length old < 16 → 1 ≤ most → (starts : List ℕ) → IsLadderPlan inst incumbent starts
      → HasRaised inst starts lists
