-- What the steps of a certificate that is made come to. Cited by private functions only: no part of any promise.
use Rattle.std.specs.Prelude.{◌≡◌, ◌⊎◌, ℕ, ◌<◌, ◌≤◌, ◌+◌, ◌-◌, ◌*◌, ℤ, List, [], ◌∷◌, ◌++◌, length, get_or, map, All}
use Rattle.std.specs.Prelude.{Any}
use Rattle.std.specs.Prelude.{Option, Some, None}
use Rattle.std.specs.List.{range_with_len}
use Rattle.instance_model.specs.Tables.{Tables}
use Rattle.instance_model.specs.Plans.{AreAllowedStarts}
use Rattle.lagrange_bound.specs.Tabulated.{PriceRows}
use Rattle.certificate_lines.specs.declared.line.Bound.TheVariants.{NoPlan}
use Rattle.certificate_tree.specs.Trees.{Tree}
use Rattle.certificate_tree.specs.Ranges.{IsBoundInRange}
use Rattle.certificate_tree.specs.Validity.{IsTreeOfClaim, IsProved}
use Rattle.certificate_tree.specs.PriceTables.{table_worths, claim_by}
use Rattle.lagrange_bound.specs.Goals.{risk_value}
use Rattle.band_rebound.specs.declared.rebounded.ReboundTree.{ReboundTree}
use Rattle.band_rebound.specs.Rebinding.{IsNoLower}
use Rattle.refined_prices.specs.RefinedLists.{RefinedList, IsRefinedList, zero_refined}
use Rattle.refined_prices.specs.RefinedWorth.{refined_constant}
use Rattle.refined_prices.specs.tables.RefinedRows.{refined_row}
use Rattle.refined_check.specs.declared.certificate.certificate.RefinedCertificate.{RefinedCertificate}
use Rattle.refined_check.specs.certificate.Orders.{IsInOrder}
use Rattle.refined_search.specs.Alike.{PriceAlike, IsUnlike, AddUnlike}
use Rattle.refined_search.specs.Lists.{IsLadderPlan, HasRaised, short_searches}
use Rattle.refined_search.specs.Raising.{BeginsWith}

-- ---- lists

-- the entries of all interventions by a list
abbrev pub rows_of : Tables → RefinedList → List (List (Option ℤ))
rows_of inst list = map (refined_row inst list) (range_with_len 0 (length inst.names))

-- rows and a constant are those of a list
pub record AreRowsOf (inst : Tables) (list : RefinedList) (rows : List (List (Option ℤ))) (constant : ℤ) : Type 0 where
  pub rows_are : rows ≡ rows_of inst list
  pub constant_is : constant ≡ refined_constant inst list

-- lists that a certificate may have
pub record MayStand (inst : Tables) (lists : List RefinedList) : Type 0 where
  pub few : length lists ≤ 16
  pub in_range : All (IsRefinedList inst) lists
  pub in_order : All IsInOrder lists

-- the zeros or one of the old lists price alike with a list; or that list is behind the old ones, and prices otherwise
abbrev pub AddsOne : Tables → RefinedList → (old new : List RefinedList) → Type 0
AddsOne inst list old new =
    ((new ≡ old) × Any (λ other. PriceAlike inst other list) (zero_refined inst ∷ old))
    ⊎ ((new ≡ old ++ list ∷ []) × IsUnlike inst (zero_refined inst ∷ old) list)

-- lists that may stand, behind the old ones
pub record AddsSome (inst : Tables) (old new : List RefinedList) : Type 0 where
  pub may_stand : MayStand inst new
  pub more : List RefinedList
  pub behind : new ≡ old ++ more
  pub unlike : AddUnlike inst (zero_refined inst ∷ old) more

-- one list at most, as long as there are fewer than so many
pub record AddsAtMostOne (inst : Tables) (end : ℕ) (old new : List RefinedList) : Type 0 where
  pub adds : AddsSome inst old new
  pub one : length new ≤ length old + 1
  pub within : length new ≤ end

-- the one raised for a plan, if there was room
pub record AddsRaised (inst : Tables) (incumbent : Option (List ℕ)) (end : ℕ) (old new : List RefinedList)
    : Type 0 where
  pub adds : AddsAtMostOne inst end old new
  pub raised : length old < end → (starts : List ℕ) → IsLadderPlan inst incumbent starts → HasRaised inst starts new

-- lists for which there are turns
pub record AddsSearched (inst : Tables) (turns end : ℕ) (old new : List RefinedList) : Type 0 where
  pub adds : AddsSome inst old new
  pub within : length new ≤ end
  pub searched : (k : ℕ) → length old + k < length new → get_or short_searches k 0 * 4 ≤ turns

-- the same, as far as the short search at an index
pub record AddsSearchedTo (inst : Tables) (turns end index : ℕ) (old new : List RefinedList) : Type 0 where
  pub adds : AddsSome inst old new
  pub within : length new ≤ end
  pub counted : length new ≤ length old + index
  pub searched : (k : ℕ) → k < index → get_or short_searches k 0 * 4 ≤ turns

-- the plan that a list is raised for, or none where an intervention has no allowed start
abbrev pub FindsPlan : Tables → Option (List ℕ) → Option (List ℕ) → Type 0
FindsPlan inst incumbent None = (starts : List ℕ) → IsLadderPlan inst incumbent starts → ⊥
FindsPlan inst incumbent (Some starts) =
    AreAllowedStarts inst starts × ((other : List ℕ) → IsLadderPlan inst incumbent other → other ≡ starts)

-- ---- the tree

-- the tree that a search begins with: what it comes from, that it is in range, and that its bound is proved and no
-- lower than one that the old tree proves
pub record IsBegun (inst : Tables) (tables : List PriceRows) (cert : Option RefinedCertificate) (begun : ReboundTree)
    : Type 0 where
  pub begins : BeginsWith inst (length tables - 1) (table_worths tables) cert begun
  pub tree : (t : Tree) × IsTreeOfClaim inst (claim_by NoPlan tables begun.nodes) t
  pub no_lower : (old : RefinedCertificate) → cert ≡ Some old → IsBoundInRange old.bound
      → IsProved risk_value inst (claim_by old.bound tables old.nodes)
      → IsNoLower old.bound begun.bound × IsProved risk_value inst (claim_by begun.bound tables begun.nodes)
