-- Refined price lists: prices on limits and exclusions, whether caps of lower limits count, tails by groups with
-- offsets, and cliques with their prices.
use Rattle.std.specs.Prelude.{◌≡◌, ℕ, ◌≤◌, Bool, true, List, [], length, Option, Some, None, AllPairs, replicate}
use Rattle.std.specs.List.{AllByRecursion}
use Rattle.instance_model.specs.Tables.{Tables, scenarios_of, rank_of}
use Rattle.lagrange_bound.specs.Prices.{PriceList, IsPriceList, zero_list}
use Rattle.refined_prices.specs.declared.group_tail.GroupTail.{GroupTail}
use Rattle.refined_prices.specs.declared.offset.Offset.{Offset}
use Rattle.refined_prices.specs.declared.clique.Clique.{Clique}
use Rattle.refined_prices.specs.Groups.{IsGroupTail}
use Rattle.refined_prices.specs.Offsets.{group_tail_at, IsOffset, OffsetBefore}
use Rattle.refined_prices.specs.Cliques.{IsPricedClique, CliqueBefore}

-- a refined price list: the tails by period, and the offsets that aren't 0
pub record RefinedList : Type 0 where
  pub prices : PriceList
  pub capped : Bool
  pub tails : List (Option GroupTail)
  pub offsets : List Offset
  pub cliques : List Clique

-- the list is in range for the instance; its prices on limits and exclusions have no tails of their own
pub record IsRefinedList (inst : Tables) (list : RefinedList) : Type 0 where
  pub prices : IsPriceList inst list.prices
  pub no_tails : list.prices.tails ≡ replicate inst.periods None
  pub tails_each : length list.tails ≡ inst.periods
  pub tails : (t : ℕ) → 1 ≤ t → t ≤ inst.periods → (tail : GroupTail) → group_tail_at list.tails t ≡ Some tail
      → IsGroupTail (scenarios_of inst t) (rank_of inst t) tail
  pub offsets : AllByRecursion (IsOffset inst list.tails) list.offsets
  pub offsets_ascend : AllPairs OffsetBefore list.offsets
  pub few_cliques : length list.cliques ≤ 4096
  pub cliques : AllByRecursion (IsPricedClique inst) list.cliques
  pub cliques_ascend : AllPairs CliqueBefore list.cliques

-- the list of zeros with caps, without tails, offsets and cliques
unfoldable pub zero_refined : Tables → RefinedList
zero_refined inst =
    record {
      prices = zero_list inst;
      capped = true;
      tails = replicate inst.periods None;
      offsets = [];
      cliques = [];
    }
