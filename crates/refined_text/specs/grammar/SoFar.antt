-- Refined price lists as far as their entries have been read.
use Rattle.std.specs.Prelude.{◌≡◌, ℕ, ◌<◌, ◌≤◌, false, [], length, Some, None, All, AllPairs, replicate}
use Rattle.std.specs.List.{AllByRecursion}
use Rattle.instance_model.specs.Tables.{Tables, scenarios_of}
use Rattle.lagrange_bound.specs.Prices.{PriceList, IsPriceList}
use Rattle.refined_prices.specs.declared.group_tail.GroupTail.{GroupTail}
use Rattle.refined_prices.specs.Groups.{IsGroup, AreDisjoint}
use Rattle.refined_prices.specs.Offsets.{group_tail_at, IsOffset, OffsetBefore}
use Rattle.refined_prices.specs.Cliques.{IsPricedClique, CliqueBefore}
use Rattle.refined_prices.specs.RefinedLists.{RefinedList}
use Rattle.certificate_text.specs.Grammar.{EntryKey}
use Rattle.certificate_text.specs.Entries.{IsUpTo}
use Rattle.refined_check.specs.certificate.Orders.{GroupBefore}
use Rattle.refined_text.specs.grammar.Further.{Further, HasEnough}

-- a list, by what was read of it
abbrev pub list_of : PriceList → Further → RefinedList
list_of prices further =
    record {
      prices = prices;
      capped = further.capped;
      tails = further.tails;
      offsets = further.offsets;
      cliques = further.cliques;
    }

-- a tail of period t that may have more groups to come
pub record IsPartTail (inst : Tables) (t : ℕ) (tail : GroupTail) : Type 0 where
  pub some_weight : 1 ≤ tail.weight
  pub small_weight : tail.weight ≤ 1000
  pub groups : All (IsGroup (scenarios_of inst t) tail.weight) tail.groups
  pub apart : AllPairs AreDisjoint tail.groups
  pub order : AllPairs GroupBefore tail.groups

-- the entries so far, the last price of a limit or an exclusion with this key
pub record IsSoFar (inst : Tables) (priced : PriceList) (further : Further) (last : EntryKey) : Type 0 where
  pub prices : IsPriceList inst priced
  pub no_tails : priced.tails ≡ replicate inst.periods None
  pub up_to : IsUpTo inst priced last
  pub no_cap : further.kind ≡ 0 → further.capped ≡ false
  pub no_period : further.kind ≤ 1 → further.period ≡ 0
  pub to : further.period ≤ inst.periods
  pub tails_each : length further.tails ≡ inst.periods
  pub later : (t : ℕ) → further.period < t → group_tail_at further.tails t ≡ None
  pub tails : (t : ℕ) → 1 ≤ t → t ≤ inst.periods → (tail : GroupTail) → group_tail_at further.tails t ≡ Some tail
      → IsPartTail inst t tail
  pub enough : (t : ℕ) → 1 ≤ t → t < further.period → HasEnough inst further.tails t
  pub no_offsets : further.kind ≤ 2 → further.offsets ≡ []
  pub offsets : AllByRecursion (IsOffset inst further.tails) further.offsets
  pub offsets_ascend : AllPairs OffsetBefore further.offsets
  pub no_cliques : further.kind ≤ 3 → further.cliques ≡ []
  pub few_cliques : length further.cliques ≤ 4096
  pub cliques : AllByRecursion (IsPricedClique inst) further.cliques
  pub cliques_ascend : AllPairs CliqueBefore further.cliques
  pub members : All (λ x. 2 ≤ length x.members) further.cliques
