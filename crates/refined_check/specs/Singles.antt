-- A price list as a refined one: each tail as groups of one scenario, without caps, offsets and cliques.
use Rattle.std.specs.Prelude.{◌≡◌, ℕ, false, List, [], ◌∷◌, map, None, option_map, replicate}
use Rattle.instance_model.specs.Tables.{Tables}
use Rattle.lagrange_bound.specs.declared.tail.Tail.{Tail}
use Rattle.lagrange_bound.specs.Prices.{PriceList, IsPriceList}
use Rattle.lagrange_bound.specs.Goals.{risk_base}
use Rattle.lagrange_bound.specs.Worth.{price_of, fixed_part}
use Rattle.refined_prices.specs.declared.member.Member.{Member}
use Rattle.refined_prices.specs.declared.group_tail.GroupTail.{GroupTail}
use Rattle.refined_prices.specs.RefinedLists.{RefinedList, IsRefinedList}
use Rattle.refined_prices.specs.RefinedWorth.{refined_price, refined_constant}

-- a group of one scenario
abbrev pub single : ℕ → ℕ → List Member
single weight k = (record { scenario = k; weight = weight }) ∷ []

-- the scenarios of a tail as groups of one scenario each
abbrev pub singles_of : Tail → GroupTail
singles_of tail = record { weight = tail.weight; groups = map (single tail.weight) tail.places }

-- the refined list of a price list
abbrev pub refined_of : Tables → PriceList → RefinedList
refined_of inst prices =
    record {
      prices = record prices { tails = replicate inst.periods None };
      capped = false;
      tails = map (option_map singles_of) prices.tails;
      offsets = [];
      cliques = [];
    }

-- it is in range, and has the same price at each start and the same constant
pub record IsSameList (inst : Tables) (prices : PriceList) (list : RefinedList) : Type 0 where
  pub in_range : IsRefinedList inst list
  pub prices_same : (i s : ℕ) → refined_price inst list i s ≡ price_of (risk_base inst prices) inst prices i s
  pub constant_same : refined_constant inst list ≡ fixed_part inst prices

-- that is so of each price list in range
abbrev pub PriceListsAreRefined : Type 0
PriceListsAreRefined =
    (inst : Tables) (prices : PriceList) → IsPriceList inst prices → IsSameList inst prices (refined_of inst prices)
