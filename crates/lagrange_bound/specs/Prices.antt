-- Price lists: two prices for each resource and period, one on its upper and one on its lower limit, a tail or none for
-- each period, and prices on exclusions in periods of their seasons.
use Rattle.std.specs.Prelude.{◌≡◌, ℕ, ◌+◌, ◌-◌, ◌*◌, ◌<◌, ◌≤◌, Bool, ◌&&◌, List, [], ◌∷◌, length, Option, Some, None}
use Rattle.std.specs.Prelude.{All, AllPairs, IsTrue, ◌⊎◌, slice_index, slice_index_or, ◌==◌, if◌then◌else◌, replicate}
use Rattle.std.specs.List.{AllByRecursion}
use Rattle.instance_model.specs.Tables.{Tables, scenarios_of, rank_of, in_season_of, exclusion_of}
use Rattle.lagrange_bound.specs.declared.tail.Tail.{Tail}
use Rattle.lagrange_bound.specs.declared.ex_price.ExPrice.{ExPrice}
use Rattle.lagrange_bound.specs.Least.{AscendAbove}

-- a price list: up and lo by resource, then period, the tails by period, and the prices of exclusions that aren't 0
pub record PriceList : Type 0 where
  pub up : List ℕ
  pub lo : List ℕ
  pub tails : List (Option Tail)
  pub ex : List ExPrice

-- the price on the upper limit of resource c in period t
abbrev pub up_of : Tables → PriceList → ℕ → ℕ → ℕ
up_of inst prices c t = slice_index prices.up (c * inst.periods + (t - 1))

-- the price on the lower limit
abbrev pub lo_of : Tables → PriceList → ℕ → ℕ → ℕ
lo_of inst prices c t = slice_index prices.lo (c * inst.periods + (t - 1))

-- the tail of period t
abbrev pub tail_of : PriceList → ℕ → Option Tail
tail_of prices t = slice_index_or prices.tails (t - 1) None

-- a price is that of exclusion e in period t
abbrev pub is_price_of : ℕ → ℕ → ExPrice → Bool
is_price_of e t x = (x.exclusion == e) && (x.period == t)

-- the price of exclusion e in period t: 0 where the list has none
unfoldable pub ex_of : List ExPrice → ℕ → ℕ → ℕ
ex_of [] e t = 0
ex_of (x ∷ xs) e t = if is_price_of e t x then x.value else ex_of xs e t

-- ---- in range

-- a tail that period t may have: a weight in thousandths, and at least n - k + 1 of its n
-- scenarios, where k is the rank of the quantile
pub record IsTail (inst : Tables) (t : ℕ) (tail : Tail) : Type 0 where
  pub some_weight : 1 ≤ tail.weight
  pub weight : tail.weight ≤ 1000
  pub enough : scenarios_of inst t + 1 ≤ length tail.places + rank_of inst t
  pub ascend : AscendAbove 0 tail.places
  pub within : All (λ k. k ≤ scenarios_of inst t) tail.places

-- a price that isn't 0, of an exclusion in a period of its season
pub record IsExPrice (inst : Tables) (x : ExPrice) : Type 0 where
  pub number : x.exclusion < length inst.exclusion_names
  pub from : 1 ≤ x.period
  pub to : x.period ≤ inst.periods
  pub season : IsTrue (in_season_of inst (exclusion_of inst x.exclusion).season x.period)
  pub some : 1 ≤ x.value
  pub small : x.value ≤ 1_000_000_000

-- by exclusion, then period
abbrev pub ExBefore : ExPrice → ExPrice → Type 0
ExBefore a b = (a.exclusion < b.exclusion) ⊎ ((a.exclusion ≡ b.exclusion) × (a.period < b.period))

-- the list is in range for the instance
pub record IsPriceList (inst : Tables) (prices : PriceList) : Type 0 where
  pub up_each : length prices.up ≡ length inst.resource_names * inst.periods
  pub lo_each : length prices.lo ≡ length inst.resource_names * inst.periods
  pub up_small : All (λ v. v ≤ 1_000_000_000) prices.up
  pub lo_small : All (λ v. v ≤ 1_000_000_000) prices.lo
  pub tails_each : length prices.tails ≡ inst.periods
  pub tails : (t : ℕ) → 1 ≤ t → t ≤ inst.periods → (tail : Tail) → tail_of prices t ≡ Some tail → IsTail inst t tail
  pub ex : AllByRecursion (IsExPrice inst) prices.ex
  pub ex_ascend : AllPairs ExBefore prices.ex

-- the list of zeros, without tails
unfoldable pub zero_list : Tables → PriceList
zero_list inst =
    record {
      up = replicate (length inst.resource_names * inst.periods) 0;
      lo = replicate (length inst.resource_names * inst.periods) 0;
      tails = replicate inst.periods None;
      ex = [];
    }
