-- Price lists that are changed in one place.
use Rattle.std.specs.Prelude.{◌≡◌, ℕ, ◌+◌, ◌-◌, ◌*◌, ◌<◌, ◌≤◌, ◌&&◌, Option, length, IsTrue, slice_set, ◌==◌}
use Rattle.std.specs.Prelude.{if◌then◌else◌}
use Rattle.instance_model.specs.Tables.{Tables, in_season_of, exclusion_of}
use Rattle.lagrange_bound.specs.declared.tail.Tail.{Tail}
use Rattle.lagrange_bound.specs.Prices.{PriceList, ex_of}

-- the list with another price on the upper limit of resource c in period t
abbrev pub with_up : Tables → PriceList → (c t v : ℕ) → PriceList
with_up inst prices c t v = record prices { up = slice_set prices.up (c * inst.periods + (t - 1)) v }

-- the list with another price on the lower limit
abbrev pub with_lo : Tables → PriceList → (c t v : ℕ) → PriceList
with_lo inst prices c t v = record prices { lo = slice_set prices.lo (c * inst.periods + (t - 1)) v }

-- the list with another tail of period t
abbrev pub with_tail : PriceList → ℕ → Option Tail → PriceList
with_tail prices t tail = record prices { tails = slice_set prices.tails (t - 1) tail }

-- new is old with another price of exclusion e in period t
pub record IsExSet (old new : PriceList) (e t v : ℕ) : Type 0 where
  pub up : new.up ≡ old.up
  pub lo : new.lo ≡ old.lo
  pub tails : new.tails ≡ old.tails
  pub ex : (d u : ℕ) → ex_of new.ex d u ≡ (if (d == e) && (u == t) then v else ex_of old.ex d u)

-- c is a resource and t a period
pub record IsBandPlace (inst : Tables) (c t : ℕ) : Type 0 where
  pub resource : c < length inst.resource_names
  pub from : 1 ≤ t
  pub to : t ≤ inst.periods

-- e is an exclusion and t a period of its season
pub record IsExPlace (inst : Tables) (e t : ℕ) : Type 0 where
  pub number : e < length inst.exclusion_names
  pub from : 1 ≤ t
  pub to : t ≤ inst.periods
  pub season : IsTrue (in_season_of inst (exclusion_of inst e).season t)
