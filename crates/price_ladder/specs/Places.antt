-- The numbers of a price list, by their places.
use Rattle.std.specs.Prelude.{◌≡◌, ℕ}
use Rattle.instance_model.specs.Tables.{Tables}
use Rattle.lagrange_bound.specs.Prices.{PriceList, up_of, lo_of, ex_of}
use Rattle.lagrange_bound.specs.Changes.{with_up, with_lo, IsExSet, IsBandPlace, IsExPlace}
use Rattle.price_ladder.specs.declared.place.Place.{Place}
use Rattle.price_ladder.specs.declared.place.Place.TheVariants.{Upper, Lower, Excluded}

-- a place of the instance: a resource and a period, or an exclusion and a period of its season
abbrev pub IsPlace : Tables → Place → Type 0
IsPlace inst (Upper c t) = IsBandPlace inst c t
IsPlace inst (Lower c t) = IsBandPlace inst c t
IsPlace inst (Excluded e t) = IsExPlace inst e t

-- the number that a list has at a place
abbrev pub value_at : Tables → PriceList → Place → ℕ
value_at inst prices (Upper c t) = up_of inst prices c t
value_at inst prices (Lower c t) = lo_of inst prices c t
value_at inst prices (Excluded e t) = ex_of prices.ex e t

-- new is old with v at a place
abbrev pub IsWithValue : Tables → PriceList → PriceList → Place → ℕ → Type 0
IsWithValue inst old new (Upper c t) v = new ≡ with_up inst old c t v
IsWithValue inst old new (Lower c t) v = new ≡ with_lo inst old c t v
IsWithValue inst old new (Excluded e t) v = IsExSet old new e t v
