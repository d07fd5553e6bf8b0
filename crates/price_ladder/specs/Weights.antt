-- What one more of a number at a place adds. Cited by private functions only: no part of any promise.
use Rattle.std.specs.Prelude.{ℕ, ◌*◌, ℤ, pos, ◌-ℤ◌, Some, if◌then◌else◌}
use Rattle.instance_model.specs.Tables.{Tables, in_run, upper_of, lower_of, exclusion_of}
use Rattle.instance_model.specs.Plans.{load_at}
use Rattle.lagrange_bound.specs.Prices.{PriceList}
use Rattle.lagrange_bound.specs.Goals.{risk_base}
use Rattle.lagrange_bound.specs.Worth.{times_named, price_of}
use Rattle.price_ladder.specs.declared.place.Place.{Place}
use Rattle.price_ladder.specs.declared.place.Place.TheVariants.{Upper, Lower, Excluded}

-- the price of a start by the goal of the score
abbrev pub price_at : Tables → PriceList → ℕ → ℕ → ℤ
price_at inst prices i s = price_of (risk_base inst prices) inst prices i s

-- how often a price of exclusion e in period t counts at a start
unfoldable pub times_at : Tables → ℕ → ℕ → ℕ → ℕ → ℕ
times_at inst e t i s = if in_run inst i s t then times_named (exclusion_of inst e) i else 0

-- what one more adds to the price of a start
unfoldable pub weight_of : Tables → Place → ℕ → ℕ → ℤ
weight_of inst (Upper c t) i s = load_at inst c t i (Some s)
weight_of inst (Lower c t) i s = pos 0 -ℤ load_at inst c t i (Some s)
weight_of inst (Excluded e t) i s = pos (1_000_000_000_000 * times_at inst e t i s)

-- what one more adds whatever the starts are
unfoldable pub fixed_weight : Tables → Place → ℤ
fixed_weight inst (Upper c t) = pos 0 -ℤ upper_of inst c t
fixed_weight inst (Lower c t) = lower_of inst c t
fixed_weight inst (Excluded e t) = pos 0 -ℤ pos 1_000_000_000_000
