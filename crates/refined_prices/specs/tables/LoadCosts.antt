-- What the prices on the limits of a resource in a period add for a load.
use Rattle.std.specs.Prelude.{ℕ, ℤ, pos, ◌-ℤ◌, ◌*ℤ◌, if◌then◌else◌}
use Rattle.std.specs.Int.{int_min}
use Rattle.instance_model.specs.Tables.{Tables}
use Rattle.lagrange_bound.specs.Prices.{up_of, lo_of}
use Rattle.refined_prices.specs.Caps.{cap_of}
use Rattle.refined_prices.specs.RefinedLists.{RefinedList}

-- the load pays the price on the upper limit, and gets the one on the lower limit, up to the cap where caps count
unfoldable pub load_share : Tables → RefinedList → ℕ → ℕ → ℤ → ℤ
load_share inst list c t load =
    (pos (up_of inst list.prices c t) *ℤ load)
    -ℤ (pos (lo_of inst list.prices c t) *ℤ (if list.capped then int_min load (cap_of inst c t) else load))
