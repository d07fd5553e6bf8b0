-- What is kept beside a price list. Cited by private functions only: no part of any promise.
use Rattle.std.specs.Prelude.{◌≡◌, ℕ, ◌+◌, ◌-◌, ◌*◌, ◌<◌, ◌^◌, ℤ, pos, ◌+ℤ◌, ◌-ℤ◌, ◌*ℤ◌, ◌≤ℤ◌, List, length, IsTrue}
use Rattle.std.specs.Prelude.{slice_index}
use Rattle.std.specs.Prelude.{slice_index_or, unsigned_abs, if◌then◌else◌}
use Rattle.fixed_num.specs.Sums.{sum_below}
use Rattle.instance_model.specs.Tables.{Tables, is_allowed, in_run}
use Rattle.instance_model.specs.Plans.{AreAllowedStarts}
use Rattle.lagrange_bound.specs.Prices.{PriceList}
use Rattle.lagrange_bound.specs.Goals.{risk_base}
use Rattle.lagrange_bound.specs.Worth.{fixed_part}
use Rattle.price_ladder.specs.declared.place.Place.{Place}
use Rattle.price_ladder.specs.Raised.{root_worth}
use Rattle.price_ladder.specs.Weights.{price_at, weight_of, fixed_weight}

-- the number that is kept for start s of intervention i: by intervention, then start
abbrev pub kept_at : Tables → List ℤ → ℕ → ℕ → ℤ
kept_at inst entries i s = slice_index_or entries (i * inst.periods + (s - 1)) (pos 0)

-- the numbers that are kept for allowed starts are those of f
pub record AreValues (inst : Tables) (f : ℕ → ℕ → ℤ) (entries : List ℤ) : Type 0 where
  pub each : length entries ≡ length inst.names * inst.periods
  pub at : (i s : ℕ) → i < length inst.names → IsTrue (is_allowed inst i s) → kept_at inst entries i s ≡ f i s

-- the numbers that are kept for allowed starts are small
pub record AreSmall (inst : Tables) (bound : ℕ) (entries : List ℤ) : Type 0 where
  pub each : length entries ≡ length inst.names * inst.periods
  pub at : (i s : ℕ) → i < length inst.names → IsTrue (is_allowed inst i s)
      → unsigned_abs (kept_at inst entries i s) < bound

-- the bases of allowed starts are small
pub record AreSmallBases (inst : Tables) (prices : PriceList) : Type 0 where
  pub small : (i s : ℕ) → i < length inst.names → IsTrue (is_allowed inst i s)
      → unsigned_abs (risk_base inst prices i s) < 10 ^ 30

-- a kept number with times more of the number at a place
abbrev pub more_of : Tables → Place → ℤ → List ℤ → ℕ → ℕ → ℤ
more_of inst place times entries i s = kept_at inst entries i s +ℤ times *ℤ weight_of inst place i s

-- a kept number with another base in it
abbrev pub shifted_of : Tables → List ℤ → List ℤ → List ℤ → ℕ → ℕ → ℤ
shifted_of inst before after entries i s =
    kept_at inst entries i s +ℤ (kept_at inst after i s -ℤ kept_at inst before i s)

-- the base of a start that runs in period t, or the kept one
unfoldable pub rebased_of : Tables → PriceList → ℕ → List ℤ → ℕ → ℕ → ℤ
rebased_of inst prices t bases i s = if in_run inst i s t then risk_base inst prices i s else kept_at inst bases i s

-- how far that is above the kept one
abbrev pub gap_of : Tables → PriceList → ℕ → List ℤ → ℕ → ℕ → ℤ
gap_of inst prices t bases i s = rebased_of inst prices t bases i s -ℤ kept_at inst bases i s

-- each is an allowed start whose kept number is least
pub record AreLeast (inst : Tables) (entries : List ℤ) (choice : List ℕ) : Type 0 where
  pub starts : AreAllowedStarts inst choice
  pub least : (i s : ℕ) → i < length inst.names → IsTrue (is_allowed inst i s)
      → kept_at inst entries i (slice_index choice i) ≤ℤ kept_at inst entries i s

-- a start of intervention i, whose kept number is least
pub record IsLeastStart (inst : Tables) (entries : List ℤ) (i s : ℕ) : Type 0 where
  pub allowed : IsTrue (is_allowed inst i s)
  pub least : (u : ℕ) → IsTrue (is_allowed inst i u) → kept_at inst entries i s ≤ℤ kept_at inst entries i u

-- the sum of f over one start for each intervention
unfoldable pub sum_over : Tables → (ℕ → ℕ → ℤ) → List ℕ → ℤ
sum_over inst f choice = sum_below (length inst.names) (λ i. f i (slice_index choice i))

-- what one more of the number at a place adds to the sum of the prices of these starts, and of what is fixed
unfoldable pub slope_of : Tables → Place → List ℕ → ℤ
slope_of inst place choice = sum_over inst (weight_of inst place) choice +ℤ fixed_weight inst place

-- what is kept beside a list: the prices of all allowed starts, one of least price for each intervention, what the
-- prices add whatever the starts are, and the worth
pub record IsKept (inst : Tables) (prices : PriceList) (entries : List ℤ) (choice : List ℕ) (fixed worth : ℤ)
    : Type 0 where
  pub values : AreValues inst (price_at inst prices) entries
  pub bases : AreSmallBases inst prices
  pub starts : AreAllowedStarts inst choice
  pub part : fixed ≡ fixed_part inst prices
  pub total : worth ≡ root_worth inst prices
  pub picked : worth ≡ sum_over inst (price_at inst prices) choice +ℤ fixed_part inst prices
  pub small : unsigned_abs worth < 10 ^ 37
