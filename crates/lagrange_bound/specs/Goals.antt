-- What a goal gives: a value for each plan of allowed starts, and a base for each price list, intervention and start.
use Rattle.std.specs.Prelude.{ℕ, ◌<◌, ◌^◌, ◌≤ℤ◌, ℤ, List, length, map, Some, slice_index, IsTrue, unsigned_abs}
use Rattle.fixed_num.specs.Sums.{sum_below}
use Rattle.instance_model.specs.Tables.{Tables, is_allowed}
use Rattle.instance_model.specs.Fitting.{IsFitting}
use Rattle.instance_model.specs.Plans.{AreAllowedStarts}
use Rattle.instance_model.specs.Values.{score_of}
use Rattle.lagrange_bound.specs.Prices.{PriceList, IsPriceList, tail_of}
use Rattle.lagrange_bound.specs.Bases.{base_of}

-- a base for each price list, intervention and start
abbrev pub Bases : Type 0
Bases = Tables → PriceList → ℕ → ℕ → ℤ

-- a value for each plan, given by its starts
abbrev pub PlanValue : Type 0
PlanValue = Tables → List ℕ → ℤ

-- the law of a goal: whatever the prices are, the bases of a plan's starts add up to at most its value
abbrev pub BasesBoundValue : Bases → PlanValue → Type 0
BasesBoundValue base value =
    (inst : Tables) (prices : PriceList) (starts : List ℕ) → IsFitting inst → IsPriceList inst prices
    → AreAllowedStarts inst starts
    → sum_below (length inst.names) (λ i. base inst prices i (slice_index starts i)) ≤ℤ value inst starts

-- the bases of allowed starts are small, whatever the prices in range are
abbrev pub BasesAreSmall : Bases → Type 0
BasesAreSmall base =
    (inst : Tables) (prices : PriceList) (i s : ℕ) → IsFitting inst → IsPriceList inst prices → i < length inst.names
    → IsTrue (is_allowed inst i s) → unsigned_abs (base inst prices i s) < 10 ^ 30

-- the values of plans of allowed starts are small
abbrev pub ValuesAreSmall : PlanValue → Type 0
ValuesAreSmall value =
    (inst : Tables) (starts : List ℕ) → IsFitting inst → AreAllowedStarts inst starts
    → unsigned_abs (value inst starts) < 10 ^ 36

-- the bases of the goal of the score
abbrev pub risk_base : Bases
risk_base inst prices i s = base_of inst (tail_of prices) i s

-- the score, in parts of 10^-18
abbrev pub risk_value : PlanValue
risk_value inst starts = score_of inst (map Some starts)
