-- Changes against old starts, the goal of few changes, and what a bound on its values says of their number.
--
-- Old starts are a list of one start or none for each intervention; an intervention past its end has none.
use Rattle.std.specs.Prelude.{◌≡◌, ℕ, ◌*◌, ◌≤◌, ℤ, pos, ◌≤ℤ◌, Bool, true, not, ◌==◌, List, length, map, Option, Some}
use Rattle.std.specs.Prelude.{None, slice_index, if◌then◌else◌, unsigned_abs, ◌↔◌}
use Rattle.std.specs.Int.{int_max}
use Rattle.fixed_num.specs.Floors.{ceil_of}
use Rattle.fixed_num.specs.Sums.{sum_below}
use Rattle.instance_model.specs.Naturals.{count_sum}
use Rattle.instance_model.specs.Tables.{Tables}
use Rattle.instance_model.specs.Plans.{start_of}
use Rattle.lagrange_bound.specs.Prices.{PriceList}
use Rattle.lagrange_bound.specs.Goals.{Bases, PlanValue}

-- start s is not the old one; without an old start every start is a change
abbrev pub is_changed : Option ℕ → ℕ → Bool
is_changed None s = true
is_changed (Some r) s = not (r == s)

-- how many starts of a plan are changes
unfoldable pub changes_of : List (Option ℕ) → List ℕ → ℕ
changes_of old starts =
    count_sum (length starts) (λ i. if is_changed (start_of old i) (slice_index starts i) then 1 else 0)

-- the base of a start, whatever the prices are: 0 for the old start, and 10^18 for every other one
unfoldable pub change_base : List (Option ℕ) → Bases
change_base old inst prices i s =
    if is_changed (start_of old i) s then pos 1_000_000_000_000_000_000 else pos 0

-- the value of a plan: 10^18 for each change
unfoldable pub change_value : List (Option ℕ) → PlanValue
change_value old inst starts = pos (1_000_000_000_000_000_000 * changes_of old starts)

-- whatever the prices are, the bases of a plan's starts add up to its value
abbrev pub BasesAddUp : Type 0
BasesAddUp = (old : List (Option ℕ)) (inst : Tables) (prices : PriceList) (starts : List ℕ)
    → sum_below (length starts) (λ i. change_base old inst prices i (slice_index starts i))
    ≡ change_value old inst starts

-- ---- bounds

-- how many starts a plan changes at least whose value is at least b: the greater of 0 and b / 10^18, rounded up
unfoldable pub least_changes : ℤ → ℕ
least_changes b = unsigned_abs (int_max (pos 0) (ceil_of b 1_000_000_000_000_000_000))

-- a bound is at most the value of n changes exactly where it says that there are at most n of them at least
abbrev pub BoundsCountChanges : Type 0
BoundsCountChanges = (b : ℤ) (n : ℕ) → (b ≤ℤ pos (1_000_000_000_000_000_000 * n)) ↔ (least_changes b ≤ n)

-- a plan of old starts has no change
abbrev pub OldStartsAreNoChanges : Type 0
OldStartsAreNoChanges = (starts : List ℕ) → changes_of (map Some starts) starts ≡ 0
