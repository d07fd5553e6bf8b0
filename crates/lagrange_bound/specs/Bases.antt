-- The base of a start: its share of the score, under a tail or none for each period.
use Rattle.std.specs.Prelude.{ℕ, ◌+◌, ◌-◌, ◌*◌, ℤ, pos, ◌+ℤ◌, ◌-ℤ◌, ◌*ℤ◌, Option, Some, None, if◌then◌else◌}
use Rattle.fixed_num.specs.Floors.{floor_of}
use Rattle.fixed_num.specs.Sums.{sum_below}
use Rattle.instance_model.specs.Tables.{Tables, scenarios_of, in_run, risk_of}
use Rattle.lagrange_bound.specs.declared.tail.Tail.{Tail}
use Rattle.lagrange_bound.specs.Least.{least_over}

-- what a tail adds for the numbers f 1, .., f n: its weight times n * (the least of f over its places) - (the sum of f)
unfoldable pub tail_part : ℕ → (ℕ → ℤ) → Option Tail → ℤ
tail_part n f None = pos 0
tail_part n f (Some tail) = pos tail.weight *ℤ (pos n *ℤ least_over f tail.places -ℤ sum_below n (λ k. f (k + 1)))

-- 1000 n times the weighted mean and tail, for the numbers f 1, .., f n, alpha in millionths
unfoldable pub weighed : ℕ → ℕ → (ℕ → ℤ) → Option Tail → ℤ
weighed alpha n f tail =
    (pos (1000 * alpha) *ℤ sum_below n (λ k. f (k + 1))) +ℤ (pos (1_000_000 - alpha) *ℤ tail_part n f tail)

-- the term of intervention i at start s in period t: one floor of the whole fraction
unfoldable pub term_of : Tables → Option Tail → ℕ → ℕ → ℕ → ℤ
term_of inst tail i s t =
    floor_of (weighed inst.alpha (scenarios_of inst t) (risk_of inst i s t) tail) (1000 * scenarios_of inst t)

-- the base of a start under tails by period: the sum of its terms over its run
unfoldable pub base_of : Tables → (ℕ → Option Tail) → ℕ → ℕ → ℤ
base_of inst tails i s =
    sum_below inst.periods (λ u. if in_run inst i s (u + 1) then term_of inst (tails (u + 1)) i s (u + 1) else pos 0)
