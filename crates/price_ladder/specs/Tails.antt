-- The tail of a plan in a period: the scenarios of greatest sum, as many as the quantile leaves at or above it.
use Rattle.std.specs.Prelude.{ℕ, ◌+◌, ◌-◌, ℤ, pos, Bool, ◌&&◌, ◌||◌, List, length, map, filter, count_by, Some, nat_lt}
use Rattle.std.specs.Prelude.{int_lt, int_le, slice_index_or}
use Rattle.std.specs.List.{range_with_len}
use Rattle.instance_model.specs.Tables.{Tables, scenarios_of, rank_of}
use Rattle.instance_model.specs.Plans.{scenario_sums}
use Rattle.lagrange_bound.specs.declared.tail.Tail.{Tail}

-- the sum of scenario k
abbrev pub sum_in : List ℤ → ℕ → ℤ
sum_in sums k = slice_index_or sums (k - 1) (pos 0)

-- scenario j comes before scenario k: its sum is greater, or the same and j is lower
abbrev pub comes_before : List ℤ → ℕ → ℕ → Bool
comes_before sums j k = int_lt (sum_in sums k) (sum_in sums j) || (int_le (sum_in sums k) (sum_in sums j) && nat_lt j k)

-- how many scenarios come before scenario k
unfoldable pub count_before : List ℤ → ℕ → ℕ
count_before sums k = count_by (λ j. comes_before sums j k) (range_with_len 1 (length sums))

-- the scenarios that fewer than m come before
unfoldable pub first_places : List ℤ → ℕ → List ℕ
first_places sums m = filter (λ k. nat_lt (count_before sums k) m) (range_with_len 1 (length sums))

-- the tail of a plan in period t, for n scenarios and the rank k of the quantile: weight 1000, and the n - k + 1
-- scenarios of greatest sum, the lower scenario first where two are the same
unfoldable pub plan_tail : Tables → List ℕ → ℕ → Tail
plan_tail inst starts t = record {
  weight = 1000;
  places =
      first_places (scenario_sums inst (map Some starts) t) (scenarios_of inst t + 1 - rank_of inst t);
}
