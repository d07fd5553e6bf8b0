-- What a run of numbers at one spot changes. Not part of any promise: only private functions cite it.
use Rattle.std.specs.Prelude.{ℕ, ◌+◌, Bool, cond, nat_lt, min}
use Rattle.instance_shape.specs.declared.spot.Spot.{Spot}
use Rattle.instance_shape.specs.ShapeFaults.{is_risk, is_workload}
use Rattle.shape_walk.specs.Machine.{Frame, outside, in_object, in_list, State}

-- so many elements more, counted to three
abbrev pub many_more : ℕ → ℕ → ℕ
many_more count n = cond (nat_lt n 3) (min (n + count) 3) n

-- behind so many values
abbrev pub behind_all : ℕ → Frame → Frame
behind_all count outside = outside
behind_all count (in_object s ks n) = in_object s ks n
behind_all count (in_list s n) = in_list s (many_more count n)

-- so many numbers count, where they are counted
abbrev pub many_if : Bool → ℕ → ℕ → ℕ
many_if b count n = cond b (n + count) n

-- the state behind so many numbers at a spot
abbrev pub behind_numbers : Spot → ℕ → State → State
behind_numbers spot count s = record {
  top = behind_all count s.top;
  around = s.around;
  risks = many_if (is_risk spot) count s.risks;
  workloads = many_if (is_workload spot) count s.workloads;
}
