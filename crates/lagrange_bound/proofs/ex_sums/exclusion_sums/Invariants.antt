use Rattle.std.proofs.Common.{ℕ, ◌≤◌, ◌*◌, take, slice_index}
use Rattle.lagrange_bound.specs.ExSums.{AreExSums}
use Rattle.lagrange_bound.proofs.ex_sums.exclusion_sums.Given as goal

abbrev pub invariant-loop-x : goal.invariant-loop-x
invariant-loop-x l = record {
  sums : AreExSums l.inst (take l.x-index l.x-items) l.sums.items;
  small : (k : ℕ) → slice_index l.sums.items k ≤ l.x-index * 2_000_000_000;
}
