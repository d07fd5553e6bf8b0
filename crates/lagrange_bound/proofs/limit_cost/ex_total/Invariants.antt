use Rattle.std.proofs.Common.{◌≡◌, ◌≤◌, ◌*◌, take, sum_by}
use Rattle.lagrange_bound.proofs.limit_cost.ex_total.Given as goal

abbrev pub invariant-loop-x : goal.invariant-loop-x
invariant-loop-x l = record {
  value : l.sum ≡ sum_by (λ x. x.value) (take l.x-index l.x-items);
  small : l.sum ≤ l.x-index * 1_000_000_000;
}
