use Rattle.std.proofs.Common.{◌≡◌, ◌≤◌, ◌*◌, take, sum_by}
use Rattle.lagrange_bound.specs.Worth.{ex_share}
use Rattle.lagrange_bound.proofs.ex_cost.ex_cost.Given as goal

abbrev pub invariant-loop-x : goal.invariant-loop-x
invariant-loop-x l = record {
  value : l.cost ≡ sum_by (λ x. ex_share l.inst x l.i l.s) (take l.x-index l.x-items);
  small : l.cost ≤ l.x-index * 2_000_000_000;
}
