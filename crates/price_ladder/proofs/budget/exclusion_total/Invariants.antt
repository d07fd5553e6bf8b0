use Rattle.std.proofs.Common.{◌≡◌, ◌≤◌, ◌*◌, take, sum_by}
use Rattle.price_ladder.proofs.budget.exclusion_total.Given as goal

abbrev pub invariant-loop-x : goal.invariant-loop-x
invariant-loop-x l = record {
  value : l.total ≡ sum_by (λ x. x.value) (take l.x-index l.x-items);
  small : l.total ≤ l.x-index * 1_000_000_000;
}
