use Rattle.std.proofs.Common.{◌≡◌, ◌≤◌, take}
use Rattle.branch_search.specs.Splits.{split_count}
use Rattle.branch_search.proofs.splits.split_count.Given as goal

abbrev pub invariant-loop-node : goal.invariant-loop-node
invariant-loop-node l = record {
  count : l.count ≡ split_count (take l.node-index l.nodes);
  few : l.count ≤ l.node-index;
}
