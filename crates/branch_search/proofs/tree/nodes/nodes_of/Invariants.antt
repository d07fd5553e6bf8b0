use Rattle.std.proofs.Common.{◌≡◌, length}
use Rattle.branch_search.specs.Listing.{IsListedSoFar}
use Rattle.branch_search.proofs.tree.nodes.nodes_of.Given as goal

abbrev pub invariant-loop-step : goal.invariant-loop-step
invariant-loop-step l = record {
  count : length l.nodes.items ≡ l._step;
  listed : IsListedSoFar l.cells l.nodes.items l.stack.items;
}
