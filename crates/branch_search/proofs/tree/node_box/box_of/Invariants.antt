use Rattle.std.proofs.Common.{◌<◌, length}
use Rattle.branch_search.specs.Climbing.{IsClimbed}
use Rattle.branch_search.proofs.tree.node_box.box_of.Given as goal

abbrev pub invariant-loop-k : goal.invariant-loop-k
invariant-loop-k l = record {
  within : l.k < length l.cells;
  climbed : IsClimbed l.inst l.cells l.number l.k l.spans.items;
}

abbrev pub decreases-loop-k : goal.decreases-loop-k
decreases-loop-k l = l.k
