use Rattle.std.proofs.Common.{◌-◌, length}
use Rattle.refined_search.proofs.WalkLemmas.{IsWalking}
use Rattle.refined_search.proofs.open_box.walk.Given as goal

abbrev pub invariant-loop-node : goal.invariant-loop-node
invariant-loop-node l = IsWalking l.inst (length l.tables - 1) l.nodes l.node-index l.path
