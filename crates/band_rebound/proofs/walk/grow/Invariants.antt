use Rattle.std.proofs.Common.{◌-◌, length}
use Rattle.certificate_tree.specs.PriceTables.{table_worths}
use Rattle.band_rebound.specs.Steps.{counts_of}
use Rattle.band_rebound.proofs.WalkLemmas.{IsWalking}
use Rattle.band_rebound.proofs.walk.grow.Given as goal

abbrev pub invariant-loop-node : goal.invariant-loop-node
invariant-loop-node l =
    IsWalking l.inst (length l.tables - 1) (table_worths l.tables) l.nodes l.node-index l.path l.growth.nodes.items
    l.growth.bound (counts_of l.growth)
