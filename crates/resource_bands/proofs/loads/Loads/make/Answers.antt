use Rattle.std.proofs.Common.{arith}
use Rattle.resource_bands.proofs.OverLemmas.{IsBoardTo-all}
use Rattle.resource_bands.proofs.loads.Loads.make.Goals as goal

pub returns-clause-board : goal.returns-clause-board
returns-clause-board c =
    IsBoardTo-all c.args.starts.now c.loop-i.i c.loop-i.loads.board c.loop-i.invariant.board (omega arith)
