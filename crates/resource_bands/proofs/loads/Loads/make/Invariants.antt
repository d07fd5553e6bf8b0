use Rattle.resource_bands.specs.BoardLoads.{IsOver}
use Rattle.resource_bands.proofs.OverLemmas.{IsBoardTo}
use Rattle.resource_bands.proofs.loads.Loads.make.Given as goal

abbrev pub invariant-loop-i : goal.invariant-loop-i
invariant-loop-i l = record {
  over : IsOver l.inst l.loads;
  board : IsBoardTo l.starts l.i l.loads.board;
}
