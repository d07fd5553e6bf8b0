use Rattle.std.proofs.Common.{length}
use Rattle.group_ladder.specs.Search.{AreWorks}
use Rattle.group_ladder.proofs.band.all_works.Given as goal

abbrev pub invariant-loop-i : goal.invariant-loop-i
invariant-loop-i l = AreWorks l.inst (length l.starts) l.works.items
