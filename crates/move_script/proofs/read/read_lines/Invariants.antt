use Rattle.std.proofs.Common.{length}
use Rattle.move_script.proofs.ReadLemmas.{ReadSoFar}
use Rattle.move_script.proofs.read.read_lines.Given as goal

abbrev pub invariant-loop-rest : goal.invariant-loop-rest
invariant-loop-rest l = ReadSoFar l.inst.names l.fn.text l.lines.items l.n l.rest

abbrev pub decreases-loop-rest : goal.decreases-loop-rest
decreases-loop-rest l = length l.rest
