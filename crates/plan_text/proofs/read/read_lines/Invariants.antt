use Rattle.std.proofs.Common.{length}
use Rattle.plan_text.proofs.StepLemmas.{ReadSoFar}
use Rattle.plan_text.proofs.read.read_lines.Given as goal

abbrev pub invariant-loop-rest : goal.invariant-loop-rest
invariant-loop-rest l = ReadSoFar l.inst.names l.fn.text l.n l.rest l.starts.items

abbrev pub decreases-loop-rest : goal.decreases-loop-rest
decreases-loop-rest l = length l.rest
