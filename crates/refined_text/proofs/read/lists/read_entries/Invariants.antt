use Rattle.std.proofs.Common.{length}
use Rattle.refined_text.specs.read.Reading.{ReadsPartAnd}
use Rattle.refined_text.proofs.read.lists.read_entries.Given as goal

abbrev pub invariant-loop-alloc : goal.invariant-loop-alloc
invariant-loop-alloc l = ReadsPartAnd l.inst l.fn.lines l.part l.line l.lines

abbrev pub decreases-loop-alloc : goal.decreases-loop-alloc
decreases-loop-alloc l = length l.lines.rest
