use Rattle.std.proofs.Common.{length}
use Rattle.certificate_text.specs.read.Reading.{ReadsEntries, key_view}
use Rattle.certificate_text.proofs.read.lists.read_entries.Given as goal

abbrev pub invariant-loop-alloc : goal.invariant-loop-alloc
invariant-loop-alloc l = ReadsEntries l.inst l.version l.fn.lines l.prices (key_view l.last) l.lines

abbrev pub decreases-loop-alloc : goal.decreases-loop-alloc
decreases-loop-alloc l = length l.lines.rest
