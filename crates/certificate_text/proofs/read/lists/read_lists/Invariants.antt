use Rattle.std.proofs.Common.{◌≡◌, length}
use Rattle.certificate_text.specs.read.Reading.{ReadsLists}
use Rattle.certificate_text.proofs.read.lists.read_lists.Given as goal

abbrev pub invariant-loop-k : goal.invariant-loop-k
invariant-loop-k l = record {
  reads : ReadsLists l.inst l.version l.count l.fn.lines l.lists.items l.lines;
  each : length l.lists.items ≡ l._k;
}
