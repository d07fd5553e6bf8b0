use Rattle.std.proofs.Common.{◌≡◌, length}
use Rattle.refined_text.specs.read.Reading.{ReadsSome}
use Rattle.refined_text.proofs.read.lists.read_lists.Given as goal

abbrev pub invariant-loop-k : goal.invariant-loop-k
invariant-loop-k l = record {
  reads : ReadsSome l.inst l.count l.fn.lines l.lists.items l.lines;
  each : length l.lists.items ≡ l.k;
}
