use Rattle.std.proofs.Common.{take}
use Rattle.json_grammar.specs.laws.Spelling.{escaped}
use Rattle.instance_writer.proofs.marks.put_escaped.Given as goal

abbrev pub invariant-loop-b : goal.invariant-loop-b
invariant-loop-b g l =
    record {
      ready : g.S.Sink.IsReady l.sink;
      text : g.S.Sink.Takes (escaped (take l.b-index l.text)) l.fn.sink l.sink;
    }
