use Rattle.std.proofs.Common.{All, take}
use Rattle.std.specs.Str.{IsUtf8}
use Rattle.instance_writer.proofs.text.names.interventions_are_text.Given as goal

abbrev pub invariant-loop-i : goal.invariant-loop-i
invariant-loop-i l = All IsUtf8 (take l.i l.inst.names)
