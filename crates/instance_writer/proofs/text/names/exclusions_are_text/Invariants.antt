use Rattle.std.proofs.Common.{All, take}
use Rattle.std.specs.Str.{IsUtf8}
use Rattle.instance_writer.proofs.text.names.exclusions_are_text.Given as goal

abbrev pub invariant-loop-e : goal.invariant-loop-e
invariant-loop-e l = All IsUtf8 (take l.e l.inst.exclusion_names)
