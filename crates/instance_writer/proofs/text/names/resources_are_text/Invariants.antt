use Rattle.std.proofs.Common.{All, take}
use Rattle.std.specs.Str.{IsUtf8}
use Rattle.instance_writer.proofs.text.names.resources_are_text.Given as goal

abbrev pub invariant-loop-c : goal.invariant-loop-c
invariant-loop-c l = All IsUtf8 (take l.c l.inst.resource_names)
