use Rattle.std.proofs.Common.{All, take}
use Rattle.std.specs.Str.{IsUtf8}
use Rattle.instance_writer.proofs.text.names.seasons_are_text.Given as goal

abbrev pub invariant-loop-q : goal.invariant-loop-q
invariant-loop-q l = All IsUtf8 (take l.q l.inst.season_names)
