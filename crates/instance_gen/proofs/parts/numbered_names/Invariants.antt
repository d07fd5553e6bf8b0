use Rattle.std.proofs.Common.{◌≡◌, map, string_bytes}
use Rattle.instance_gen.specs.Drawn.{numbered_names}
use Rattle.instance_gen.proofs.parts.numbered_names.Given as goal

abbrev pub invariant-loop-k : goal.invariant-loop-k
invariant-loop-k l = map string_bytes l.names.texts.keys ≡ numbered_names l.letter l.k
