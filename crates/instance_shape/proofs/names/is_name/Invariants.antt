use Rattle.std.proofs.Common.{◌≡◌, drop}
use Rattle.instance_shape.specs.Keys.{all_bytes, is_printed}
use Rattle.instance_shape.proofs.names.is_name.Given as goal

abbrev pub invariant-loop-byte : goal.invariant-loop-byte
invariant-loop-byte l = all_bytes is_printed (drop l.byte-index l.bytes) ≡ all_bytes is_printed l.bytes
