use Rattle.std.proofs.Common.{◌≡◌, drop, ◌<◌, ◌^◌}
use Rattle.instance_shape.specs.Keys.{all_bytes, is_digit, number_from}
use Rattle.instance_shape.proofs.names.number_of.Given as goal

abbrev pub invariant-loop-byte : goal.invariant-loop-byte
invariant-loop-byte l = record {
  digits : all_bytes is_digit (drop l.byte-index l.bytes) ≡ all_bytes is_digit l.bytes;
  number : number_from l.number (drop l.byte-index l.bytes) ≡ number_from 0 l.bytes;
  small : l.number < 10 ^ l.byte-index;
}
