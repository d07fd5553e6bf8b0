use Rattle.std.proofs.Common.{◌≡◌, ◌*◌, ◌<◌, ◌^◌, drop}
use Rattle.ordered_keys.specs.Marks.{are_bytes, mark, number_from}
use Rattle.ordered_keys.proofs.keys.short_mark.Given as goal

abbrev pub invariant-loop-byte : goal.invariant-loop-byte
invariant-loop-byte l = record {
  number : number_from l.number (drop l.byte-index l.bytes) ≡ mark l.bytes;
  bytes : are_bytes (drop l.byte-index l.bytes) ≡ are_bytes l.bytes;
  small : l.number < 2 * 256 ^ l.byte-index;
}
