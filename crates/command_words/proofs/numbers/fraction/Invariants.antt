use Rattle.std.proofs.Common.{◌≡◌, drop, ◌<◌, ◌^◌}
use Rattle.instance_shape.specs.Keys.{all_bytes, is_digit, number_from}
use Rattle.command_words.proofs.numbers.fraction.Given as goal

abbrev pub invariant-loop-digit : goal.invariant-loop-digit
invariant-loop-digit l = record {
  digits : all_bytes is_digit (drop l.digit-index l.digits) ≡ all_bytes is_digit l.digits;
  number : number_from l.number (drop l.digit-index l.digits) ≡ number_from 0 l.digits;
  small : l.number < 10 ^ l.digit-index;
}
