use Rattle.std.proofs.Common.{◌≡◌, ◌<◌, ◌^◌, drop}
use Rattle.decimal_numbers.specs.Decimal.{number, number_from}
use Rattle.decimal_numbers.proofs.digits.number_of.Given as goal

abbrev pub invariant-loop-digit : goal.invariant-loop-digit
invariant-loop-digit l = record {
  same : number_from l.value (drop l.digit-index l.digits) ≡ number l.digits;
  small : l.value < 10 ^ 20;
}
