use Rattle.std.proofs.Common.{◌≡◌, ◌+◌, ◌≤◌, length, drop}
use Rattle.std.specs.Prelude.{◌-◌, ◌*◌, ◌^◌}
use Rattle.decimal_numbers.specs.Decimal.{number_from}
use Rattle.decimal_numbers.proofs.one_word.with_digits.Given as goal

abbrev pub invariant-loop-digit : goal.invariant-loop-digit
invariant-loop-digit l = record {
  same : number_from l.value (drop l.digit-index l.digits) ≡ number_from l.front l.digits;
  room : (l.value + 1) * 10 ^ (length l.digits - l.digit-index) ≤ 2 ^ 64;
}
