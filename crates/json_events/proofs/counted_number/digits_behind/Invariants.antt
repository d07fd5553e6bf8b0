use Rattle.std.proofs.Common.{◌≡◌, ◌+◌, ◌≤◌, length, take, drop}
use Rattle.std.specs.Prelude.{◌-◌, ◌*◌, ◌^◌}
use Rattle.decimal_numbers.specs.Decimal.{number_from}
use Rattle.json_grammar.specs.Token.{digit_count}
use Rattle.json_events.proofs.counted_number.digits_behind.Given as goal

abbrev pub invariant-loop-length : goal.invariant-loop-length
invariant-loop-length l = record {
  counted : l.length + digit_count (drop l.length l.bytes) ≡ digit_count l.bytes;
  within : l.length ≤ length l.bytes;
  most : l.length ≤ l.most;
  value_is : l.value ≡ number_from l.front (take l.length l.bytes);
  room : (l.value + 1) * 10 ^ (l.most - l.length) ≤ 2 ^ 64;
}

abbrev pub decreases-loop-length : goal.decreases-loop-length
decreases-loop-length l = length l.bytes - l.length
