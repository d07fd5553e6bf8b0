use Rattle.std.proofs.Common.{length, drop, ◌-◌, ◌≡◌, ◌≤◌, ◌+◌}
use Rattle.json_grammar.specs.Token as token
use Rattle.json_grammar.proofs.token.digit_count.Given as goal

abbrev pub invariant-loop-count : goal.invariant-loop-count
invariant-loop-count l = record {
  counted : l.count + token.digit_count (drop l.count l.bytes) ≡ token.digit_count l.bytes;
  within : l.count ≤ length l.bytes;
}

abbrev pub decreases-loop-count : goal.decreases-loop-count
decreases-loop-count l = length l.bytes - l.count
