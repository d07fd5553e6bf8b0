use Rattle.std.proofs.Common.{◌≡◌, ◌<◌, ◌*◌, ◌^◌}
use Rattle.decimal_numbers.proofs.digits.scaled.Given as goal

abbrev pub invariant-loop-left : goal.invariant-loop-left
invariant-loop-left l = record { same : l.value * 10 ^ l.left ≡ l.n * 10 ^ l.k; small : l.value < 10 ^ 20 }

abbrev pub decreases-loop-left : goal.decreases-loop-left
decreases-loop-left l = l.left
