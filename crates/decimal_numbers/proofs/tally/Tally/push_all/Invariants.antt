use Rattle.std.proofs.Common.{ℕ, ◌+◌, take}
use Rattle.decimal_numbers.specs.Decimal.{number_from}
use Rattle.decimal_numbers.specs.Tallies.{IsTally}
use Rattle.decimal_numbers.proofs.tally.Tally.push_all.Given as goal

abbrev pub invariant-loop-digit : goal.invariant-loop-digit
invariant-loop-digit l = (keep n count : ℕ) → IsTally l.initial.self keep n count
    → IsTally l.self keep (number_from n (take l.digit-index l.digits)) (count + l.digit-index)
