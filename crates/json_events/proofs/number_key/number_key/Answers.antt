use Rattle.std.proofs.Common.{rules, ℕ, List, subst, arith}
use Rattle.json_machine.proofs.PlainNumbers.{behind}
use Rattle.json_events.specs.CountedNumbers.{WritesDigits}
use Rattle.json_events.proofs.KeyRuns.{nine_fit, key_run}
use Rattle.json_events.proofs.number_key.number_key.Goals as goal

pub overflow_cast-result : goal.overflow_cast-result
overflow_cast-result c =
    let digits = c.digits_behind-digits in
    let fits = nine_fit _ digits.result.length digits.result.value digits.ensures.writes digits.ensures.most in
    search rules

pub returns : goal.returns
returns c =
    let digits = c.digits_behind-digits in
    let bs = c.args.bytes.now in
    key_run bs digits.result.length digits.result.value (search rules)
    (subst (λ (z : List ℕ). WritesDigits 0 z digits.result.length digits.result.value) (behind 1 bs)
    digits.ensures.writes)
    (omega arith) digits.ensures.most (omega arith) (search rules)
