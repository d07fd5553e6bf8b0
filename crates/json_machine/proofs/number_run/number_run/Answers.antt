use Rattle.std.proofs.Common.{ℕ, List, subst}
use Rattle.json_machine.specs.NumberRuns.{EndsNumber}
use Rattle.json_machine.specs.Views.{phase_of}
use Rattle.json_machine.proofs.PlainNumbers.{behind, number_then}
use Rattle.json_machine.proofs.number_run.number_run.Goals as goal

pub returns : goal.returns
returns c =
    let whole = c.in_ok-whole.whole in
    let fraction = c.in_ok-fraction.fraction in
    number_then (phase_of whole.phase) (phase_of fraction.phase) c.args.bytes.now whole.length fraction.length
    c.in_ok-whole.ensures.begins
    (subst (λ (z : List ℕ). EndsNumber (phase_of whole.phase) z fraction.length (phase_of fraction.phase))
    (behind whole.length c.args.bytes.now) c.in_ok-fraction.ensures)
