use Rattle.std.proofs.Common.{rules, ◌<◌, ℕ, List, length, subst}
use Rattle.json_events.specs.CountedNumbers.{AreCountedRuns}
use Rattle.json_events.proofs.CountedRuns.{counts_told}
use Rattle.json_events.proofs.up_to_event.read_counts.Goals as goal

pub returns-clause-tells : goal.returns-clause-tells
returns-clause-tells c =
    let counts = c.counted_numbers-used.new.counts.items in
    let used = c.counted_numbers-used.result in
    let some : 0 < length counts = search rules in
    counts_told c.args.machine.now c.pass_items.new.self c.args.unread.now c.pass.new.self counts used (search rules)
    (subst (λ (z : List ℕ). AreCountedRuns z counts used) c.as_slice.ensures.same c.counted_numbers-used.ensures.runs)
    some c.pass_items.ensures.state c.pass_items.ensures.sound c.pass.ensures.at c.pass.ensures.rest
