use Rattle.std.proofs.Common.{◌≡◌, ◌≤◌, List, ℕ, [], length, take, Some, subst}
use Rattle.json_grammar.specs.laws.Machine.{run}
use Rattle.json_machine.specs.Machines.{state_of}
use Rattle.json_events.proofs.ReadingLemmas.{after_run}
use Rattle.json_events.proofs.up_to_event.read_run.Goals as goal

pub returns-clause-reads : goal.returns-clause-reads
returns-clause-reads c stream told h =
    let taken = c.in_ok-taken.taken in
    c.read_telling.ensures.reads stream told
    (after_run c.args.machine.now c.take_run.new.self c.args.unread.now c.pass.new.self taken stream told h
    (subst (λ (z : List ℕ). taken ≤ length z) c.as_slice.ensures.same c.in_ok-taken.ensures.within)
    (λ k. subst (λ (z : List ℕ). run k (state_of c.args.machine.now) (take taken z)
    ≡ Some (state_of c.take_run.new.self, [])) c.as_slice.ensures.same (c.in_ok-taken.ensures.moves k))
    c.in_ok-taken.ensures.sound c.pass.ensures.at c.pass.ensures.rest)
