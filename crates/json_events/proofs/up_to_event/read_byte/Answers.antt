use Rattle.std.specs.Option.{option_map}
use Rattle.std.proofs.Common.{sym, ◌∙◌, ap, subst, ◌+◌, ℕ, arith}
use Rattle.json_grammar.specs.laws.Machine.{step}
use Rattle.json_machine.specs.Machines.{state_of, IsSound}
use Rattle.json_events.specs.Readings.{told_events}
use Rattle.json_events.proofs.ReadingLemmas.{byte_refused, byte_deep, byte_read}
use Rattle.json_events.proofs.up_to_event.read_byte.Goals as goal

pub returns-in_default-clause-reads : goal.returns-in_default-clause-reads
returns-in_default-clause-reads c stream told h =
    let old = state_of c.args.machine.now in
    let new = state_of c.step.new.self in
    byte_refused c.args.machine.now c.args.unread.now c.args.byte stream told h c.requires.first
    (ap (λ k. step k old.levels old.mode c.args.byte) (sym c.at.ensures) ∙ c.in_ok-answer.ensures.moves
    ∙ c.reading_of.ensures.told new ∙ ap (option_map (λ r. (new, told_events r))) c.in_default.is)

pub returns-then-depth-gt-MOST_LEVELS-clause-reads : goal.returns-then-depth-gt-MOST_LEVELS-clause-reads
returns-then-depth-gt-MOST_LEVELS-clause-reads c stream told h =
    let old = state_of c.args.machine.now in
    let new = state_of c.step.new.self in
    byte_deep c.args.machine.now new c.args.unread.now c.args.byte stream told
    (told_events c.in-Some.reading) h c.requires.first
    (ap (λ k. step k old.levels old.mode c.args.byte) (sym c.at.ensures) ∙ c.in_ok-answer.ensures.moves
    ∙ c.reading_of.ensures.told new ∙ ap (option_map (λ r. (new, told_events r))) c.in-Some.is)
    (omega (arith, c.depth.ensures))

pub returns-clause-reads : goal.returns-clause-reads
returns-clause-reads c stream told h =
    let old = state_of c.args.machine.now in
    let new = state_of c.step.new.self in
    byte_read c.args.machine.now c.step.new.self c.args.unread.now c.pass.new.self c.args.byte c.in-Some.reading stream
    told h c.requires.first
    (ap (λ k. step k old.levels old.mode c.args.byte) (sym c.at.ensures) ∙ c.in_ok-answer.ensures.moves
    ∙ c.reading_of.ensures.told new ∙ ap (option_map (λ r. (new, told_events r))) c.in-Some.is)
    (omega (arith, c.depth.ensures)) (subst (λ (k : ℕ). IsSound (k + 1) c.step.new.self) c.at.ensures
    c.in_ok-answer.ensures.sound) c.pass.ensures.at c.pass.ensures.rest c.in-Some.ensures.telling
