use Rattle.std.proofs.Common.{rules, append-nil, sym, ◌∙◌, subst}
use Rattle.json_events.specs.Readings.{HasTold}
use Rattle.json_events.proofs.ReadingLemmas.{quiet_byte}
use Rattle.json_events.proofs.up_to_event.read_separator.Goals as goal

pub returns-then-pass_separator : goal.returns-then-pass_separator
returns-then-pass_separator c = record {
  reads = λ stream told h. subst (HasTold c.pass_separator.new.self c.pass.new.self stream) (append-nil told)
      (quiet_byte c.args.machine.now c.pass_separator.new.self c.args.unread.now c.pass.new.self c.at.result
      c.in-Some.byte stream told h (sym c.first.ensures ∙ c.in-Some.is) c.at.ensures
      (c.pass_separator.ensures.moves (search rules)) c.pass_separator.ensures.levels
      (c.pass_separator.ensures.sound (search rules)) c.pass.ensures.at c.pass.ensures.rest);
}
