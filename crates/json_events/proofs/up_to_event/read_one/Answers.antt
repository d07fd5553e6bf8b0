use Rattle.std.proofs.Common.{rules}
use Rattle.json_events.proofs.ReadingLemmas.{quiet_byte}
use Rattle.json_events.proofs.up_to_event.read_one.Goals as goal

pub returns-then-pass_between-clause-reads : goal.returns-then-pass_between-clause-reads
returns-then-pass_between-clause-reads c stream told h =
    quiet_byte c.args.machine.now c.pass_between.new.self c.args.unread.now c.pass.new.self c.at.result c.args.byte
    stream told h c.requires.first c.at.ensures (c.pass_between.ensures.moves (search rules))
    c.pass_between.ensures.levels (c.pass_between.ensures.sound (search rules)) c.pass.ensures.at c.pass.ensures.rest
