use Rattle.std.proofs.Common.{rules, false}
use Rattle.json_events.proofs.Standing.{nothing_told, for_some_quiet}
use Rattle.json_events.proofs.pull.Pull.pass_separator.Goals as goal

pub invariant_of-self : goal.invariant_of-self
invariant_of-self c =
    for_some_quiet c.self.inside c.read_separator.new.machine c.read_separator.new.unread c.args.self.now (search rules)
    c.self.view_is c.read_separator.ensures.reads c.self.invariant

pub returns-then-is_idle-clause-stands : goal.returns-then-is_idle-clause-stands
returns-then-is_idle-clause-stands c stream given h =
    nothing_told c.self.inside c.read_separator.new.machine c.read_separator.new.unread c.args.self.now stream given
    false (search rules) c.self.view_is c.self.invariant.machine (c.read_separator.ensures.reads stream) h
