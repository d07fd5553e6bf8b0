use Rattle.std.proofs.Common.{rules}
use Rattle.json_events.proofs.CountsGiven.{counts_given, counts_for_some}
use Rattle.json_events.proofs.pull.Pull.next_counts.Goals as goal

pub invariant_of-self : goal.invariant_of-self
invariant_of-self c = counts_for_some c.self.inside c.args.self.now c.read_counts.new.machine c.read_counts.new.unread
    c.read_counts.new.counts.items (search rules) c.self.view_is c.read_counts.ensures.tells c.self.invariant

pub returns-then-is_idle-clause-stands : goal.returns-then-is_idle-clause-stands
returns-then-is_idle-clause-stands c stream given h =
    (counts_given c.self.inside c.args.self.now c.read_counts.new.machine c.read_counts.new.unread
    c.read_counts.new.counts.items stream given (search rules) c.self.view_is c.self.invariant.machine
    c.read_counts.ensures.tells h).1

pub returns-then-is_idle-clause-numbers : goal.returns-then-is_idle-clause-numbers
returns-then-is_idle-clause-numbers c stream given h =
    (counts_given c.self.inside c.args.self.now c.read_counts.new.machine c.read_counts.new.unread
    c.read_counts.new.counts.items stream given (search rules) c.self.view_is c.self.invariant.machine
    c.read_counts.ensures.tells h).0
