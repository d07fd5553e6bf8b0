use Rattle.std.proofs.Common.{rules, refl}
use Rattle.json_events.proofs.CountTold.{count_given, count_for_some, unchanged_for_some}
use Rattle.json_events.proofs.pull.Pull.next_counted.Goals as goal

pub invariant_of-self : goal.invariant_of-self
invariant_of-self c = unchanged_for_some c.self.inside c.read_counted.new.machine c.read_counted.new.unread
    (c.in_err-number.ensures.left_machine refl) (c.in_err-number.ensures.left_unread refl) c.self.invariant

pub invariant_of-self-2 : goal.invariant_of-self-2
invariant_of-self-2 c =
    let reading = c.in_ok-number.field-0 in
    count_for_some c.self.inside c.args.self.now c.read_counted.new.machine c.read_counted.new.unread reading.second
    reading.number.at reading.number.count (search rules) c.self.view_is c.in_ok-number.ensures.tells c.self.invariant

pub returns-clause-stands : goal.returns-clause-stands
returns-clause-stands c stream given h =
    let reading = c.in_ok-number.field-0 in
    λ _. (count_given c.self.inside c.args.self.now c.read_counted.new.machine c.read_counted.new.unread reading.second
    reading.number.at reading.number.count stream given (search rules) c.self.view_is c.self.invariant.machine
    c.in_ok-number.ensures.tells h).1

pub returns-clause-number : goal.returns-clause-number
returns-clause-number c stream given h =
    let reading = c.in_ok-number.field-0 in
    (count_given c.self.inside c.args.self.now c.read_counted.new.machine c.read_counted.new.unread reading.second
    reading.number.at reading.number.count stream given (search rules) c.self.view_is c.self.invariant.machine
    c.in_ok-number.ensures.tells h).0
