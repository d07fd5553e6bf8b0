use Rattle.std.proofs.Common.{rules, refl}
use Rattle.json_events.proofs.CountTold.{unchanged_for_some}
use Rattle.json_events.proofs.KeyTold.{key_given, key_for_some}
use Rattle.json_events.proofs.pull.Pull.next_number_key.Goals as goal

pub invariant_of-self : goal.invariant_of-self
invariant_of-self c = unchanged_for_some c.self.inside c.read_number_key.new.machine c.read_number_key.new.unread
    (c.in_err-key.ensures.left_machine refl) (c.in_err-key.ensures.left_unread refl) c.self.invariant

pub invariant_of-self-2 : goal.invariant_of-self-2
invariant_of-self-2 c =
    key_for_some c.self.inside c.args.self.now c.read_number_key.new.machine c.read_number_key.new.unread
    c.in_ok-key.key.at c.in_ok-key.key.number (search rules) c.self.view_is c.in_ok-key.ensures.tells c.self.invariant

pub returns-clause-stands : goal.returns-clause-stands
returns-clause-stands c stream given h =
    λ _. (key_given c.self.inside c.args.self.now c.read_number_key.new.machine c.read_number_key.new.unread
    c.in_ok-key.key.at c.in_ok-key.key.number stream given (search rules) c.self.view_is c.self.invariant.machine
    c.in_ok-key.ensures.tells h).1

pub returns-clause-key : goal.returns-clause-key
returns-clause-key c stream given h =
    (key_given c.self.inside c.args.self.now c.read_number_key.new.machine c.read_number_key.new.unread
    c.in_ok-key.key.at c.in_ok-key.key.number stream given (search rules) c.self.view_is c.self.invariant.machine
    c.in_ok-key.ensures.tells h).0
