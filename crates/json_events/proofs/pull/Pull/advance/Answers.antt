use Rattle.std.proofs.Common.{sym, ◌∙◌}
use Rattle.json_events.proofs.Standing.{held_given, held_for_some, fault_again}
use Rattle.json_events.proofs.pull.Pull.advance.Goals as goal

pub invariant_of-self : goal.invariant_of-self
invariant_of-self c = held_for_some c.self.inside c.take.new.self c.in-Some.event
    (sym c.take.ensures.value ∙ c.in-Some.is) c.take.ensures.after c.self.invariant

pub returns-in-Some-clause-steps : goal.returns-in-Some-clause-steps
returns-in-Some-clause-steps c stream given finished h = held_given c.self.inside c.take.new.self c.args.self.now stream
    given finished c.in-Some.event (sym c.take.ensures.value ∙ c.in-Some.is) c.take.ensures.after c.self.view_is h

pub returns-in-Faulty-clause-steps : goal.returns-in-Faulty-clause-steps
returns-in-Faulty-clause-steps c stream given finished h = fault_again c.self.inside c.take.new.self c.args.self.now
    c.in-Faulty.fault stream given finished c.in-Faulty.is
    (sym c.take.ensures.value ∙ c.in_default.is ∙ sym c.take.ensures.after) c.self.view_is h
