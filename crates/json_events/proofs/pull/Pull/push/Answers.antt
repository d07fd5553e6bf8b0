use Rattle.json_events.proofs.Standing.{pushed_for_some, pushed_stands, refused_stands, idle_pushed}
use Rattle.json_events.proofs.pull.Pull.push.Goals as goal

pub invariant_of-self : goal.invariant_of-self
invariant_of-self c = pushed_for_some c.self.inside c.append.new.self c.args.piece.now c.append.result c.in-Reading.is
    c.append.ensures.at c.append.ensures.appended c.append.ensures.kept c.self.invariant

pub returns-in-Reading-clause-pushed : goal.returns-in-Reading-clause-pushed
returns-in-Reading-clause-pushed c stream given h = pushed_stands c.self.inside c.append.new.self c.args.self.now stream
    c.args.piece.now given c.append.result c.in-Reading.is c.append.ensures.at
    c.append.ensures.appended c.self.view_is h

pub returns-in-Reading-clause-refused : goal.returns-in-Reading-clause-refused
returns-in-Reading-clause-refused c stream given h = refused_stands c.self.inside c.append.new.self c.args.self.now
    stream given c.append.result c.in-Reading.is c.append.ensures.at c.append.ensures.kept c.self.view_is h

pub returns-in-Faulty-clause-pushed : goal.returns-in-Faulty-clause-pushed
returns-in-Faulty-clause-pushed c stream given h =
    idle_pushed c.self.inside c.args.self.now stream c.args.piece.now given c.in-Faulty.is c.self.view_is h
