use Rattle.instance_read.proofs.Following.{follow_quiet}
use Rattle.instance_read.proofs.follow.take_told.Goals as goal

pub returns-clause-follows : goal.returns-clause-follows
returns-clause-follows c limits bytes h =
    c.take_number_key.ensures.follows limits bytes (c.in_ok-take_counts.ensures.follows limits bytes
    (follow_quiet limits c.args.pull.now c.pass_separator.new.self c.args.walk.now c.args.keeper.now bytes
    (c.pass_separator.ensures.stands bytes) h))
