use Rattle.std.proofs.Common.{to_z-of_z}
use Rattle.plan_table.proofs.LineLemmas.{state_over, state_under, state_fits}
use Rattle.plan_table.proofs.loads.state_of.Goals as goal

pub returns-then-load-upper : goal.returns-then-load-upper
returns-then-load-upper c =
    state_over c.args.load c.args.lower c.args.upper
    (rw (to_z-of_z c.ranges.load, to_z-of_z c.ranges.upper) at c.if-load-upper.true)

pub returns-then-load-lower : goal.returns-then-load-lower
returns-then-load-lower c =
    state_under c.args.load c.args.lower c.args.upper
    (rw (to_z-of_z c.ranges.load, to_z-of_z c.ranges.upper) at c.if-load-upper.false)
    (rw (to_z-of_z c.ranges.load, to_z-of_z c.ranges.lower) at c.if-load-lower.true)

pub returns-else-load-lower : goal.returns-else-load-lower
returns-else-load-lower c =
    state_fits c.args.load c.args.lower c.args.upper
    (rw (to_z-of_z c.ranges.load, to_z-of_z c.ranges.upper) at c.if-load-upper.false)
    (rw (to_z-of_z c.ranges.load, to_z-of_z c.ranges.lower) at c.if-load-lower.false)
