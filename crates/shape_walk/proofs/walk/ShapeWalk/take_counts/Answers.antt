use Rattle.std.proofs.Common.{rules, ◌≤◌, length, arith}
use Rattle.shape_walk.specs.Awaits.{count_room}
use Rattle.shape_walk.proofs.CountsTaken.{counts_stand, counts_awaited, counts_at, counts_are_read}
use Rattle.shape_walk.proofs.walk.ShapeWalk.take_counts.Goals as goal

pub returns-clause-stands : goal.returns-clause-stands
returns-clause-stands c limits es numbers counts n k h =
    let room : length counts ≤ count_room c.args.self.now c.args.spot = omega (arith, k, c.requires.room) in
    counts_stand limits c.args.self.now _ c.args.spot numbers counts es c.requires.awaits n room (search rules)
    (search rules) (rw (k, ← c.self.view_is) (cc)) h

pub returns-clause-spots : goal.returns-clause-spots
returns-clause-spots c limits es numbers counts n h =
    counts_at limits c.args.self.now c.args.spot numbers counts es c.requires.awaits n h

pub returns-clause-read : goal.returns-clause-read
returns-clause-read c numbers counts n = counts_are_read c.args.spot numbers counts c.requires.awaits.counts n

pub returns-clause-awaits : goal.returns-clause-awaits
returns-clause-awaits c =
    counts_awaited c.args.self.now _ c.args.spot c.args.count c.requires.awaits (search rules) (search rules)
