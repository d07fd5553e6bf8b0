use Rattle.std.proofs.Common.{rules, Some}
use Rattle.shape_walk.proofs.CountTaken.{count_stands}
use Rattle.shape_walk.proofs.walk.ShapeWalk.take_count.Goals as goal

pub returns-in-Some-clause-stands : goal.returns-in-Some-clause-stands
returns-in-Some-clause-stands c limits es token count f h =
    count_stands limits c.args.self.now _ es c.args.at c.args.spot token count (Some c.in-Some.flaw) c.requires f
    (search rules) (search rules) (search rules) (search rules) h

pub returns-in-None-clause-stands : goal.returns-in-None-clause-stands
returns-in-None-clause-stands c limits es token count f h =
    count_stands limits c.args.self.now _ es c.args.at c.args.spot token count c.count.result c.requires f
    (search rules) (search rules) (search rules) (search rules) h
