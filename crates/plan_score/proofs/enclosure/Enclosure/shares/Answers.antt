use Rattle.std.proofs.Common.{arith}
use Rattle.plan_score.proofs.EnclosureLemmas.{share_low_is, share_high_is}
use Rattle.plan_score.proofs.enclosure.Enclosure.shares.Goals as goal

pub returns-clause-low : goal.returns-clause-low
returns-clause-low c = (share_low_is c.floor_div.result c.args.self.now.low c.args.margin c.args.by c.requires.low
    c.requires.few (omega arith) c.requires.some c.floor_div.ensures).0

pub returns-clause-high : goal.returns-clause-high
returns-clause-high c = (share_high_is c.ceil_div.result c.args.self.now.high c.args.margin c.args.by c.requires.high
    c.requires.few (omega arith) c.requires.some c.ceil_div.ensures).0

pub returns-clause-low_small : goal.returns-clause-low_small
returns-clause-low_small c = (share_low_is c.floor_div.result c.args.self.now.low c.args.margin c.args.by c.requires.low
    c.requires.few (omega arith) c.requires.some c.floor_div.ensures).1

pub returns-clause-high_small : goal.returns-clause-high_small
returns-clause-high_small c = (share_high_is c.ceil_div.result c.args.self.now.high c.args.margin c.args.by
    c.requires.high c.requires.few (omega arith) c.requires.some c.ceil_div.ensures).1
