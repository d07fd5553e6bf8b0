use Rattle.std.proofs.Common.{refl, rules}
use Rattle.instance_read.proofs.Following.{follow_count}
use Rattle.instance_read.proofs.follow.take_counts.Goals as goal

pub returns-then-not-take_count-clause-follows : goal.returns-then-not-take_count-clause-follows
returns-then-not-take_count-clause-follows c = λ limits bytes h.
    let n = c.in-Some-next_counted.number in
    let e = c.in-Some-next_counted.ensures in
    let walk = c.take_count-in-counts in
    follow_count limits c.counts.pull c.next_counted.new.self c.counts.walk walk.new.self c.counts.keeper
    c.take_count.new.self bytes n.at n.count c.in-Some.spot c.counts.invariant.awaits.no_fault
    (λ given s. e.stands bytes given s refl)
    (λ given s. e.number bytes given s)
    (λ es token f s. walk.ensures.stands limits es token n.count f s)
    (λ es token s. walk.ensures.spot limits es token s)
    (λ token f. c.in_ok-take_count.ensures n.at token (walk.ensures.read token n.count f))
    (c.counts.invariant.follows limits bytes h)

pub counts-preserved : goal.counts-preserved
counts-preserved c =
    let n = c.in-Some-next_counted.number in
    let e = c.in-Some-next_counted.ensures in
    let walk = c.take_count-in-counts in
    record {
      unfinished = e.unfinished;
      awaits = walk.ensures.awaits (search rules);
      follows = λ limits bytes h.
          follow_count limits c.counts.pull c.next_counted.new.self c.counts.walk walk.new.self c.counts.keeper
          c.take_count.new.self bytes n.at n.count c.in-Some.spot c.counts.invariant.awaits.no_fault
          (λ given s. e.stands bytes given s refl)
          (λ given s. e.number bytes given s)
          (λ es token f s. walk.ensures.stands limits es token n.count f s)
          (λ es token s. walk.ensures.spot limits es token s)
          (λ token f. c.in_ok-take_count.ensures n.at token (walk.ensures.read token n.count f))
          (c.counts.invariant.follows limits bytes h);
    }
