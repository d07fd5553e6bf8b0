use Rattle.std.proofs.Common.{arith, sym, subst}
use Rattle.std.proofs.lemmas.Bool.Decides.{nat_tests}
use Rattle.shape_walk.specs.CountEvents.{HaveCounts}
use Rattle.instance_read.proofs.Following.{follow_none, follow_counts}
use Rattle.instance_read.proofs.follow.take_run.Goals as goal

pub returns-then-is_empty-clause-follows : goal.returns-then-is_empty-clause-follows
returns-then-is_empty-clause-follows c = λ limits bytes h.
    follow_none limits c.args.pull.now c.next_counts.new.self c.args.walk.now c.args.keeper.now bytes
    c.next_counts.new.counts.items (grind (arith, nat_tests))
    (λ given s. c.next_counts.ensures.stands bytes given s) h

pub returns-clause-follows : goal.returns-clause-follows
returns-clause-follows c = λ limits bytes h.
    let counts = c.next_counts.new.counts.items in
    let walk = c.take_counts-2.ensures in
    follow_counts limits c.args.pull.now c.next_counts.new.self c.args.walk.now c.take_counts-2.new.self
    c.args.keeper.now c.take_counts.new.self bytes counts c.args.spot c.requires.awaits.no_fault
    (λ given s. c.next_counts.ensures.stands bytes given s)
    (λ given s. c.next_counts.ensures.numbers bytes given s)
    (λ es numbers n s. walk.stands limits es numbers counts n (sym c.len.ensures.value) s)
    (λ es numbers n s. walk.spots limits es numbers counts n s)
    (λ numbers n. c.in_ok-take_counts.ensures numbers c.requires.awaits.counts
    (subst (HaveCounts numbers) (sym c.as_slice.ensures.value) n)) h
