use Rattle.std.proofs.Common.{◌∙◌, sym, refl, rules}
use Rattle.shape_walk.specs.Awaits.{AwaitsNumberKey}
use Rattle.instance_read.proofs.Following.{follow_key}
use Rattle.instance_read.proofs.follow.take_number_key.Goals as goal

pub returns-then-is_some-clause-follows : goal.returns-then-is_some-clause-follows
returns-then-is_some-clause-follows c = λ limits bytes h.
    let awaited : AwaitsNumberKey c.args.walk.now = search rules in
    let k = c.in-Some.key in
    let e = c.in-Some.ensures in
    let walk = c.in_ok-taken.ensures in
    follow_key limits c.args.pull.now c.next_number_key.new.self c.args.walk.now c.take_number_key.new.self
    c.args.keeper.now c.args.keeper.now bytes k.at k.number c.in_ok-taken.taken.spot awaited.no_fault
    (λ given s. e.stands bytes given s refl)
    (λ given s. e.key bytes given s)
    (λ es end text d n s. walk.stands limits es end text d n s)
    (λ es end text s. walk.spot limits es end text s)
    (λ fine. search rules) h

pub returns-in_ok-take_number_key-clause-follows : goal.returns-in_ok-take_number_key-clause-follows
returns-in_ok-take_number_key-clause-follows c = λ limits bytes h.
    let awaited : AwaitsNumberKey c.args.walk.now = search rules in
    let k = c.in-Some.key in
    let e = c.in-Some.ensures in
    let walk = c.in_ok-taken.ensures in
    follow_key limits c.args.pull.now c.next_number_key.new.self c.args.walk.now c.take_number_key.new.self
    c.args.keeper.now c.take_number_key-in-Whole.new.self bytes k.at k.number c.in_ok-taken.taken.spot awaited.no_fault
    (λ given s. e.stands bytes given s refl)
    (λ given s. e.key bytes given s)
    (λ es end text d n s. walk.stands limits es end text d n s)
    (λ es end text s. walk.spot limits es end text s)
    (λ fine end text d n. c.in_ok-take_number_key.ensures k.at end text
    (sym (walk.read end text d n) ∙ c.in-Whole.is)) h
