use Rattle.std.proofs.Common.{◌≡◌, None, rules}
use Rattle.std.proofs.lemmas.Result.{on_ok_weaker}
use Rattle.json_grammar.specs.Events.{event_view}
use Rattle.instance_read.proofs.Following.{none_before, taken_more}
use Rattle.instance_read.proofs.follow.take_event.Goals as goal

pub take-requires-2 : goal.take-requires-2
take-requires-2 c = c.in_ok-taken.ensures.read (none_before c.args.walk.now c.take.new.self c.take.ensures.keeps
    (search rules))

pub returns : goal.returns
returns c = λ limits es h.
    let old = c.args.walk.now in
    let new = c.take.new.self in
    let none : old.fault ≡ None = none_before old new c.take.ensures.keeps (search rules) in
    on_ok_weaker c.take-2.result (λ k.
    taken_more limits old new c.args.keeper.now c.take-2.new.self es (event_view c.args.event)
    c.in_ok-taken.taken.spot h
    (c.in_ok-taken.ensures.stands limits es h.stands) none (c.in_ok-taken.ensures.spot limits es h.stands none) k)
    c.take-2.ensures
