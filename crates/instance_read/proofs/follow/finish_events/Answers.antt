use Rattle.std.proofs.Common.{◌≡◌, Ok, Err, Result, length, ap, ◌∙◌, subst, rules}
use Rattle.json_grammar.specs.Events.{event_view}
use Rattle.json_events.specs.Pulls.{Stands, given_after, finished_after}
use Rattle.json_grammar.specs.declared.fault.TextFault.{TextFault}
use Rattle.json_events.specs.declared.pull.Pulled.{Pulled}
use Rattle.json_events.specs.declared.pull.Pulled.TheVariants as pulled
use Rattle.instance_read.proofs.Following.{ending, end_more, ended, stays_last, told_ends}
use Rattle.instance_read.proofs.follow.finish_events.Goals as goal

pub events-init : goal.events-init
events-init c = λ limits bytes h. ending limits c.args.pull.now c.args.walk.now c.args.keeper.now bytes h

pub returns-in-Ok-Done : goal.returns-in-Ok-Done
returns-in-Ok-Done c = λ limits bytes h.
    let q = c.events.invariant limits bytes h in
    let told : c.finish.result ≡ Ok pulled.Done = search rules in
    ended limits c.events.pull c.events.walk c.events.keeper bytes q
    (c.finish.ensures.done bytes (length q.events) q.finished q.pulled told)

pub returns-in-Err : goal.returns-in-Err
returns-in-Err c = λ limits bytes h.
    let f = c.in-Err.fault in
    let e = c.finish.ensures in
    let q = c.events.invariant limits bytes h in
    told_ends c.told.result f limits c.events.walk c.events.keeper bytes c.told.ensures.same
    c.told.ensures.not_memory (λ m.
    stays_last bytes f m (λ at i. e.syntax bytes (length q.events) at q.finished q.pulled (c.in-Err.is ∙ ap Err i))
    (λ at i. e.first bytes (length q.events) at q.finished q.pulled (c.in-Err.is ∙ ap Err i))
    (λ at i. e.too_deep bytes (length q.events) at q.finished q.pulled (c.in-Err.is ∙ ap Err i)))

pub events-preserved : goal.events-preserved
events-preserved c = λ limits bytes h.
    let e = c.in-Ok-Event.event in
    let new = c.finish.new.self in
    let told : c.finish.result ≡ Ok (pulled.Event e) = search rules in
    end_more limits c.events.pull new c.events.walk c.take_event.new.walk c.events.keeper
    c.take_event.new.keeper bytes (event_view e)
    (λ given finished s. subst (λ (r : Result Pulled TextFault). Stands new bytes (given_after r given)
    (finished_after r finished)) told (c.finish.ensures.stands bytes given finished s))
    (λ given finished root s t. c.finish.ensures.next bytes given finished e root s told t)
    (λ es t. c.in_ok-take_event-in-Ok-Event.ensures limits es t)
    (c.events.invariant limits bytes h)
