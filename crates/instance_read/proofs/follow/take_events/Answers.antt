use Rattle.std.proofs.Common.{◌≡◌, false, Ok, Err, Result, length, ap, ◌∙◌, subst, rules}
use Rattle.json_grammar.specs.Events.{event_view}
use Rattle.json_events.specs.Pulls.{Stands, given_after}
use Rattle.json_grammar.specs.declared.fault.TextFault.{TextFault}
use Rattle.json_events.specs.declared.pull.Pulled.{Pulled}
use Rattle.json_events.specs.declared.pull.Pulled.TheVariants as pulled
use Rattle.instance_read.proofs.Following.{follow_more, stays, told_follows}
use Rattle.instance_read.proofs.follow.take_events.Goals as goal

pub returns-in-Err : goal.returns-in-Err
returns-in-Err c =
    let f = c.in-Err.fault in
    let e = c.next_event.ensures in
    record {
      follows = λ limits bytes h.
          let q = c.in_ok-take_told.ensures.follows limits bytes (c.events.invariant.follows limits bytes h) in
          told_follows c.told.result f limits c.next_event.new.self c.take_told.new.walk
          c.take_told.new.keeper bytes c.told.ensures.same c.told.ensures.not_memory (λ m.
          stays bytes f m (λ at i. e.syntax bytes (length q.events) at q.pulled (c.in-Err.is ∙ ap Err i))
          (λ at i. e.first bytes (length q.events) at q.pulled (c.in-Err.is ∙ ap Err i))
          (λ at i. e.too_deep bytes (length q.events) at q.pulled (c.in-Err.is ∙ ap Err i)));
      unfinished = e.unfinished;
    }

pub events-preserved : goal.events-preserved
events-preserved c =
    let e = c.in-Ok-Event.event in
    let new = c.next_event.new.self in
    let told : c.next_event.result ≡ Ok (pulled.Event e) = search rules in
    record {
      unfinished = c.next_event.ensures.unfinished;
      follows = λ limits bytes h.
          follow_more limits c.take_told.new.pull new c.take_told.new.walk c.take_event.new.walk
          c.take_told.new.keeper c.take_event.new.keeper bytes (event_view e)
          (λ given s. subst (λ (r : Result Pulled TextFault). Stands new bytes (given_after r given) false) told
          (c.next_event.ensures.stands bytes given s))
          (λ given s. c.next_event.ensures.next bytes given e s told)
          (λ es t. c.in_ok-take_event-in-Ok-Event.ensures limits es t)
          (c.in_ok-take_told.ensures.follows limits bytes (c.events.invariant.follows limits bytes h));
    }
