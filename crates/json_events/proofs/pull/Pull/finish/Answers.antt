use Rattle.std.proofs.Common.{◌≡◌, Ok, subst}
use Rattle.json_grammar.specs.Events.{event_view}
use Rattle.json_events.specs.Steps.{IsNext, Steps}
use Rattle.json_grammar.specs.declared.event.Event.{Event}
use Rattle.json_events.specs.declared.pull.Step.{Step}
use Rattle.json_events.proofs.Standing.{next_of_stream}
use Rattle.json_events.proofs.pull.Pull.finish.Goals as goal

pub returns-in-Event-clause-next : goal.returns-in-Event-clause-next
returns-in-Event-clause-next c stream given finished e t h i x =
    let same : c.in-Event.event ≡ e = cc in
    let step = subst (λ (s : Step). Steps (Ok s) c.advance.new.self stream given finished) c.in-Event.is
    (c.in_ok-event.ensures.steps stream given finished h) in
    next_of_stream stream given (event_view e) t (subst (λ (v : Event). IsNext stream given (event_view v)) same step.0)
    x
