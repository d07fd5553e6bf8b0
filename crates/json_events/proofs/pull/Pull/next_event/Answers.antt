use Rattle.std.proofs.Common.{Ok, false, subst}
use Rattle.json_events.specs.Steps.{Steps}
use Rattle.json_events.specs.declared.pull.Step.{Step}
use Rattle.json_events.proofs.Standing.{used_count}
use Rattle.json_events.proofs.pull.Pull.next_event.Goals as goal

pub returns-in-Used-clause-more : goal.returns-in-Used-clause-more
returns-in-Used-clause-more c stream given h _ =
    let step = subst (λ (s : Step). Steps (Ok s) c.advance.new.self stream given false) c.in-Used.is
    (c.in_ok-event.ensures.steps stream given false h) in
    used_count c.advance.new.self stream given step.0
