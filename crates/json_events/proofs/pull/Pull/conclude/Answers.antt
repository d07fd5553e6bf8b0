use Rattle.std.proofs.Common.{[], ◌∷◌, Some, ap, ◌∙◌}
use Rattle.json_machine.specs.Machines.{event_of, told_last}
use Rattle.json_events.proofs.Standing.{cut_for_some, cut_concludes, over_for_some, last_is_sound, done_concludes}
use Rattle.json_events.proofs.Standing.{last_concludes, concluded_last, concluded_done}
use Rattle.json_events.proofs.pull.Pull.conclude.Goals as goal
use Rattle.json_events.proofs.pull.Pull.conclude.Goals.{in-Some, in-None}

pub invariant_of-self : goal.invariant_of-self
invariant_of-self c = cut_for_some c.self.inside c.args.self.now c.at-at.result c.may_finish.result c.at-at.ensures
    c.requires c.self.view_is c.may_finish.ensures c.if-not-may_finish.true c.self.invariant

pub returns-then-not-may_finish-clause-concludes : goal.returns-then-not-may_finish-clause-concludes
returns-then-not-may_finish-clause-concludes c stream given h = cut_concludes c.self.inside c.args.self.now
    c.at-at.result c.may_finish.result stream given c.at-at.ensures c.self.view_is c.may_finish.ensures
    c.if-not-may_finish.true h

pub sound_event-requires : goal.sound_event-requires
sound_event-requires c =
    (last_is_sound c.self.inside c.args.self.now (event_of c.in-Some.event ∷ []) c.requires c.self.view_is
    (c.in_ok-last.ensures.tells ∙ ap (λ o. Some (told_last o)) c.in-Some.is) c.self.invariant).0

pub invariant_of-self-2 : goal.invariant_of-self-2
invariant_of-self-2 c = over_for_some c.self.inside c.args.self.now (told_last c.in_ok-last.last) c.requires
    c.self.view_is c.in_ok-last.ensures.tells c.self.invariant

pub returns-clause-concludes : goal.returns-clause-concludes
returns-clause-concludes c stream given h =
    elim c.match-last.branch [
      | in-Some w ↦ concluded_last c.match-last.result w.sound_event.result (event_of w.in-Some.event) _ stream given
          w.result-is w.sound_event.ensures
          (last_concludes c.self.inside c.args.self.now (event_of w.in-Some.event) stream given c.self.view_is
          (c.in_ok-last.ensures.tells ∙ ap (λ o. Some (told_last o)) w.in-Some.is) h)
      | in-None w ↦ concluded_done c.match-last.result _ stream given w.result-is
          (done_concludes c.self.inside c.args.self.now stream given c.self.view_is
          (c.in_ok-last.ensures.tells ∙ ap (λ o. Some (told_last o)) w.in-None.is) h)
    ]
