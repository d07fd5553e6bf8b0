use Rattle.std.proofs.Common.{ap, ◌∙◌, [], ◌∷◌}
use Rattle.json_machine.specs.Machines.{state_of, answer_of, event_of}
use Rattle.json_tree.proofs.tree_reader.advance_aloud.Goals as goal

pub feed-requires-clause-sound : goal.feed-requires-clause-sound
feed-requires-clause-sound c = let h = c.requires.told (state_of c.step.new.self) (event_of c.in-One.event
    ∷ []) (c.in_ok-step.ensures.moves ∙ ap (λ a. answer_of a (state_of c.step.new.self)) c.in-One.is) in h.0

pub feed-requires-in-Two-clause-sound : goal.feed-requires-in-Two-clause-sound
feed-requires-in-Two-clause-sound c = let h =
    c.requires.told (state_of c.step.new.self) (event_of c.in-Two.number ∷ event_of c.in-Two.event
    ∷ []) (c.in_ok-step.ensures.moves ∙ ap (λ a. answer_of a (state_of c.step.new.self)) c.in-Two.is) in h.0

pub feed-requires-in-Two-2-clause-sound : goal.feed-requires-in-Two-2-clause-sound
feed-requires-in-Two-2-clause-sound c = let h =
    c.requires.told (state_of c.step.new.self) (event_of c.in-Two.number ∷ event_of c.in-Two.event
    ∷ []) (c.in_ok-step.ensures.moves ∙ ap (λ a. answer_of a (state_of c.step.new.self)) c.in-Two.is) in h.1.0
