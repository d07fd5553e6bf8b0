use Rattle.std.proofs.Common.{ap, ◌∙◌, Some, [], ◌∷◌}
use Rattle.json_machine.specs.Machines.{told_last, event_of}
use Rattle.json_tree.proofs.tree_reader.conclude.Goals as goal

pub feed-requires-clause-sound : goal.feed-requires-clause-sound
feed-requires-clause-sound c = let h = c.requires.told (event_of c.in-Some.event ∷ []) (c.in_ok-event.ensures.tells
    ∙ ap (λ r. Some (told_last r)) c.in-Some.is) in h.0
