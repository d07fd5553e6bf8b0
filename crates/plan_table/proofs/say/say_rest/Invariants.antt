use Rattle.std.proofs.Common.{take, ◌∷◌}
use Rattle.std.specs.List.{flat_map}
use Rattle.plan_desk.specs.Written.{HasPut}
use Rattle.plan_desk.specs.Written.Way.{saying}
use Rattle.plan_table.proofs.say.say_rest.Given as goal

abbrev pub invariant-loop-word : goal.invariant-loop-word
invariant-loop-word g l = HasPut saying (flat_map (λ word. 32 ∷ word.now) (take l.word-index l.rest))
    (g.D.Desk.shows l.fn.desk) (g.D.Desk.shows l.desk)
