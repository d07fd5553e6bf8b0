use Rattle.std.proofs.Common.{take}
use Rattle.std.specs.List.{flat_map}
use Rattle.plan_desk.specs.Written.{HasPut}
use Rattle.plan_desk.specs.Written.Way.{saying}
use Rattle.plan_desk.proofs.loops.say_pieces.Given as goal

abbrev pub invariant-loop-piece : goal.invariant-loop-piece
invariant-loop-piece g l = HasPut saying (flat_map (λ piece. piece.now) (take l.piece-index l.pieces))
    (g.D.Desk.shows l.fn.desk) (g.D.Desk.shows l.desk)
