use Rattle.std.proofs.Common.{take}
use Rattle.std.specs.List.{flat_map}
use Rattle.plan_desk.specs.Written.{HasPut}
use Rattle.plan_desk.specs.Written.Way.{writing}
use Rattle.plan_desk.proofs.loops.write_pieces.Given as goal

abbrev pub invariant-loop-piece : goal.invariant-loop-piece
invariant-loop-piece g l = HasPut writing (flat_map (λ piece. piece.now) (take l.piece-index l.pieces))
    (g.D.Desk.shows l.fn.desk) (g.D.Desk.shows l.desk)
