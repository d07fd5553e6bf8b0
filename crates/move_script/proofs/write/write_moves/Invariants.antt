use Rattle.std.proofs.Common.{take}
use Rattle.plan_desk.specs.Written.{HasPut}
use Rattle.plan_desk.specs.Written.Way.{writing}
use Rattle.move_script.specs.Spelling.{moves_text}
use Rattle.move_script.proofs.write.write_moves.Given as goal

abbrev pub invariant-loop-change : goal.invariant-loop-change
invariant-loop-change g l = HasPut writing (moves_text l.inst.names (take l.change-index l.moves))
    (g.D.Desk.shows l.fn.desk) (g.D.Desk.shows l.desk)
