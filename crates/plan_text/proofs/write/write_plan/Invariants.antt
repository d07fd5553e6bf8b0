use Rattle.std.proofs.Common.{take}
use Rattle.plan_desk.specs.Written.{HasPut}
use Rattle.plan_desk.specs.Written.Way.{writing}
use Rattle.plan_text.specs.Spelling.{plan_text}
use Rattle.plan_text.proofs.write.write_plan.Given as goal

abbrev pub invariant-loop-i : goal.invariant-loop-i
invariant-loop-i g l = HasPut writing (plan_text l.inst.names (take l.i l.starts)) (g.D.Desk.shows l.fn.desk)
    (g.D.Desk.shows l.desk)
