use Rattle.std.proofs.Common.{take}
use Rattle.std.specs.List.{flat_map}
use Rattle.plan_desk.specs.Written.{HasPut}
use Rattle.plan_desk.specs.Written.Way.{saying}
use Rattle.plan_table.specs.Texts.{clash_text}
use Rattle.plan_table.proofs.say.say_clashes.Given as goal

abbrev pub invariant-loop-e : goal.invariant-loop-e
invariant-loop-e g l = HasPut saying (flat_map (clash_text l.inst) (take l.e-index l.clashes))
    (g.D.Desk.shows l.fn.desk) (g.D.Desk.shows l.desk)
