use Rattle.std.proofs.Common.{take}
use Rattle.std.specs.List.{flat_map}
use Rattle.plan_desk.specs.Written.{HasPut}
use Rattle.plan_desk.specs.Written.Way.{saying}
use Rattle.plan_table.specs.Texts.{load_text}
use Rattle.plan_table.proofs.say.say_loads.Given as goal

abbrev pub invariant-loop-line : goal.invariant-loop-line
invariant-loop-line g l = HasPut saying (flat_map (load_text l.inst) (take l.line-index l.loads))
    (g.D.Desk.shows l.fn.desk) (g.D.Desk.shows l.desk)
