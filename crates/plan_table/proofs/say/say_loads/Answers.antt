use Rattle.std.proofs.Common.{rules}
use Rattle.plan_desk.specs.Written.Way.{saying}
use Rattle.plan_desk.proofs.Written.{begins, next, stops_at}
use Rattle.plan_table.specs.Texts.{load_text}
use Rattle.plan_table.proofs.say.say_loads.Goals as goal

pub loop-line-init : goal.loop-line-init
loop-line-init g c = begins saying (g.D.Desk.shows c.args.desk.now)

pub returns-in_err-say_load : goal.returns-in_err-say_load
returns-in_err-say_load g c =
    stops_at saying (load_text c.args.inst.now) c.args.loads.now c.loop-line.line-index _ (search rules)
    c.from_residual.result (search rules) c.loop-line.invariant c.in_err-say_load.ensures

pub loop-line-preserved : goal.loop-line-preserved
loop-line-preserved g c =
    next saying (load_text c.args.inst.now) c.args.loads.now c.loop-line.line-index _ (search rules)
    c.loop-line.invariant c.in_ok-say_load.ensures
