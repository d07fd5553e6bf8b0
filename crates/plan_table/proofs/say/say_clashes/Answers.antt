use Rattle.std.proofs.Common.{rules}
use Rattle.plan_desk.specs.Written.Way.{saying}
use Rattle.plan_desk.proofs.Written.{begins, next, stops_at}
use Rattle.plan_table.specs.Texts.{clash_text}
use Rattle.plan_table.proofs.say.say_clashes.Goals as goal

pub loop-e-init : goal.loop-e-init
loop-e-init g c = begins saying (g.D.Desk.shows c.args.desk.now)

pub returns-in_err-say_clash : goal.returns-in_err-say_clash
returns-in_err-say_clash g c =
    stops_at saying (clash_text c.args.inst.now) c.args.clashes.now c.loop-e.e-index _ (search rules)
    c.from_residual.result (search rules) c.loop-e.invariant c.in_err-say_clash.ensures

pub loop-e-preserved : goal.loop-e-preserved
loop-e-preserved g c =
    next saying (clash_text c.args.inst.now) c.args.clashes.now c.loop-e.e-index _ (search rules)
    c.loop-e.invariant c.in_ok-say_clash.ensures
