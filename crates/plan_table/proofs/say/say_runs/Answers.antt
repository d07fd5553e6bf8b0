use Rattle.std.proofs.Common.{rules}
use Rattle.plan_desk.specs.Written.Way.{saying}
use Rattle.plan_desk.proofs.Written.{begins, next, stops_at}
use Rattle.plan_table.specs.Texts.{run_text}
use Rattle.plan_table.proofs.say.say_runs.Goals as goal

pub loop-line-init : goal.loop-line-init
loop-line-init g c = begins saying (g.D.Desk.shows c.args.desk.now)

pub returns-in_err-say_run : goal.returns-in_err-say_run
returns-in_err-say_run g c =
    stops_at saying (run_text c.args.inst.now) c.args.runs.now c.loop-line.line-index _ (search rules)
    c.from_residual.result (search rules) c.loop-line.invariant c.in_err-say_run.ensures

pub loop-line-preserved : goal.loop-line-preserved
loop-line-preserved g c =
    next saying (run_text c.args.inst.now) c.args.runs.now c.loop-line.line-index _ (search rules)
    c.loop-line.invariant c.in_ok-say_run.ensures
