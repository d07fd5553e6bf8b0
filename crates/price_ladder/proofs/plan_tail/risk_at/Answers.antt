use Rattle.std.proofs.Common.{◌∙◌}
use Rattle.price_ladder.proofs.PlanTailLemmas.{risk_idle, risk_running}
use Rattle.price_ladder.proofs.plan_tail.risk_at.Goals as goal

pub returns-then-not-in_run : goal.returns-then-not-in_run
returns-then-not-in_run g c = risk_idle c.args.inst.now c.args.t c.args.k c.args.i c.args.s c.in_run.result
    c.zero.result (c.in_run.ensures ∙ c.run.ensures.periods c.args.t) c.if-not-in_run.true c.zero.ensures

pub returns : goal.returns
returns g c = risk_running c.args.inst.now c.args.t c.args.k c.args.i c.args.s c.in_run.result c.risk_cell.result
    (c.in_run.ensures ∙ c.run.ensures.periods c.args.t) c.if-not-in_run.false c.risk_cell.ensures.value
