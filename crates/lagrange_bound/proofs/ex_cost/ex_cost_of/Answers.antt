use Rattle.std.proofs.Common.{◌∙◌, ap}
use Rattle.instance_model.specs.declared.parts.Exclusion.{Exclusion}
use Rattle.lagrange_bound.specs.Worth.{times_named}
use Rattle.lagrange_bound.proofs.ExCountLemmas.{ex_share_idle, ex_share_running}
use Rattle.lagrange_bound.proofs.ex_cost.ex_cost_of.Goals as goal

pub returns-then-not-in_run-clause-value : goal.returns-then-not-in_run-clause-value
returns-then-not-in_run-clause-value c = ex_share_idle c.args.inst.now c.args.x c.args.i c.args.window.from
    c.in_run.result (c.in_run.ensures ∙ c.requires.window c.args.x.period) c.if-not-in_run.true

pub returns-clause-value : goal.returns-clause-value
returns-clause-value c =
    ex_share_running c.args.inst.now c.args.x c.args.i c.args.window.from c.times_named.result c.in_run.result
    (c.in_run.ensures ∙ c.requires.window c.args.x.period) c.if-not-in_run.false
    (c.times_named.ensures.value ∙ ap (λ (e : Exclusion). times_named e c.args.i) c.exclusion.ensures.value)
