use Rattle.std.proofs.Common.{◌∙◌, sym, ap}
use Rattle.instance_model.specs.declared.parts.Exclusion.{Exclusion}
use Rattle.lagrange_bound.specs.Worth.{times_named}
use Rattle.price_ladder.proofs.WeightLemmas.{times_idle, times_unnamed, times_running}
use Rattle.price_ladder.proofs.weight.times_at.Goals as goal
use Rattle.price_ladder.proofs.weight.times_at.Goals.{then-times-eq0-via-then-times-eq0}
use Rattle.price_ladder.proofs.weight.times_at.Goals.{then-times-eq0-via-else-times-eq0+then-not-in_run}

pub returns-then-times-eq0-clause-value : goal.returns-then-times-eq0-clause-value
returns-then-times-eq0-clause-value c = elim c.then-times-eq0.branch [
  | then-times-eq0-via-then-times-eq0 w ↦
      times_unnamed c.args.inst.now c.args.e c.args.t c.args.i c.args.s c.times_named-times.result
      (c.times_named-times.ensures.value ∙ ap (λ (x : Exclusion). times_named x c.args.i) c.exclusion.ensures.value)
      w.if-times-eq0.true
  | then-times-eq0-via-else-times-eq0+then-not-in_run w ↦
      times_idle c.args.inst.now c.args.e c.args.t c.args.i c.args.s
      (sym (w.in_run.ensures ∙ w.run.ensures.periods c.args.t) ∙ w.if-not-in_run.true)
]

pub returns-clause-value : goal.returns-clause-value
returns-clause-value c = times_running c.args.inst.now c.args.e c.args.t c.args.i c.args.s c.times_named-times.result
    (sym (c.in_run.ensures ∙ c.run.ensures.periods c.args.t) ∙ c.if-not-in_run.false)
    (c.times_named-times.ensures.value ∙ ap (λ (x : Exclusion). times_named x c.args.i) c.exclusion.ensures.value)
