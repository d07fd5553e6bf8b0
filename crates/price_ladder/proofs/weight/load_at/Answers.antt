use Rattle.std.proofs.Common.{◌∙◌, sym, arith}
use Rattle.fixed_num.proofs.SignedLemmas.{back_from_abs}
use Rattle.instance_model.proofs.BoardLemmas.{load_at-idle, load_at-running}
use Rattle.price_ladder.proofs.weight.load_at.Goals as goal

pub returns-then-not-in_run-clause-value : goal.returns-then-not-in_run-clause-value
returns-then-not-in_run-clause-value c = sym (load_at-idle c.args.inst.now c.args.c c.args.t c.args.i c.args.s
    (sym (c.in_run.ensures ∙ c.run.ensures.periods c.args.t) ∙ c.if-not-in_run.true))

pub returns-clause-value : goal.returns-clause-value
returns-clause-value c = back_from_abs c.count.result (omega (arith, c.count.ensures.small)) ∙ c.count.ensures.value
    ∙ c.load.ensures ∙ sym (load_at-running c.args.inst.now c.args.c c.args.t c.args.i c.args.s
    (sym (c.in_run.ensures ∙ c.run.ensures.periods c.args.t) ∙ c.if-not-in_run.false))
