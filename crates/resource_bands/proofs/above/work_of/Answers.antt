use Rattle.std.proofs.Common.{◌≡◌, ◌∙◌, sym, arith, true, false}
use Rattle.fixed_num.proofs.SignedLemmas.{back_from_abs}
use Rattle.instance_model.specs.Tables.{in_run}
use Rattle.instance_model.proofs.BoardLemmas.{load_at-idle, load_at-running}
use Rattle.resource_bands.proofs.above.work_of.Goals as goal

pub returns-then-in_run-clause-value : goal.returns-then-in_run-clause-value
returns-then-in_run-clause-value c =
    let running : in_run c.args.inst.now c.args.i c.args.s c.args.t ≡ true =
    sym (c.in_run.ensures ∙ c.run.ensures.periods c.args.t) ∙ c.if-in_run.true in
    c.of.ensures ∙ back_from_abs c.count.result (omega (arith, c.count.ensures.small)) ∙ c.count.ensures.value
    ∙ c.load.ensures ∙ sym (load_at-running c.args.inst.now c.args.c c.args.t c.args.i c.args.s running)

pub returns-else-in_run-clause-value : goal.returns-else-in_run-clause-value
returns-else-in_run-clause-value c =
    let idle : in_run c.args.inst.now c.args.i c.args.s c.args.t ≡ false =
    sym (c.in_run.ensures ∙ c.run.ensures.periods c.args.t) ∙ c.if-in_run.false in
    c.zero.ensures ∙ sym (load_at-idle c.args.inst.now c.args.c c.args.t c.args.i c.args.s idle)
