use Rattle.std.proofs.Common.{◌∙◌}
use Rattle.certificate_tree.proofs.LoadLemmas.{load_idle, load_running}
use Rattle.certificate_tree.proofs.band.load_at_start.Goals as goal

pub returns-then-not-in_run : goal.returns-then-not-in_run
returns-then-not-in_run c = load_idle c.args.inst.now c.args.c c.args.t c.args.i c.args.s c.in_run.result c.zero.result
    (c.in_run.ensures ∙ c.run.ensures.periods c.args.t) c.if-not-in_run.true c.zero.ensures

pub returns : goal.returns
returns c = load_running c.args.inst.now c.args.c c.args.t c.args.i c.args.s c.in_run.result c.load.result
    (c.in_run.ensures ∙ c.run.ensures.periods c.args.t) c.if-not-in_run.false c.load.ensures
