use Rattle.std.proofs.Common.{◌+◌, ◌∙◌, ap, sym, refl}
use Rattle.instance_gen.specs.Drawing.{with_period, with_run}
use Rattle.instance_gen.proofs.StepLemmas.{run-more}
use Rattle.instance_gen.proofs.draws.RunDraws.draw_run.Goals as goal

pub loop-k-init : goal.loop-k-init
unfolding with_run
loop-k-init c = refl

pub loop-k-preserved : goal.loop-k-preserved
loop-k-preserved c =
    let s = c.args.s in
    let k = c.loop-k.k in
    c.in_ok-draw_period.ensures
    ∙ ap (with_period s (s + k)) c.loop-k.invariant
    ∙ sym (run-more s k c.args.self.now)
