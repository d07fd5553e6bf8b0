use Rattle.std.proofs.Common.{◌∙◌, ap, sym, refl}
use Rattle.instance_gen.specs.Drawing.{with_risk, with_risks}
use Rattle.instance_gen.proofs.StepLemmas.{risk-more}
use Rattle.instance_gen.proofs.draws.RunDraws.draw_risks.Goals as goal

pub loop-k-init : goal.loop-k-init
unfolding with_risks
loop-k-init c = refl

pub loop-k-preserved : goal.loop-k-preserved
loop-k-preserved c =
    c.in_ok-draw_risk.ensures ∙ ap with_risk c.loop-k.invariant ∙ sym (risk-more c.loop-k.k c.args.self.now)
