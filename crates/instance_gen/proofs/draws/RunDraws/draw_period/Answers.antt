use Rattle.std.proofs.Common.{◌≡◌, ◌∙◌, ap, subst, OnOk}
use Rattle.instance_gen.specs.Drawing.{Runs, with_second_load, with_risks, with_period}
use Rattle.instance_gen.proofs.draws.RunDraws.draw_period.Goals as goal

pub returns : goal.returns
unfolding with_period
returns c =
    subst (λ (d : Runs). OnOk c.draw_risks.result (c.draw_risks.new.self ≡ with_risks 8 d))
    (c.in_ok-draw_second_load.ensures
    ∙ ap (with_second_load c.args.s c.args.t) c.in_ok-draw_first_load.ensures) c.draw_risks.ensures
