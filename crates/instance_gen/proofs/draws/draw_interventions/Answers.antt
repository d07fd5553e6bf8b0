use Rattle.std.proofs.Common.{◌∙◌, ap, sym, refl}
use Rattle.instance_gen.specs.Drawing.{Drawn, generator_of, nothing_drawn, with_intervention, interventions_of}
use Rattle.instance_gen.proofs.StepLemmas.{intervention-more}
use Rattle.instance_gen.proofs.draws.draw_interventions.Goals as goal

pub loop-k-init : goal.loop-k-init
unfolding interventions_of nothing_drawn generator_of
loop-k-init c =
    rw (c.new.ensures.items, c.new-2.ensures.items, c.new-3.ensures.items, c.seed_from_u64.ensures) refl

pub loop-k-preserved : goal.loop-k-preserved
loop-k-preserved c =
    c.in_ok-draws.ensures
    ∙ ap (λ (d : Drawn). with_intervention d) c.loop-k.invariant
    ∙ sym (intervention-more c.args.seed c.loop-k.k)
