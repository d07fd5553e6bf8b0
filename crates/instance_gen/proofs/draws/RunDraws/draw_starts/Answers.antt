use Rattle.std.proofs.Common.{◌+◌, ◌∙◌, ap, sym, refl, slice_index}
use Rattle.instance_gen.specs.Drawing.{with_run, with_starts}
use Rattle.instance_gen.proofs.StepLemmas.{start-more}
use Rattle.instance_gen.proofs.draws.RunDraws.draw_starts.Goals as goal

pub loop-k-init : goal.loop-k-init
unfolding with_starts
loop-k-init c = refl

pub loop-k-preserved : goal.loop-k-preserved
loop-k-preserved c =
    let durations = c.args.durations.now in
    let k = c.loop-k.k in
    c.in_ok-draw_run.ensures
    ∙ ap (with_run (k + 1) (slice_index durations k)) c.loop-k.invariant
    ∙ sym (start-more durations k c.args.self.now)
