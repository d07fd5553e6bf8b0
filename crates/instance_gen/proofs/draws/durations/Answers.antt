use Rattle.std.proofs.Common.{ℕ, ◌+◌, ◌∙◌, ap, sym, List, [], ◌∷◌, ◌++◌}
use Rattle.rand_pcg.specs.Lcg.{Lcg}
use Rattle.instance_gen.specs.Drawing.{Durations, with_duration, with_durations}
use Rattle.instance_gen.proofs.StepLemmas.{duration-more}
use Rattle.instance_gen.proofs.draws.durations.Goals as goal

pub loop-k-init : goal.loop-k-init
unfolding with_durations
loop-k-init c =
    ap (λ (durations : List ℕ). record { source = c.args.source.now; durations = durations })
    c.new-durations.ensures.items

pub loop-k-preserved : goal.loop-k-preserved
loop-k-preserved c =
    let before = c.loop-k.durations.items in
    let none : Durations = record { source = c.args.source.now; durations = [] } in
    ap (λ (durations : List ℕ). record { source = c.draw.new.source; durations = durations }) c.in_ok-push.ensures.items
    ∙ ap (λ (next : ℕ × Lcg). record { source = next.1; durations = before ++ (1 + next.0) ∷ [] }) c.draw.ensures.drawn
    ∙ ap with_duration c.loop-k.invariant
    ∙ sym (duration-more c.loop-k.k none)
