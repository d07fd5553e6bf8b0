use Rattle.std.proofs.Common.{◌≡◌, []}
use Rattle.instance_gen.specs.Drawing.{with_durations}
use Rattle.instance_gen.proofs.draws.durations.Given as goal

abbrev pub invariant-loop-k : goal.invariant-loop-k
invariant-loop-k l =
    record { source = l.source; durations = l.durations.items }
    ≡ with_durations l.k (record { source = l.fn.source; durations = [] })
