use Rattle.std.proofs.Common.{◌≡◌, ◌++◌, map, take}
use Rattle.std.specs.Prelude.{◌-ℤ◌}
use Rattle.instance_rows.proofs.limits.add_lowered.Given as goal

abbrev pub invariant-loop-count : goal.invariant-loop-count
invariant-loop-count l =
    l.limits.items ≡ l.initial.limits.items ++ map (λ z. z -ℤ l.slack) (take l.count-index l.counts)
