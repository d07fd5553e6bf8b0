use Rattle.std.proofs.Common.{◌≡◌}
use Rattle.instance_gen.specs.Drawn.{drawn_exclusions}
use Rattle.instance_gen.proofs.parts.exclusions.Given as goal

abbrev pub invariant-loop-k : goal.invariant-loop-k
invariant-loop-k l = l.excluded.items ≡ drawn_exclusions l.k
