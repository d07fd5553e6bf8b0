use Rattle.std.proofs.Common.{◌≡◌, ◌++◌}
use Rattle.instance_gen.specs.Drawn.{level_limits}
use Rattle.instance_gen.proofs.parts.add_limits.Given as goal

abbrev pub invariant-loop-k : goal.invariant-loop-k
invariant-loop-k l = l.limits.items ≡ l.fn.limits.items ++ level_limits l.k l.limit
