use Rattle.std.proofs.Common.{◌≡◌, ◌++◌}
use Rattle.instance_gen.specs.Drawn.{season_from}
use Rattle.instance_gen.proofs.parts.add_season.Given as goal

abbrev pub invariant-loop-k : goal.invariant-loop-k
invariant-loop-k l = l.in_season.items ≡ l.fn.in_season.items ++ season_from l.k l.from l.to
