use Rattle.std.proofs.Common.{◌≡◌, map, Some}
use Rattle.instance_model.specs.Plans.{sums_before}
use Rattle.scenario_rows.proofs.runs.sums_of.Given as goal

abbrev pub invariant-loop-i : goal.invariant-loop-i
invariant-loop-i g l = l.sums.items ≡ sums_before l.inst (map Some l.starts) l.t l.i
