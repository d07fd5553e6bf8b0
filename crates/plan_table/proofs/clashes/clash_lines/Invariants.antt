use Rattle.std.proofs.Common.{◌≡◌, filter, map, Some}
use Rattle.std.specs.List.{range_with_len}
use Rattle.instance_model.specs.Rules.{clashes}
use Rattle.plan_table.proofs.clashes.clash_lines.Given as goal

abbrev pub invariant-loop-e : goal.invariant-loop-e
invariant-loop-e l = l.lines.items ≡ filter (λ e. clashes l.inst (map Some l.starts) e l.t) (range_with_len 0 l.e)
