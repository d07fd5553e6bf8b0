use Rattle.std.proofs.Common.{◌≡◌, map}
use Rattle.std.specs.List.{range_with_len}
use Rattle.plan_table.specs.Reports.{load_line_of}
use Rattle.plan_table.proofs.loads.load_lines.Given as goal

abbrev pub invariant-loop-c : goal.invariant-loop-c
invariant-loop-c l = l.lines.items ≡ map (load_line_of l.inst l.plan l.t) (range_with_len 0 l.c)
