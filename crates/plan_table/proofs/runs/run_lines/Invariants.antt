use Rattle.std.proofs.Common.{◌≡◌, filter, map, Some, get_or}
use Rattle.std.specs.List.{range_with_len}
use Rattle.instance_model.specs.Plans.{is_running}
use Rattle.plan_table.specs.Reports.{run_line_of}
use Rattle.plan_table.proofs.runs.run_lines.Given as goal

abbrev pub invariant-loop-i : goal.invariant-loop-i
invariant-loop-i g l =
    l.lines.items
    ≡ map (λ i. run_line_of l.inst l.t i (get_or l.starts i 0))
    (filter (λ i. is_running l.inst (map Some l.starts) i l.t) (range_with_len 0 l.i))
