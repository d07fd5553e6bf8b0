use Rattle.std.proofs.Common.{◌≡◌, map, take, string_bytes}
use Rattle.instance_rows.specs.Cells.{all_kept}
use Rattle.instance_rows.specs.Views.{workload_view}
use Rattle.instance_rows.proofs.cells.all_cells.Given as goal

abbrev pub invariant-loop-workload : goal.invariant-loop-workload
invariant-loop-workload l = l.cells.items ≡ all_kept l.periods l.durations (map string_bytes l.resources.texts.keys)
    (map workload_view (take l.workload-index l.workloads))
