use Rattle.std.proofs.Common.{◌≡◌, None, map, take, string_bytes}
use Rattle.instance_shape.specs.CrossFaults.{first_in}
use Rattle.instance_rows.specs.RowFaults.{workload_fault}
use Rattle.instance_rows.specs.Views.{workload_view}
use Rattle.instance_rows.proofs.checks.check_workloads.Given as goal

abbrev pub invariant-loop-workload : goal.invariant-loop-workload
invariant-loop-workload l = first_in (workload_fault (map string_bytes l.resources.texts.keys)) (map workload_view
    (take l.workload-index l.workloads)) ≡ None
