use Rattle.std.proofs.Common.{◌≡◌, ◌++◌, None}
use Rattle.instance_rows.specs.Grid.{run_order}
use Rattle.instance_rows.specs.RowFaults.{run_fault}
use Rattle.instance_rows.proofs.order.add_run.Given as goal

abbrev pub invariant-loop-j : goal.invariant-loop-j
invariant-loop-j l = record {
  none : run_fault l.asked.counts.now l.asked.name.now l.asked.lists.now l.start l.j ≡ None;
  order : l.order.items ≡ l.initial.order.items ++ run_order l.asked.lists.now l.start l.j;
}
