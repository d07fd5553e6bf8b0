use Rattle.std.proofs.Common.{◌≡◌, None, map, take}
use Rattle.instance_model.specs.Rules.{first_of}
use Rattle.instance_rows.specs.Grid.{order_of}
use Rattle.instance_rows.specs.RowFaults.{work_fault_at}
use Rattle.instance_rows.specs.Views.{rows_view, work_view}
use Rattle.instance_rows.proofs.works.orders.Given as goal

abbrev pub invariant-loop-i : goal.invariant-loop-i
invariant-loop-i l = record {
  none : first_of l.i (work_fault_at (rows_view l.rows)) ≡ None;
  orders : map (λ o. o.items) l.orders.items
      ≡ map (λ w. order_of l.rows.periods (work_view w)) (take l.i l.rows.works.items);
}
