use Rattle.std.proofs.Common.{◌≡◌, ◌+◌, [], None, cond}
use Rattle.std.specs.Prelude.{slice_index}
use Rattle.instance_model.specs.Rules.{first_of}
use Rattle.instance_model.specs.Tables.{allowed_of}
use Rattle.instance_shape.specs.FileTables.{lists_below}
use Rattle.instance_rows.specs.Grid.{run_order}
use Rattle.instance_rows.specs.RowFaults.{run_fault}
use Rattle.instance_rows.proofs.order.order_runs.Given as goal

abbrev pub invariant-loop-k : goal.invariant-loop-k
invariant-loop-k l = record {
  none : first_of l.k (λ k. cond (allowed_of l.asked.grid.now.periods l.durations (k + 1))
      (run_fault l.asked.counts.now l.asked.name.now l.asked.lists.now (k + 1) (slice_index l.durations k)) None)
      ≡ None;
  order : l.order.items ≡ lists_below l.k (λ k. cond (allowed_of l.asked.grid.now.periods l.durations (k + 1))
      (run_order l.asked.lists.now (k + 1) (slice_index l.durations k)) []);
}
