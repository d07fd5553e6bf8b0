use Rattle.std.proofs.Common.{◌≡◌, None, map, take, string_bytes}
use Rattle.instance_model.specs.Rules.{first_of}
use Rattle.instance_rows.specs.RowFaults.{exclusion_fault_at}
use Rattle.instance_rows.specs.RowTables.{exclusion_of}
use Rattle.instance_rows.specs.Views.{rows_view}
use Rattle.instance_rows.proofs.exclusions.exclusions.Given as goal

abbrev pub invariant-loop-i : goal.invariant-loop-i
invariant-loop-i l = record {
  none : first_of l.i (exclusion_fault_at (rows_view l.rows)) ≡ None;
  values : l.excluded.items ≡ map (λ e. exclusion_of (rows_view l.rows) (map string_bytes e.items)) (take l.i
      l.rows.exclusion_words.items);
}
