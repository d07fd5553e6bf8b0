use Rattle.std.proofs.Common.{◌≡◌, None}
use Rattle.instance_model.specs.Rules.{first_of}
use Rattle.instance_rows.specs.RowFaults.{band_fault_at}
use Rattle.instance_rows.specs.Views.{rows_view}
use Rattle.instance_rows.proofs.checks.check_bands.Given as goal

abbrev pub invariant-loop-i : goal.invariant-loop-i
invariant-loop-i l = first_of l.i (band_fault_at (rows_view l.rows)) ≡ None
