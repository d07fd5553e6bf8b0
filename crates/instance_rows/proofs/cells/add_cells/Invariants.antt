use Rattle.std.proofs.Common.{◌≡◌, ◌++◌, map, take}
use Rattle.instance_rows.specs.Cells.{kept}
use Rattle.instance_rows.specs.Views.{load_view}
use Rattle.instance_rows.proofs.cells.add_cells.Given as goal

abbrev pub invariant-loop-load : goal.invariant-loop-load
invariant-loop-load l = l.cells.items ≡ l.initial.cells.items ++ kept l.periods l.durations l.resource (map load_view
    (take l.load-index l.loads))
