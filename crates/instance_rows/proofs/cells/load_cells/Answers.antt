use Rattle.std.proofs.Common.{List, map, string_bytes, subst}
use Rattle.std.specs.Prelude.{IsPermutation}
use Rattle.instance_model.specs.declared.parts.LoadCell.{LoadCell}
use Rattle.instance_rows.specs.Views.{workload_view}
use Rattle.instance_rows.proofs.CellLaw.{sorted_is}
use Rattle.instance_rows.proofs.cells.load_cells.Goals as goal

pub returns : goal.returns
returns c = sorted_is c.args.periods c.args.durations.now (map string_bytes c.args.resources.now.texts.keys)
    (map workload_view c.args.workloads.now) c.sort_cells.new.cells.items c.requires.names c.requires.apart
    (subst (λ (q : List LoadCell). IsPermutation q c.sort_cells.new.cells.items) c.in_ok-cells.ensures
    c.sort_cells.ensures.permutation) c.sort_cells.ensures.sorted
