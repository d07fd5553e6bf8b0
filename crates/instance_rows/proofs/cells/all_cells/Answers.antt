use Rattle.std.proofs.Common.{◌≡◌, ◌++◌, ℕ, List, Vec, Global, map, take, position, string_bytes, bytes_eq, sym, ◌∙◌}
use Rattle.std.proofs.Common.{ap, append-nil}
use Rattle.instance_model.specs.declared.parts.LoadCell.{LoadCell}
use Rattle.instance_model.proofs.NameLemmas.{position-map}
use Rattle.instance_rows.specs.Cells.{kept, kept_of, all_kept}
use Rattle.instance_rows.specs.FileRows.{LoadRow}
use Rattle.instance_rows.specs.Views.{load_view, workload_view}
use Rattle.instance_rows.proofs.CellTurns.{all_kept_more}
use Rattle.instance_rows.proofs.cells.all_cells.Goals as goal
use Rattle.instance_rows.proofs.cells.all_cells.Goals.{in-Some+in_ok-add_cells, in_default}

pub loop-workload-preserved : goal.loop-workload-preserved
loop-workload-preserved c =
    let names = map string_bytes c.args.resources.now.texts.keys in let x = c.workload-item.result in
    let ws = map workload_view (take c.loop-workload.workload-index c.args.workloads.now) in
    let so_far : List LoadCell = all_kept c.args.periods c.args.durations.now names ws in
    let ls : List LoadRow = map load_view x.loads.items in
    -- where the name is
    let at : position (bytes_eq (string_bytes x.resource)) names ≡ c.index_of.result =
    ap (λ (t : List ℕ). position (bytes_eq t) names) (sym c.as_str.ensures.value)
    ∙ position-map (bytes_eq c.as_str.result.now) string_bytes c.args.resources.now.texts.keys
    ∙ sym c.index_of.ensures.index in
    (elim c.match-index_of.branch [
      | in-Some+in_ok-add_cells w ↦
          ap (λ (v : Vec LoadCell Global). v.items) w.cells-is ∙ w.in_ok-add_cells.ensures
          ∙ ap (λ q. q ++ kept c.args.periods c.args.durations.now w.in-Some.resource
          (map load_view w.as_slice.result.now)) c.loop-workload.invariant
          ∙ ap (λ q. so_far ++ kept c.args.periods c.args.durations.now w.in-Some.resource (map load_view q))
          w.as_slice.ensures.value
          ∙ ap (λ o. so_far ++ kept_of c.args.periods c.args.durations.now o ls) (sym (at ∙ w.in-Some.is))
      | in_default w ↦
          ap (λ (v : Vec LoadCell Global). v.items) w.cells-is ∙ c.loop-workload.invariant ∙ sym (append-nil so_far)
          ∙ ap (λ o. so_far ++ kept_of c.args.periods c.args.durations.now o ls) (sym (at ∙ w.in_default.is))
    ])
    ∙ sym (all_kept_more c.args.periods c.args.durations.now names workload_view c.args.workloads.now
    c.loop-workload.workload-index x c.loop-workload-test.true c.workload-item.is)
