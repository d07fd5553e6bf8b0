use Rattle.std.proofs.Common.{◌<◌, ◌++◌, ◌∷◌, [], ℕ, List, Vec, Global, map, length, string_bytes, sym, ◌∙◌, ap, subst}
use Rattle.std.specs.Prelude.{All, slice_index_or}
use Rattle.std.proofs.lemmas.List.{map-append}
use Rattle.instance_model.specs.declared.parts.LoadCell.{LoadCell}
use Rattle.instance_model.specs.RunRisks.{no_list, runs_of}
use Rattle.instance_rows.specs.RowFaults.{used_durations}
use Rattle.instance_rows.specs.RowTables.{each_run, cells_at}
use Rattle.instance_rows.specs.Views.{work_view, workload_view}
use Rattle.instance_rows.proofs.OrderLaw.{order_below, tables_more}
use Rattle.instance_rows.proofs.fill.add_work.Goals as goal

pub invariant_of-push : goal.invariant_of-push
invariant_of-push c = record {
  known = subst (λ (ks : List ℕ). All (λ k. k < length c.args.work.risks) ks) (sym c.requires.order)
      (order_below c.args.periods (work_view c.args.work));
}

pub returns : goal.returns
returns c = λ works a.
    let w = work_view c.args.work in let names = map string_bytes c.args.resources.now.texts.keys in
    tables_more c.args.periods names works w c.args.tables.now _
    (ap (map (λ (v : Vec ℕ Global). v.items)) c.in_ok-push-3.ensures.items
    ∙ map-append (λ (v : Vec ℕ Global). v.items) c.args.tables.now.delta.items (c.truncate.new.self ∷ [])
    ∙ ap (λ (ds : List ℕ). map (λ (v : Vec ℕ Global). v.items) c.args.tables.now.delta.items ++ ds ∷ [])
    c.truncate.ensures.items)
    (ap (map (λ (v : Vec LoadCell Global). v.items)) c.in_ok-push-2.ensures.items
    ∙ map-append (λ (v : Vec LoadCell Global). v.items) c.args.tables.now.loads.items (c.in_ok-cells.cells ∷ [])
    ∙ ap (λ (zs : List LoadCell). map (λ (v : Vec LoadCell Global). v.items) c.args.tables.now.loads.items ++ zs ∷ [])
    (c.in_ok-cells.ensures
    ∙ ap (λ (ds : List ℕ). each_run c.args.periods ds (cells_at names (map workload_view c.as_slice-2.result.now)))
    (c.as_slice.ensures.value ∙ c.truncate.ensures.items)
    ∙ ap (λ ws. each_run c.args.periods (used_durations w) (cells_at names (map workload_view ws)))
    c.as_slice-2.ensures.value))
    (ap (map runs_of) c.in_ok-push.ensures.items ∙ map-append runs_of c.args.tables.now.risks.items _
    ∙ ap (λ (ks : List ℕ). map runs_of c.args.tables.now.risks.items
    ++ map (λ k. slice_index_or c.args.work.risks k no_list) ks ∷ []) c.requires.order)
    a
