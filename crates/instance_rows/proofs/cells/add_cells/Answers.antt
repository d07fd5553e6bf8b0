use Rattle.std.proofs.Common.{◌≡◌, ◌++◌, ◌∷◌, [], List, Vec, Global, Bool, cond, true, false, map, take, sym, ◌∙◌, ap}
use Rattle.std.proofs.Common.{append_assoc, append-nil}
use Rattle.instance_model.specs.declared.parts.LoadCell.{LoadCell}
use Rattle.instance_rows.specs.Cells.{load_cell, kept}
use Rattle.instance_rows.specs.Views.{load_view}
use Rattle.instance_rows.proofs.CellTurns.{kept_more}
use Rattle.instance_rows.proofs.cells.add_cells.Goals as goal
use Rattle.instance_rows.proofs.cells.add_cells.Goals.{then-is_running+in_ok-push, else-is_running}

-- a choice, by the value of its test
under : {A : Type 0} {b : Bool} (c : Bool) → b ≡ c → (x y : A) → cond b x y ≡ cond c x y
under c e x y = ap (λ q. cond q x y) e

pub loop-load-preserved : goal.loop-load-preserved
loop-load-preserved c =
    let ls = map load_view (take c.loop-load.load-index c.args.loads.now) in let x = c.load-item.result in
    let before : List LoadCell = c.args.cells.now.items in
    let so_far : List LoadCell = kept c.args.periods c.args.durations.now c.args.resource ls in
    let one : List LoadCell = load_cell c.args.resource (load_view x) ∷ [] in
    (elim c.if-is_running.branch [
      | then-is_running+in_ok-push w ↦
          ap (λ (v : Vec LoadCell Global). v.items) w.cells-is ∙ w.in_ok-push.ensures.items
          ∙ ap (λ q. q ++ one) c.loop-load.invariant ∙ append_assoc before so_far one
          ∙ ap (λ q. before ++ (so_far ++ q)) (sym (under true (sym w.if-is_running.ensures) one []))
      | else-is_running w ↦
          ap (λ (v : Vec LoadCell Global). v.items) w.cells-is ∙ c.loop-load.invariant
          ∙ ap (λ q. before ++ q) (sym (append-nil so_far))
          ∙ ap (λ q. before ++ (so_far ++ q)) (sym (under false (sym w.if-is_running.ensures) one []))
    ])
    ∙ ap (λ q. before ++ q)
    (sym (kept_more c.args.periods c.args.durations.now c.args.resource load_view c.args.loads.now
    c.loop-load.load-index x c.loop-load-test.true c.load-item.is))
