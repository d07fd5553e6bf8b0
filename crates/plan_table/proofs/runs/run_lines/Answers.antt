use Rattle.std.proofs.Common.{◌∙◌, ◌++◌, ◌∷◌, [], sym, ap, map, Some, Vec, Global, ℕ, get_or}
use Rattle.instance_model.specs.Plans.{is_running}
use Rattle.plan_table.specs.declared.report.RunLine.{RunLine}
use Rattle.plan_table.specs.Reports.{run_line_of}
use Rattle.plan_table.proofs.RangeLemmas.{one_passes, one_fails}
use Rattle.plan_table.proofs.runs.run_lines.Goals as goal
use Rattle.plan_table.proofs.runs.run_lines.Goals.{then-is_running+in_ok-push, else-is_running}

pub loop-i-preserved : goal.loop-i-preserved
loop-i-preserved g c =
    let p = λ (i : ℕ). is_running c.args.inst.now (map Some c.args.starts.now) i c.args.t in
    let f = λ (i : ℕ). run_line_of c.args.inst.now c.args.t i (get_or c.args.starts.now i 0) in
    elim c.if-is_running.branch [
      | then-is_running+in_ok-push w ↦
          one_passes f p c.loop-i.i c.loop-i.lines.items c.loop-i.invariant c.if-is_running.lines.items
          (ap (λ (v : Vec RunLine Global). v.items) w.lines-is ∙ w.in_ok-push.ensures.items
          ∙ ap (λ (x : RunLine). c.loop-i.lines.items ++ x ∷ []) w.run_line.ensures)
          (sym c.is_running.ensures.value ∙ w.if-is_running.true)
      | else-is_running w ↦
          ap (λ (v : Vec RunLine Global). v.items) w.lines-is
          ∙ one_fails f p c.loop-i.i c.loop-i.lines.items c.loop-i.invariant
          (sym c.is_running.ensures.value ∙ w.if-is_running.false)
    ]
