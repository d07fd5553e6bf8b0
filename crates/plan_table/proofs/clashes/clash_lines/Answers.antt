use Rattle.std.proofs.Common.{◌∙◌, sym, ap, map, Some, Vec, Global, ℕ}
use Rattle.instance_model.specs.Rules.{clashes}
use Rattle.plan_table.proofs.RangeLemmas.{number_passes, number_fails}
use Rattle.plan_table.proofs.clashes.clash_lines.Goals as goal
use Rattle.plan_table.proofs.clashes.clash_lines.Goals.{then-is_broken+in_ok-push, else-is_broken}

pub loop-e-preserved : goal.loop-e-preserved
loop-e-preserved c =
    let p = λ (e : ℕ). clashes c.args.inst.now (map Some c.args.starts.now) e c.args.t in
    elim c.if-is_broken.branch [
      | then-is_broken+in_ok-push w ↦
          number_passes p c.loop-e.e c.loop-e.lines.items c.loop-e.invariant c.if-is_broken.lines.items
          (ap (λ (v : Vec ℕ Global). v.items) w.lines-is ∙ w.in_ok-push.ensures.items)
          (sym c.is_broken.ensures ∙ w.if-is_broken.true)
      | else-is_broken w ↦
          ap (λ (v : Vec ℕ Global). v.items) w.lines-is
          ∙ number_fails p c.loop-e.e c.loop-e.lines.items c.loop-e.invariant
          (sym c.is_broken.ensures ∙ w.if-is_broken.false)
    ]
