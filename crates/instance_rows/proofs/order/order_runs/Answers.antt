use Rattle.std.proofs.Common.{◌≡◌, ℕ, ◌+◌, ◌++◌, [], List, Vec, Global, None, Option, Bool, cond, true, false, refl}
use Rattle.std.proofs.Common.{sym, ◌∙◌, ap, append-nil}
use Rattle.std.specs.Prelude.{slice_index}
use Rattle.std.proofs.lemmas.Result.{err_from_is_err_and}
use Rattle.instance_model.specs.Rules.{first_of}
use Rattle.instance_model.specs.Tables.{allowed_of}
use Rattle.instance_shape.specs.CrossFaults.{CrossFault}
use Rattle.instance_shape.specs.FileTables.{lists_below}
use Rattle.instance_rows.specs.Grid.{run_order}
use Rattle.instance_rows.specs.RowFaults.{run_fault}
use Rattle.instance_rows.proofs.Firsts.{first_more}
use Rattle.instance_rows.proofs.Telling.{told_first}
use Rattle.instance_rows.proofs.Turns.{lists_more}
use Rattle.instance_rows.proofs.order.order_runs.Goals as goal
use Rattle.instance_rows.proofs.order.order_runs.Goals.{then-is_allowed_in+in_ok-add_run, else-is_allowed_in}

pub loop-k-init : goal.loop-k-init
unfolding first_of
loop-k-init c = record { none = refl; order = c.new-order.ensures.items }

pub returns-in_err-add_run-clause-told : goal.returns-in_err-add_run-clause-told
returns-in_err-add_run-clause-told c =
    let p = err_from_is_err_and c.from_residual.result c.from_residual.ensures.1 in
    let a = c.args.asked.now in let ds = c.args.durations.now in let k = c.loop-k.k in
    let b : allowed_of a.grid.now.periods ds (k + 1) ≡ true = sym c.if-is_allowed_in.ensures.value in
    rw (p.1, p.2)
    (told_first _ k (λ k. cond (allowed_of a.grid.now.periods ds (k + 1))
    (run_fault a.counts.now a.name.now a.lists.now (k + 1) (slice_index ds k)) None) _ _
    c.loop-k-test.true c.loop-k.invariant.none
    (ap (λ q. cond q (run_fault a.counts.now a.name.now a.lists.now (k + 1) (slice_index ds k)) None) (sym b))
    c.in_err-add_run.ensures.told)

-- a choice, by the value of its test
under : {A : Type 0} {b : Bool} (c : Bool) → b ≡ c → (x y : A) → cond b x y ≡ cond c x y
under c e x y = ap (λ q. cond q x y) e

pub loop-k-preserved : goal.loop-k-preserved
loop-k-preserved c =
    let a = c.args.asked.now in let ds = c.args.durations.now in let k = c.loop-k.k in
    let run : Option CrossFault = run_fault a.counts.now a.name.now a.lists.now (k + 1) (slice_index ds k) in
    let places : List ℕ = run_order a.lists.now (k + 1) (slice_index ds k) in
    let before : List ℕ = lists_below k
    (λ k. cond (allowed_of a.grid.now.periods ds (k + 1)) (run_order a.lists.now (k + 1) (slice_index ds k)) []) in
    record {
      none = first_more k (λ k. cond (allowed_of a.grid.now.periods ds (k + 1))
          (run_fault a.counts.now a.name.now a.lists.now (k + 1) (slice_index ds k)) None) c.loop-k.invariant.none
          (elim c.if-is_allowed_in.branch [
            | then-is_allowed_in+in_ok-add_run w ↦
                under true (sym w.if-is_allowed_in.ensures.value) run None ∙ w.in_ok-add_run.ensures.told
            | else-is_allowed_in w ↦ under false (sym w.if-is_allowed_in.ensures.value) run None
          ]);
      order =
          (elim c.if-is_allowed_in.branch [
            | then-is_allowed_in+in_ok-add_run w ↦
                ap (λ (v : Vec ℕ Global). v.items) w.order-is ∙ w.in_ok-add_run.ensures.order
                ∙ ap (λ q. q ++ places) c.loop-k.invariant.order
                ∙ ap (λ q. before ++ q) (sym (under true (sym w.if-is_allowed_in.ensures.value) places []))
            | else-is_allowed_in w ↦
                ap (λ (v : Vec ℕ Global). v.items) w.order-is ∙ c.loop-k.invariant.order ∙ sym (append-nil before)
                ∙ ap (λ q. before ++ q) (sym (under false (sym w.if-is_allowed_in.ensures.value) places []))
          ])
          ∙ sym (lists_more k
          (λ k. cond (allowed_of a.grid.now.periods ds (k + 1))
          (run_order a.lists.now (k + 1) (slice_index ds k)) []));
    }
