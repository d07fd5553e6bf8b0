use Rattle.std.proofs.Common.{◌≡◌, ◌∙◌, ap, sym, arith, ℕ, Option, get_or, length}
use Rattle.instance_model.specs.Naturals.{count_sum}
use Rattle.instance_model.proofs.EntryLemmas.{count_sum-zero, count_sum_more}
use Rattle.plan_changes.specs.Changes.{is_changed, changes_of}
use Rattle.plan_changes.proofs.CountLemmas.{counted, one_if}
use Rattle.plan_changes.proofs.counting.changes.Goals as goal
use Rattle.plan_changes.proofs.counting.changes.Goals.{then-is_changed, else-is_changed}

pub loop-i-init : goal.loop-i-init
loop-i-init c = record { value = sym (count_sum-zero (counted c.args.plan.now c.args.starts.now)); few = omega arith }

pub loop-i-preserved : goal.loop-i-preserved
loop-i-preserved c =
    let next = count_sum_more c.loop-i.i (counted c.args.plan.now c.args.starts.now) in
    let here : one_if c.is_changed.result ≡ counted c.args.plan.now c.args.starts.now c.loop-i.i =
    ap one_if (c.is_changed.ensures
    ∙ ap (λ (o : Option ℕ). is_changed o (get_or c.args.starts.now c.loop-i.i 0)) c.old_start.ensures) in
    elim c.if-is_changed.branch [
      | then-is_changed w ↦
          let one : one_if c.is_changed.result ≡ 1 = ap one_if w.if-is_changed.true in
          record {
            value = omega (arith, next, here, one, w.count-is, c.loop-i.invariant.value);
            few = omega (arith, w.count-is, c.loop-i.invariant.few);
          }
      | else-is_changed w ↦
          let none : one_if c.is_changed.result ≡ 0 = ap one_if w.if-is_changed.false in
          record {
            value = omega (arith, next, here, none, w.count-is, c.loop-i.invariant.value);
            few = omega (arith, w.count-is, c.loop-i.invariant.few);
          }
    ]

pub returns-clause-value : goal.returns-clause-value
unfolding changes_of
returns-clause-value c =
    let all : c.loop-i.i ≡ length c.args.starts.now = omega (arith, c.loop-i-test.false, c.loop-i.auto.i-end) in
    c.loop-i.invariant.value
    ∙ ap (λ (n : ℕ). count_sum n (counted c.args.plan.now c.args.starts.now)) all
