use Rattle.std.proofs.Common.{◌∙◌, sym, arith, length}
use Rattle.price_ladder.specs.Tails.{comes_before}
use Rattle.price_ladder.proofs.CountLemmas.{counted_yes, counted_no}
use Rattle.price_ladder.proofs.PlanTailLemmas.{counted_all}
use Rattle.price_ladder.proofs.plan_tail.count_before.Goals as goal
use Rattle.price_ladder.proofs.plan_tail.count_before.Goals.{then-comes_before, else-comes_before}

pub loop-j-preserved : goal.loop-j-preserved
loop-j-preserved c =
    elim c.if-comes_before.branch [
      | then-comes_before w ↦
          rw w.count-is (record {
            value = counted_yes (λ j. comes_before c.args.sums.now j c.args.k) (length c.args.sums.now) c.loop-j.j
                c.loop-j.count (omega arith) c.loop-j.invariant.value
                (sym c.comes_before.ensures ∙ w.if-comes_before.true);
            few = omega (arith, c.loop-j.invariant.few);
          })
      | else-comes_before w ↦
          rw w.count-is (record {
            value = counted_no (λ j. comes_before c.args.sums.now j c.args.k) (length c.args.sums.now) c.loop-j.j
                c.loop-j.count (omega arith) c.loop-j.invariant.value
                (sym c.comes_before.ensures ∙ w.if-comes_before.false);
            few = omega (arith, c.loop-j.invariant.few);
          })
    ]

pub returns : goal.returns
returns c = counted_all c.args.sums.now c.args.k c.loop-j.j c.loop-j.count (omega arith) c.loop-j.invariant.value
