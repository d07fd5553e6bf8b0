use Rattle.std.proofs.Common.{◌∙◌, ◌≡◌, ◌+◌, ap, sym, arith, length, ℕ, nat_lt, true, false}
use Rattle.std.proofs.lemmas.Bool.{lt-ltb, le-ltb}
use Rattle.price_ladder.specs.Tails.{count_before}
use Rattle.price_ladder.proofs.CountLemmas.{kept_yes, kept_no}
use Rattle.price_ladder.proofs.PlanTailLemmas.{placed_all}
use Rattle.price_ladder.proofs.plan_tail.first_places.Goals as goal
use Rattle.price_ladder.proofs.plan_tail.first_places.Goals.{then-count_before-m+in_ok-push, else-count_before-m}

pub loop-k-preserved : goal.loop-k-preserved
loop-k-preserved c =
    elim c.if-count_before-m.branch [
      | then-count_before-m+in_ok-push w ↦
          let yes : nat_lt (count_before c.args.sums.now (c.loop-k.k + 1)) c.args.m ≡ true =
          ap (λ (n : ℕ). nat_lt n c.args.m) (sym c.count_before.ensures)
          ∙ lt-ltb c.count_before.result c.args.m w.if-count_before-m.true in
          rw w.places-is
          (w.in_ok-push.ensures.items ∙ kept_yes (λ k. nat_lt (count_before c.args.sums.now k) c.args.m) (length
          c.args.sums.now) c.loop-k.k c.loop-k.places.items (omega arith) c.loop-k.invariant yes)
      | else-count_before-m w ↦
          let no : nat_lt (count_before c.args.sums.now (c.loop-k.k + 1)) c.args.m ≡ false =
          ap (λ (n : ℕ). nat_lt n c.args.m) (sym c.count_before.ensures)
          ∙ le-ltb c.count_before.result c.args.m w.if-count_before-m.false in
          rw w.places-is (kept_no (λ k. nat_lt (count_before c.args.sums.now k) c.args.m) (length c.args.sums.now)
          c.loop-k.k c.loop-k.places.items (omega arith) c.loop-k.invariant no)
    ]

pub returns : goal.returns
returns c = placed_all c.args.sums.now c.args.m c.loop-k.k c.loop-k.places.items (omega arith) c.loop-k.invariant
