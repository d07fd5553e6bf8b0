use Rattle.std.proofs.Common.{◌≡◌, ◌≤◌, length, count_by}
use Rattle.price_ladder.specs.Tails.{comes_before}
use Rattle.price_ladder.proofs.CountLemmas.{first}
use Rattle.price_ladder.proofs.plan_tail.count_before.Given as goal

abbrev pub invariant-loop-j : goal.invariant-loop-j
invariant-loop-j l = record {
  value : l.count ≡ count_by (λ j. comes_before l.sums j l.k) (first (length l.sums) l.j);
  few : l.count ≤ l.j;
}
