use Rattle.std.proofs.Common.{◌≡◌, length, filter, nat_lt}
use Rattle.price_ladder.specs.Tails.{count_before}
use Rattle.price_ladder.proofs.CountLemmas.{first}
use Rattle.price_ladder.proofs.plan_tail.first_places.Given as goal

abbrev pub invariant-loop-k : goal.invariant-loop-k
invariant-loop-k l = l.places.items ≡ filter (λ k. nat_lt (count_before l.sums k) l.m) (first (length l.sums) l.k)
