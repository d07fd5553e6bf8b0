use Rattle.std.proofs.Common.{◌≡◌, ◌-◌, length}
use Rattle.group_ladder.proofs.deal.all_tails.Given as goal

abbrev pub invariant-loop-t : goal.invariant-loop-t
invariant-loop-t l = length l.tails.items ≡ l.t - 1
