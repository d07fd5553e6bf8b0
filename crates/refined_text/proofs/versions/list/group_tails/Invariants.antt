use Rattle.std.proofs.Common.{◌≡◌, ◌-◌, map, take, option_map}
use Rattle.refined_check.specs.Singles.{singles_of}
use Rattle.refined_text.proofs.versions.list.group_tails.Given as goal

abbrev pub invariant-loop-t : goal.invariant-loop-t
invariant-loop-t l = l.tails.items ≡ map (option_map singles_of) (take (l.t - 1) l.prices.tails)
