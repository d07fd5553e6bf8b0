use Rattle.std.proofs.Common.{◌≡◌, ◌+◌, ◌-◌, ◌*◌, length}
use Rattle.group_ladder.proofs.band.bands_of.Given as goal

abbrev pub invariant-loop-c : goal.invariant-loop-c
invariant-loop-c l = length l.bands.items ≡ l.c * l.inst.periods

abbrev pub invariant-loop-t : goal.invariant-loop-t
invariant-loop-t l = length l.bands.items ≡ l.c * l.inst.periods + (l.t - 1)
