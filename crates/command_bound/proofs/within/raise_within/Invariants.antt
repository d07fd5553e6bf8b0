use Rattle.std.proofs.Common.{◌≤◌}
use Rattle.std.specs.Prelude.{option_map}
use Rattle.command_bound.specs.Bounding.{LeavesOut}
use Rattle.command_bound.proofs.within.raise_within.Given as goal

abbrev pub invariant-loop-most : goal.invariant-loop-most
invariant-loop-most l = record {
  some : 1 ≤ l.most;
  left_out : LeavesOut l.limits l.inst (option_map (λ old. old.now) l.cert) l.turns l.part
      (option_map (λ given. given.now) l.incumbent) l.most;
}

abbrev pub decreases-loop-most : goal.decreases-loop-most
decreases-loop-most l = l.most
