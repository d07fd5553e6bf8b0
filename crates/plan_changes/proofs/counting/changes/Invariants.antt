use Rattle.std.proofs.Common.{◌≡◌, ◌≤◌}
use Rattle.instance_model.specs.Naturals.{count_sum}
use Rattle.plan_changes.proofs.CountLemmas.{counted}
use Rattle.plan_changes.proofs.counting.changes.Given as goal

abbrev pub invariant-loop-i : goal.invariant-loop-i
invariant-loop-i l = record { value : l.count ≡ count_sum l.i (counted l.plan l.starts); few : l.count ≤ l.i }
