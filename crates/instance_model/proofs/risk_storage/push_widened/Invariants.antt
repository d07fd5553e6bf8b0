use Rattle.std.proofs.Common.{◌≡◌, ◌+◌, ◌-◌, ◌≤◌, ◌++◌, length, take, vec_capacity, vec_len}
use Rattle.instance_model.proofs.risk_storage.push_widened.Given as goal

abbrev pub invariant-loop-count : goal.invariant-loop-count
invariant-loop-count l =
    (l.wide.items ≡ l.fn.wide.items ++ take l.count-index l.counts)
    × (vec_len l.wide + (length l.counts - l.count-index) ≤ vec_capacity l.wide)
    × (vec_capacity l.fn.wide ≤ vec_capacity l.wide)
