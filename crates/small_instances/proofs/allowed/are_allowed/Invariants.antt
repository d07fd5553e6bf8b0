use Rattle.std.proofs.Common.{ℕ, ◌<◌, slice_index, IsTrue}
use Rattle.instance_model.specs.Tables.{is_allowed}
use Rattle.small_instances.proofs.allowed.are_allowed.Given as goal

abbrev pub invariant-loop-i : goal.invariant-loop-i
invariant-loop-i l = (k : ℕ) → k < l.i → IsTrue (is_allowed l.inst k (slice_index l.starts k))
