use Rattle.std.proofs.Common.{◌≢◌, ◌<◌, ℕ, [], slice_index_or}
use Rattle.text_lines.proofs.name.find_bytes.Given as goal

abbrev pub invariant-loop-i : goal.invariant-loop-i
invariant-loop-i l = (k : ℕ) → k < l.i → slice_index_or l.inst.names k [] ≢ l.name
