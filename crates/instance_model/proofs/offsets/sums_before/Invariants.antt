use Rattle.std.proofs.Common.{◌≡◌, ℕ, ◌+◌, ◌*◌, ◌≤◌, ◌<◌, length, take, sum, slice_index}
use Rattle.instance_model.proofs.offsets.sums_before.Given as goal

abbrev pub invariant-loop-n : goal.invariant-loop-n
invariant-loop-n l =
    (l.so_far ≡ sum (take l.n-index l.counts)) × (l.so_far ≤ 1024 * l.n-index) × (length l.sums.items ≡ l.n-index + 1)
    × ((t : ℕ) → t < l.n-index + 1 → slice_index l.sums.items t ≡ sum (take t l.counts))
