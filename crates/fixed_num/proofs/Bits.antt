-- A whole number as the code hands it on.
use Rattle.std.proofs.Common.{ℤ, to_z, of_z}
use Rattle.std.specs.Int.{w128}

-- a number by its bits
abbrev pub by_bits : ℤ → ℤ
by_bits z = to_z w128 (of_z w128 z)
