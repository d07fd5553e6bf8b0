-- How long texts are, as a number of 64 bits counts it.
use Rattle.std.specs.Prelude.{ℕ, ◌-◌, ◌^◌, List, length, min}

-- a number up to the greatest one of 64 bits, which stands for itself and all that are more
abbrev pub counted : ℕ → ℕ
counted n = min n (2 ^ 64 - 1)

-- the length of a text
abbrev pub counted_length : List ℕ → ℕ
counted_length text = counted (length text)
