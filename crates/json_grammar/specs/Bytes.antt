-- Tests of one byte.
use Rattle.std.specs.Prelude.{ℕ, Bool, ◌==◌, ◌&&◌, ◌||◌, nat_le}

-- an ASCII digit
abbrev pub is_digit : ℕ → Bool
is_digit b = nat_le 48 b && nat_le b 57

-- the letter e of an exponent
abbrev pub is_mark : ℕ → Bool
is_mark b = (b == 101) || (b == 69)
