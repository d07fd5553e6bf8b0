-- Short keys as numbers. Not part of any promise: only what is private cites it.
use Rattle.std.specs.Prelude.{ℕ, ◌+◌, ◌*◌, ◌&&◌, Bool, true, List, [], ◌∷◌, length, nat_lt, nat_le}

-- every number is that of a byte
abbrev pub are_bytes : List ℕ → Bool
are_bytes [] = true
are_bytes (b ∷ bs) = nat_lt b 256 && are_bytes bs

-- a key that is kept as a number: at most 15 bytes
abbrev pub is_short : List ℕ → Bool
is_short key = are_bytes key && nat_le (length key) 15

-- the number whose digits of base 256 are those of a number and then the bytes
abbrev pub number_from : ℕ → List ℕ → ℕ
number_from n [] = n
number_from n (b ∷ bs) = number_from (n * 256 + b) bs

-- the number of a key: a digit 1, behind which no byte is lost, and then the bytes
abbrev pub mark : List ℕ → ℕ
mark = number_from 1
