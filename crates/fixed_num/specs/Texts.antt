-- Decimal texts of counts.
use Rattle.std.specs.Prelude.{ℕ, ◌-◌, ◌/◌, ◌%◌, ◌^◌, List, [], ◌++◌, length, replicate, codes, ℤ, pos, negsuc}
use Rattle.std.specs.Prelude.{unsigned_abs, decimal}

-- n in at least k decimal digits, with zeros in front
abbrev pub padded : ℕ → ℕ → List ℕ
padded k n = replicate (k - length (decimal n)) 48 ++ decimal n

-- a minus before a number below 0
abbrev pub sign_of : ℤ → List ℕ
sign_of (pos n) = []
sign_of (negsuc n) = codes "-"

-- a count of 10^-12 as text: its sign, its whole part without leading zeros, a point, and 12 decimals
abbrev pub fixed_text : ℤ → List ℕ
fixed_text z = sign_of z ++ decimal (unsigned_abs z / 10 ^ 12) ++ codes "." ++ padded 12 (unsigned_abs z % 10 ^ 12)
