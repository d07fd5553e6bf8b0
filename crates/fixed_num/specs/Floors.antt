-- Quotients of whole numbers, rounded down and up. The lemmas IsFloor-floor_of and IsCeil-ceil_of say that they
-- are the greatest and the least of their kind.
use Rattle.std.specs.Prelude.{ℕ, ℤ, pos, neg_ℤ, ◌*ℤ◌, ◌≤ℤ◌}
use Rattle.std.specs.Int.{int_div_euclid}

-- a / b for b above 0, rounded toward minus infinity
abbrev pub floor_quotient : ℤ → ℤ → ℤ
floor_quotient a b = int_div_euclid a b

-- a / b for b above 0, rounded toward plus infinity
abbrev pub ceil_quotient : ℤ → ℤ → ℤ
ceil_quotient a b = neg_ℤ (floor_quotient (neg_ℤ a) b)

-- the same, where the divisor is a natural number
abbrev pub floor_of : ℤ → ℕ → ℤ
floor_of a n = floor_quotient a (pos n)

abbrev pub ceil_of : ℤ → ℕ → ℤ
ceil_of a n = ceil_quotient a (pos n)

-- q is the greatest whole number with b * q at most a
pub record IsFloor (a b q : ℤ) : Type 0 where
  pub reached : (b *ℤ q) ≤ℤ a
  pub greatest : (r : ℤ) → (b *ℤ r) ≤ℤ a → r ≤ℤ q

-- q is the least whole number with b * q at least a
pub record IsCeil (a b q : ℤ) : Type 0 where
  pub reached : a ≤ℤ (b *ℤ q)
  pub least : (r : ℤ) → a ≤ℤ (b *ℤ r) → q ≤ℤ r
