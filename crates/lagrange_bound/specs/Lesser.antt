-- The lesser of two prices, where one or both may be missing, and the least of some entries.
use Rattle.std.specs.Prelude.{ℕ, zero, suc, ◌+◌, ◌<◌, ℤ, Option, Some, None, IfSome, unsigned_abs}
use Rattle.std.specs.Int.{int_min}

-- the lesser of two prices, or the only one
unfoldable pub lesser_of : Option ℤ → Option ℤ → Option ℤ
lesser_of None q = q
lesser_of (Some a) None = Some a
lesser_of (Some a) (Some b) = Some (int_min a b)

-- the least of the n entries from k on, where there is one
unfoldable pub least_entry : (ℕ → Option ℤ) → ℕ → ℕ → Option ℤ
least_entry f k zero = None
least_entry f k (suc n) = lesser_of (least_entry f k n) (f (k + n))

-- a price, where there is one, is small
abbrev pub IsSmallPrice : Option ℤ → Type 0
IsSmallPrice price = IfSome price (λ z. unsigned_abs z < 8_000_000_000_000_000_000_000_000_000_000_000)
