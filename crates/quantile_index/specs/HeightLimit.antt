-- The greatest height that a balanced tree of n entries can have.
use Rattle.std.specs.Prelude.{ℕ, zero, suc, ◌+◌, ◌*◌, ◌^◌, ◌≤◌, if◌then◌else◌, nat_le}

-- h is the greatest whole number with 2 ^ h at most the square of n + 1
pub record IsHeightLimit (n h : ℕ) : Type 0 where
  pub allowed : 2 ^ h ≤ (n + 1) * (n + 1)
  pub greatest : (g : ℕ) → 2 ^ g ≤ (n + 1) * (n + 1) → g ≤ h

-- the greatest e up to the second number with 2 ^ e at most the first, or 0
unfoldable pub greatest_exponent : ℕ → ℕ → ℕ
greatest_exponent x zero = 0
greatest_exponent x (suc e) = if nat_le (2 ^ suc e) x then suc e else greatest_exponent x e

-- the height limit of n, as a number: the law IsHeightLimit-height_limit says that it is one
unfoldable pub height_limit : ℕ → ℕ
height_limit n = greatest_exponent ((n + 1) * (n + 1)) ((n + 1) * (n + 1))
