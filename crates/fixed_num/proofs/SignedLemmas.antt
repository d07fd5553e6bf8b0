-- Whole numbers for `omega`, which reads one as the difference of two natural numbers, `up z - down z`.
use Rattle.std.proofs.Common.{◌*ℤ◌, ◌≡◌, ℕ, ◌+◌, ◌*◌, ◌^◌, ◌<◌, ◌≤◌, arith, ℤ, pos, negsuc, to_z, of_z, to_z-of_z}
use Rattle.std.proofs.Common.{unsigned_abs}
use Rattle.std.specs.Int.{w128}
use Rattle.std.proofs.lemmas.Int.{ints, clamps, fits_signed_from_abs, unsigned_abs-mul}
use Rattle.std.proofs.lemmas.Nat.{mul-le}
use Rattle.std.proofs.Math.Nat.{lt_of_mul-lt-mul_right}
use borrow.Author.Differences.{up, down}
use Rattle.fixed_num.specs.Floors.{floor_of}

-- the absolute value
pub unsigned_abs-parts : (z : ℤ) → unsigned_abs z ≡ up z + down z
unsigned_abs-parts (pos a) = omega arith
unsigned_abs-parts (negsuc a) = omega arith

-- the quotient q rounded down has q * k ≤ a < q * k + k
pub int_div_euclid-parts : (a : ℤ) (k : ℕ) → 0 < k → (up (floor_of a k) * k + down a ≤ down (floor_of a k) * k + up a)
    × (down (floor_of a k) * k + up a < up (floor_of a k) * k + down a + k)
int_div_euclid-parts (pos a) k some = omega arith
int_div_euclid-parts (negsuc a) k some = omega arith

-- less than one multiple apart leaves the order of the factors
pub at_most_from_scaled : (m n k : ℕ) → m * k < n * k + k → m ≤ n
at_most_from_scaled m n k near =
    let next : m < n + 1 = lt_of_mul-lt-mul_right k (omega (arith, near)) in
    omega (arith, next)

-- a number within 127 bits comes back from its bits
pub back_from_abs : (z : ℤ) → unsigned_abs z < 2 ^ 127 → to_z w128 (of_z w128 z) ≡ z
back_from_abs z small = to_z-of_z (fits_signed_from_abs w128 z small)

-- how large a product can be
pub abs-product : (a b : ℤ) (m n : ℕ) → unsigned_abs a ≤ m → unsigned_abs b ≤ n → unsigned_abs (a *ℤ b) ≤ m * n
abs-product a b m n left right = rw (unsigned_abs-mul a b) (mul-le (unsigned_abs a) (unsigned_abs b) m n left right)

-- for `omega (arith, signed_arith)`: order, sum, negation, difference, product, absolute value, the lesser and the
-- greater of two, and the quotient rounded down
pub ruleset signed_arith = (ints, clamps, unsigned_abs-parts, int_div_euclid-parts)
