-- Sums, products and rounded quotients of natural numbers.
use Rattle.std.specs.Prelude.{ℕ, zero, suc, ◌+◌, ◌-◌, ◌*◌, ◌/◌}

-- f 0 + .. + f (n - 1)
unfoldable pub count_sum : ℕ → (ℕ → ℕ) → ℕ
count_sum zero f = 0
count_sum (suc n) f = count_sum n f + f n

-- f 0 * .. * f (n - 1)
unfoldable pub count_product : ℕ → (ℕ → ℕ) → ℕ
count_product zero f = 1
count_product (suc n) f = count_product n f * f n

-- a / b, rounded up, for b above 0
abbrev pub ceil_div_of : ℕ → ℕ → ℕ
ceil_div_of a b = (a + (b - 1)) / b
