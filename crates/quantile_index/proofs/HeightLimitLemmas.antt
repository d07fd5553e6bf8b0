-- The height limit: that it is the greatest height that is allowed, and its value for some rows.
use Rattle.std.proofs.Common.{◌≡◌, ℕ, ◌+◌, ◌*◌, ◌^◌, ◌<◌, ◌≤◌, inl, inr, arith, lit≤, lit<}
use Rattle.std.proofs.Math.Pow.{pow_mono}
use Rattle.std.proofs.lemmas.Bool.{cases_lt}
use Rattle.quantile_index.specs.HeightLimit.{IsHeightLimit, height_limit}
use Rattle.quantile_index.specs.HeightLaws.{height_limit_greatest, height_limit_allowed}

pub IsHeightLimit-height_limit : (n : ℕ) → IsHeightLimit n (height_limit n)
IsHeightLimit-height_limit n = record { allowed = height_limit_allowed n; greatest = λ g. height_limit_greatest g n }

-- the limit where the square lies between two powers
height_limit_between : (h n : ℕ) → 2 ^ h ≤ (n + 1) * (n + 1) → (n + 1) * (n + 1) < 2 ^ (h + 1) → height_limit n ≡ h
height_limit_between h n p q =
    let a = height_limit_greatest h n p in
    let b = height_limit_allowed n in
    elim (cases_lt h (height_limit n)) [
      | inl more ↦ let m : 2 ^ (h + 1) ≤ 2 ^ height_limit n = pow_mono (omega arith) in absurd (omega arith)
      | inr less ↦ omega arith
    ]

pub height_limit_1 : height_limit 1 ≡ 2
height_limit_1 = height_limit_between 2 1 (lit≤ tt) (lit< tt)

pub height_limit_2 : height_limit 2 ≡ 3
height_limit_2 = height_limit_between 3 2 (lit≤ tt) (lit< tt)

pub height_limit_8 : height_limit 8 ≡ 6
height_limit_8 = height_limit_between 6 8 (lit≤ tt) (lit< tt)

pub height_limit_1024 : height_limit 1024 ≡ 20
height_limit_1024 = height_limit_between 20 1024 (lit≤ tt) (lit< tt)
