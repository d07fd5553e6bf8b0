-- The decimals of a count.
use Rattle.std.proofs.Common.{◌≡◌, ◌≤◌, ◌<◌, ◌-◌, ◌^◌, ℕ, length, arith, length-append}
use Rattle.std.specs.Prelude.{decimal, replicate}
use Rattle.std.proofs.lemmas.List.{length-replicate}
use Rattle.std.proofs.lemmas.Fmt.{length-decimal-le}
use Rattle.fixed_num.specs.Texts.{padded}

-- a number below 10^12 has at most 12 digits
pub length-decimal : (n : ℕ) → n < 10 ^ 12 → length (decimal n) ≤ 12
length-decimal n small = length-decimal-le 12 n (omega arith) small (omega (arith, small))

-- and is padded to exactly 12
pub length-padded : (n : ℕ) → n < 10 ^ 12 → length (padded 12 n) ≡ 12
length-padded n small =
    let zeros = length-replicate {A = ℕ} (12 - length (decimal n)) 48 in
    omega (arith, zeros, length-decimal n small, length-append (replicate (12 - length (decimal n)) 48) (decimal n))
