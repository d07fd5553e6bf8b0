-- How long numbers are at most.
use Rattle.std.proofs.Common.{ℕ, ◌-◌, ◌/◌, ◌%◌, ◌^◌, ◌<◌, ◌≤◌, List, ◌++◌, length, arith, decimal}
use Rattle.std.proofs.Common.{length-append}
use Rattle.std.specs.Prelude.{ℤ, pos, negsuc, unsigned_abs, replicate, codes}
use Rattle.std.proofs.lemmas.List.{length-replicate}
use Rattle.std.proofs.lemmas.Fmt.{length-decimal-le_wide}
use Rattle.fixed_num.specs.Texts.{fixed_text, sign_of, padded}
use Rattle.fixed_num.proofs.TextLemmas.{length-padded}
use Rattle.instance_writer.specs.text.Styles.{part_text}

pub length-whole : (n : ℕ) → n < 10 ^ 9 → length (decimal n) ≤ 9
length-whole n small = length-decimal-le_wide 9 n (omega arith) small (omega (arith, small))

length-sign : (z : ℤ) → length (sign_of z) ≤ 1
length-sign (pos n) = omega arith
length-sign (negsuc n) = omega arith

parts_fit : (sign : List ℕ) (n : ℕ) → n < 10 ^ 21 → length sign ≤ 1
    → length (sign ++ decimal (n / 10 ^ 12) ++ codes "." ++ padded 12 (n % 10 ^ 12)) ≤ 35
parts_fit sign n small short = omega (
  arith,
  length-append (sign ++ decimal (n / 10 ^ 12) ++ codes ".") (padded 12 (n % 10 ^ 12)),
  length-append (sign ++ decimal (n / 10 ^ 12)) (codes "."),
  length-append sign (decimal (n / 10 ^ 12)),
  length-decimal-le_wide 21 (n / 10 ^ 12) (omega arith) (omega arith) (omega arith),
  length-padded (n % 10 ^ 12) (omega arith),
)

pub length-count : (z : ℤ) → unsigned_abs z < 10 ^ 21 → length (fixed_text z) ≤ 35
length-count z small = parts_fit (sign_of z) (unsigned_abs z) small (length-sign z)

pub length-part : (m : ℕ) → m ≤ 1_000_000 → length (part_text m) ≤ 21
length-part m small = omega (
  arith,
  length-append (decimal (m / 10 ^ 6) ++ codes ".") (padded 6 (m % 10 ^ 6)),
  length-append (decimal (m / 10 ^ 6)) (codes "."),
  length-append (replicate (6 - length (decimal (m % 10 ^ 6))) 48) (decimal (m % 10 ^ 6)),
  length-replicate {A = ℕ} (6 - length (decimal (m % 10 ^ 6))) 48,
  length-decimal-le_wide 7 (m / 10 ^ 6) (omega arith) (omega arith) (omega arith),
  length-decimal-le_wide 6 (m % 10 ^ 6) (omega arith) (omega arith) (omega arith),
)
