-- Defines how the numbers of an instance that needn't be whole are spelled in its text.
use Rattle.std.specs.Prelude.{ℕ, ◌/◌, ◌%◌, ◌^◌, ℤ, List, ◌++◌, codes, decimal}
use Rattle.fixed_num.specs.Texts.{padded, fixed_text}

-- the tokens of counts of 10^-12, and of the numbers of millionths
pub record Style : Type 0 where
  pub count : ℤ → List ℕ
  pub part : ℕ → List ℕ

-- a number of millionths: its whole part without leading zeros, a point, and 6 decimals
abbrev pub part_text : ℕ → List ℕ
part_text m = decimal (m / 10 ^ 6) ++ codes "." ++ padded 6 (m % 10 ^ 6)

-- counts with 12 decimals, millionths with 6
abbrev pub decimals : Style
decimals = record { count = fixed_text; part = part_text }
