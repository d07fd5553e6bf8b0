-- Defines the text of a drawn instance, and how its numbers are spelled.
use Rattle.std.specs.Prelude.{ℕ, ◌/◌, ◌%◌, ◌^◌, ◌==◌, ℤ, List, ◌++◌, codes, cond, decimal, unsigned_abs}
use Rattle.instance_writer.specs.text.Styles.{Style}
use Rattle.instance_writer.specs.text.Written.{instance_text}
use Rattle.instance_gen.specs.Drawn.{drawn_tables}

-- a count that is a whole number of units: this number
abbrev pub whole_text : ℤ → List ℕ
whole_text z = decimal (unsigned_abs z / 10 ^ 12)

-- a number of millionths to its first decimal
abbrev pub first_text : ℕ → List ℕ
first_text m = decimal (m / 10 ^ 6) ++ codes "." ++ decimal (m / 10 ^ 5 % 10)

-- a number of millionths that has at most 2 decimals: with 1 decimal where that will do, otherwise with 2
abbrev pub short_text : ℕ → List ℕ
short_text m = cond (m % 10 ^ 5 == 0) (first_text m) (first_text m ++ decimal (m / 10 ^ 4 % 10))

-- whole numbers, and millionths as `0.95` and `0.5`
abbrev pub plain_numbers : Style
plain_numbers = record { count = whole_text; part = short_text }

-- the text of the instance of n interventions that a seed gives
abbrev pub drawn_text : (seed n : ℕ) → List ℕ
drawn_text seed n = instance_text plain_numbers (drawn_tables seed n)
