-- The value of a number token, and the whole numbers that are read of it.
use Rattle.std.specs.Prelude.{◌≡◌, ℕ, ◌+◌, ◌-◌, ◌*◌, ◌^◌, ◌≤◌, ℤ, pos, neg_ℤ, unsigned_abs, List, [], ◌∷◌, ◌++◌, length}
use Rattle.std.specs.Prelude.{Bool, true, false, not, ◌==◌}
use Rattle.json_grammar.specs.Tree.{Node}
use Rattle.json_grammar.specs.Grammar.{Parts, HasParts}

-- the number that decimal digits write, after a number in front
abbrev pub number_from : ℕ → List ℕ → ℕ
number_from n [] = n
number_from n (d ∷ ds) = number_from (n * 10 + (d - 48)) ds

-- the number that decimal digits write
abbrev pub number : List ℕ → ℕ
number = number_from 0

-- how many powers of ten the exponent multiplies by
abbrev pub raised_by : Bool → List ℕ → ℕ
raised_by true digits = 0
raised_by false digits = number digits

-- how many powers of ten the exponent divides by
abbrev pub lowered_by : Bool → List ℕ → ℕ
lowered_by true digits = number digits
lowered_by false digits = 0

-- 10^places times a token's value, without its sign, is the fraction numerator / denominator
abbrev pub numerator : Parts → ℕ → ℕ
numerator p places = number (p.whole ++ p.fraction) * 10 ^ (raised_by p.shrinks p.exponent + places)

abbrev pub denominator : Parts → ℕ
denominator p = 10 ^ (lowered_by p.shrinks p.exponent + length p.fraction)

-- how far two numbers are apart
abbrev pub distance : ℕ → ℕ → ℕ
distance a b = (a - b) + (b - a)

-- the whole number c is nearest to the fraction a / b, both multiplied by b; of two equally near it is the greater
pub record IsNearest (a b c : ℕ) : Type 0 where
  pub near : (other : ℕ) → distance a (c * b) ≤ distance a (other * b)
  pub greater : (other : ℕ) → distance a (other * b) ≡ distance a (c * b) → other ≤ c

-- a size with its sign
abbrev pub signed : Bool → ℕ → ℤ
signed true size = neg_ℤ (pos size)
signed false size = pos size

-- the count of 10^-12 that is nearest to the token's value, of two equally near the one farther
-- from 0; and whether it differs from that value
pub record IsFixedOf (token : List ℕ) (count : ℤ) (differs : Bool) : Type 0 where
  pub parts : Parts
  pub token_parts : HasParts token parts
  pub size : ℕ
  pub nearest : IsNearest (numerator parts 12) (denominator parts) size
  pub count_is : count ≡ signed parts.negative size
  pub differs_is : differs ≡ not (size * denominator parts == numerator parts 12)

-- the nearest count of the token is at least 10^20 in absolute value
pub record IsTooLarge (token : List ℕ) : Type 0 where
  pub count : ℤ
  pub differs : Bool
  pub fixed : IsFixedOf token count differs
  pub large : 10 ^ 20 ≤ unsigned_abs count

-- 10^places times the token's value is exactly the whole number n; only 0 may have a minus sign
pub record IsExactly (token : List ℕ) (places n : ℕ) : Type 0 where
  pub parts : Parts
  pub token_parts : HasParts token parts
  pub exact : n * denominator parts ≡ numerator parts places
  pub sign : parts.negative ≡ true → n ≡ 0

-- the value is a number, or a text that is a number token, and exactly the whole number n, at most 999,999,999
pub data IsWholeOf : Node → ℕ → Type 0 where
  of_number : {token : List ℕ} {n : ℕ} → IsExactly token 0 n → n ≤ 999_999_999 → IsWholeOf (Node.number token) n
  of_text : {token : List ℕ} {n : ℕ} → IsExactly token 0 n → n ≤ 999_999_999 → IsWholeOf (Node.text token) n

-- 10^6 times the token's value is exactly the whole number n, at most 10^6
pub record IsMillionthsOf (token : List ℕ) (n : ℕ) : Type 0 where
  pub exactly : IsExactly token 6 n
  pub most : n ≤ 1_000_000
