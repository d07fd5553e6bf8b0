-- Numbers of a stream, and keys that are numbers, which are told by their values alone.
use Rattle.std.specs.Prelude.{◌≡◌, ℕ, ◌+◌, ◌≤◌, ℤ, List, [], ◌∷◌, length, false, Some}
use Rattle.json_grammar.specs.Token.{digit_count}
use Rattle.json_grammar.specs.Tree.{Event, key}
use Rattle.decimal_numbers.specs.Decimal.{number_from}
use Rattle.decimal_numbers.specs.Exact.{fixed}
use Rattle.json_grammar.specs.Stream.{IsNextDue, IsNextOfEach}

-- the due event behind `given` others is a number at the place, whatever is pushed later,
-- and its value is exactly the count of 10^-12
pub record IsNextCount (stream : List ℕ) (given at : ℕ) (count : ℤ) : Type 0 where
  pub token : List ℕ
  pub due : IsNextDue stream false given (Event.number at token)
  pub next : IsNextOfEach stream given (Event.number at token)
  pub exact : fixed token ≡ Some (count, false)

-- the due events behind `given` others are numbers, each whatever is pushed later, and their values are exactly these
-- counts of 10^-12
abbrev pub AreNextCounts : List ℕ → ℕ → List ℤ → Type 0
AreNextCounts stream given [] = Unit {0}
AreNextCounts stream given (c ∷ cs) = ((at : ℕ) × IsNextCount stream given at c) × AreNextCounts stream (given + 1) cs

-- the due event behind `given` others is a key at the place, whatever is pushed later: 1 to 9 digits, which write the
-- number
pub record IsNextNumberKey (stream : List ℕ) (given at number : ℕ) : Type 0 where
  pub end : ℕ
  pub text : List ℕ
  pub due : IsNextDue stream false given (key at end text)
  pub next : IsNextOfEach stream given (key at end text)
  pub some : 1 ≤ length text
  pub few : length text ≤ 9
  pub digits : digit_count text ≡ length text
  pub value : number ≡ number_from 0 text
