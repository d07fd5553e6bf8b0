-- How a line is cut into runs of bytes of one kind, which is no part of any promise.
use Rattle.std.specs.Prelude.{◌≡◌, ℕ, ◌<◌, ◌≤◌, List, ◌++◌, length, All, slice_index}
use Rattle.std.specs.Str.Parse.{IsNumeral, digits_value}
use Rattle.plan_text.specs.Spelling.{AreBlanks}

-- a list is a front of elements with P, and a rest that does not begin with one
pub record IsSplit (P : ℕ → Type 0) (xs front rest : List ℕ) : Type 0 where
  pub joined : xs ≡ front ++ rest
  pub front_all : All P front
  pub ends : 0 < length rest → P (slice_index rest 0) → ⊥

-- the text is the 1 to 9 digits of a start, and blanks
pub record EndsInStart (text : List ℕ) (start : ℕ) : Type 0 where
  pub digits : List ℕ
  pub rest : List ℕ
  pub spelled : text ≡ digits ++ rest
  pub numeral : IsNumeral 10 digits
  pub few_digits : length digits ≤ 9
  pub value : digits_value 10 digits ≡ start
  pub rest_blank : AreBlanks rest
