-- Rounding behind the last digit that is kept. Not part of any promise: only private functions cite it.
use Rattle.std.specs.Prelude.{◌≡◌, ℕ, ◌+◌, ◌*◌, ◌^◌, ◌≤◌, ◌<◌, List, [], length, get_or, Bool, cond, not, ◌==◌, ◌&&◌}
use Rattle.std.specs.Prelude.{◌||◌, nat_le, ℤ, Option, Some, None, MatchOption}
use Rattle.decimal_numbers.specs.Decimal.{signed}
use Rattle.json_grammar.specs.Grammar.{IsDigit, Parts}

-- c is nearest to a / b, halves up, as a pair of bounds
pub record IsRounded (a b c : ℕ) : Type 0 where
  pub low : 2 * (c * b) ≤ 2 * a + b
  pub high : 2 * a + b < 2 * ((c + 1) * b)

-- the size, or none where it is at least 10^20
abbrev pub SizeIs : Option ℕ → ℕ → Type 0
SizeIs size c = MatchOption size (10 ^ 20 ≤ c) (λ s. (s ≡ c) × (s < 10 ^ 20))

-- the size that is nearest to a / b, or none where it is at least 10^20, and whether it differs from a / b
pub record Rounds (a b : ℕ) (size : Option ℕ) (differs : Bool) : Type 0 where
  pub c : ℕ
  pub rounded : IsRounded a b c
  pub size_is : SizeIs size c
  pub differs_is : differs ≡ not (c * b == a)

abbrev pub AreAllDigits : List ℕ → Type 0
AreAllDigits ds = (i : ℕ) → i < length ds → IsDigit (get_or ds i 48)

-- the digits of the parts are digits
pub record HasDigits (p : Parts) : Type 0 where
  pub whole : AreAllDigits p.whole
  pub fraction : AreAllDigits p.fraction
  pub exponent : AreAllDigits p.exponent

-- without an exponent, and 10^places times the number is a whole one of at most 19 digits
pub record FitsOneWord (p : Parts) (places : ℕ) : Type 0 where
  pub plain : p.exponent ≡ []
  pub exact : length p.fraction ≤ places
  pub fits : length p.whole + places ≤ 19

-- a size with its sign, and whether it was rounded; none where there is no size
abbrev pub counted_size : Bool → Option ℕ → Bool → Option (ℤ × Bool)
counted_size negative None differs = None
counted_size negative (Some size) differs = Some (signed negative size, differs)

-- a size that was not rounded, is at most the number and has no minus sign, unless it is 0
abbrev pub unrounded_size : Bool → Option ℕ → Bool → ℕ → Option ℕ
unrounded_size negative None differs most = None
unrounded_size negative (Some size) differs most =
    cond (not differs && (nat_le size most && (not negative || (size == 0)))) (Some size) None
