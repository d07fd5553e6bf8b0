-- The leaves that wait, as entries of a worth and a number. Cited by private functions only: no part of any promise.
use Rattle.std.specs.Prelude.{ℕ, ℤ, List, ◌∷◌, Option, Some, None}

-- the entries and one more, where there is a worth
abbrev pub with_entry : Option ℤ → ℕ → List (ℤ × ℕ) → List (ℤ × ℕ)
with_entry None k entries = entries
with_entry (Some z) k entries = (z, k) ∷ entries
