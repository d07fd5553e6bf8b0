-- The leaves that are set aside: of their worths the least is kept. Cited by private functions only: no part of any
-- promise.
use Rattle.std.specs.Prelude.{◌≡◌, ℕ, ℤ, ◌≤ℤ◌, List, [], All, Contains, Option, Some, None, Bool, true, false}
use Rattle.std.specs.Prelude.{IsPermutation}
use Rattle.std.specs.Int.{int_min}
use Rattle.branch_search.specs.Entries.{with_entry}

-- the lesser of two numbers, each of which may be missing
abbrev pub lesser_of : Option ℤ → Option ℤ → Option ℤ
lesser_of None b = b
lesser_of (Some a) None = Some a
lesser_of (Some a) (Some b) = Some (int_min a b)

-- z is the least worth of some entries
pub record IsLeast (entries : List (ℤ × ℕ)) (z : ℤ) : Type 0 where
  pub number : ℕ
  pub member : Contains entries (z, number)
  pub least : All (λ other. z ≤ℤ other.0) entries

-- the least worth of entries, and none where there are none
abbrev pub IsLeastWorth : Option ℤ → List (ℤ × ℕ) → Type 0
IsLeastWorth None entries = entries ≡ []
IsLeastWorth (Some z) entries = IsLeast entries z

-- a number that has a worth waits, where it may be split, and else is set aside
abbrev pub IsFiled : (may_split : Bool) → Option ℤ → ℕ → (old new : List (ℤ × ℕ)) → (aside after : Option ℤ) → Type 0
IsFiled true worth k old new aside after = IsPermutation (with_entry worth k old) new × (after ≡ aside)
IsFiled false worth k old new aside after = (new ≡ old) × (after ≡ lesser_of worth aside)
