-- The order of entries, and lists in that order.
use Rattle.std.specs.Prelude.{◌≡◌, ◌<◌, ◌≤ℤ◌, ◌⊎◌, List, [], ◌∷◌, ◌++◌}
use Rattle.quantile_index.specs.declared.entry.Entry.{Entry}

-- a has a lower sum, or the same sum and a lower scenario
pub record IsBefore (a b : Entry) : Type 0 where
  pub not_above : a.sum ≤ℤ b.sum
  pub tie : b.sum ≤ℤ a.sum → a.scenario < b.scenario

-- each entry has P
abbrev pub AllEntries : (Entry → Type 0) → List Entry → Type 0
AllEntries P [] = Unit {0}
AllEntries P (x ∷ xs) = P x × AllEntries P xs

-- each entry is before all later ones
abbrev pub IsOrdered : List Entry → Type 0
IsOrdered [] = Unit {0}
IsOrdered (x ∷ xs) = AllEntries (λ y. IsBefore x y) xs × IsOrdered xs

-- new is old with e put in at some place
pub record Inserts (e : Entry) (old new : List Entry) : Type 0 where
  pub front : List Entry
  pub back : List Entry
  pub before : old ≡ front ++ back
  pub after : new ≡ front ++ e ∷ back

-- e is one of the entries
abbrev pub IsIn : Entry → List Entry → Type 0
IsIn e [] = ⊥
IsIn e (x ∷ xs) = (e ≡ x) ⊎ IsIn e xs
