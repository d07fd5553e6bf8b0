-- Defines the lists of risks that heads and the numbers behind them stand for.
use Rattle.std.specs.Prelude.{◌≡◌, ℕ, ◌<◌, ◌≤◌, ◌⊎◌, ℤ, Bool, true, false, ◌||◌, List, [], ◌∷◌, ◌++◌, length}
use Rattle.std.specs.List.{fold, slice_range}
use Rattle.instance_model.specs.RiskNumbers.{numbers_of}
use Rattle.instance_model.specs.declared.risk_lists.RiskHead.{RiskHead}
use Rattle.instance_model.specs.declared.risk_lists.RiskList.{RiskList}

-- one list of risks: those in a period, at a start, and whether one of them differs from its count
pub record RiskRow : Type 0 where
  pub period : ℕ
  pub start : ℕ
  pub values : List ℤ
  pub soft : Bool

-- where the numbers of a list end: where those of the next one begin, or behind the last number
abbrev pub end_before : List RiskHead → ℕ → ℕ
end_before [] end = end
end_before (h ∷ hs) end = h.first

-- the list of a head, in front of others
abbrev pub list_of : RiskHead → List RiskHead → List ℤ → RiskRow
list_of h hs numbers = record {
  period = h.period;
  start = h.start;
  values = slice_range numbers h.first (end_before hs (length numbers));
  soft = h.soft;
}

-- the lists of some heads
abbrev pub lists_of : List RiskHead → List ℤ → List RiskRow
lists_of [] numbers = []
lists_of (h ∷ hs) numbers = list_of h hs numbers ∷ lists_of hs numbers

-- no list begins behind its end
abbrev pub AreHeads : List RiskHead → ℕ → Type 0
AreHeads [] end = Unit {0}
AreHeads (h ∷ hs) end = (h.first ≤ end_before hs end) × AreHeads hs end

-- no list stands on both sides of the seam
abbrev pub AreApart : List RiskHead → ℕ → ℕ → Type 0
AreApart [] seam end = Unit {0}
AreApart (h ∷ hs) seam end = ((end_before hs end ≤ seam) ⊎ (seam ≤ h.first)) × AreApart hs seam end

-- heads over numbers of 8 bytes, with numbers of 16 behind them
pub record AreStored (heads : List RiskHead) (narrow wide : List ℤ) : Type 0 where
  pub ascend : AreHeads heads (length (narrow ++ wide))
  pub apart : AreApart heads (length narrow) (length (narrow ++ wide))

-- numbers of 16 bytes after an addition: none, or they begin where they began before
abbrev pub IsSeamKept : List ℤ → List ℤ → List ℤ → List ℤ → Type 0
IsSeamKept narrow wide new_narrow new_wide =
    (length new_wide ≡ 0) ⊎ ((0 < length wide) × (length new_narrow ≡ length narrow))

-- where the last list begins, or another place where there is none
abbrev pub last_first : List RiskHead → ℕ → ℕ
last_first [] place = place
last_first (h ∷ []) place = h.first
last_first (h ∷ (g ∷ hs)) place = last_first (g ∷ hs) place

-- a list with one number more
abbrev pub longer : ℤ → Bool → RiskRow → RiskRow
longer number rounded r = record r { values = r.values ++ number ∷ []; soft = r.soft || rounded }

-- lists of which the last has one number more
abbrev pub add_to_last : ℤ → Bool → List RiskRow → List RiskRow
add_to_last number rounded [] = []
add_to_last number rounded (r ∷ []) = longer number rounded r ∷ []
add_to_last number rounded (r ∷ (s ∷ rs)) = r ∷ add_to_last number rounded (s ∷ rs)

-- lists of which the last has some numbers more that reading has not changed
abbrev pub add_all_to_last : List ℤ → List RiskRow → List RiskRow
add_all_to_last counts rows = fold (λ rs c. add_to_last c false rs) rows counts

-- heads of which the last is soft
abbrev pub last_soft : List RiskHead → List RiskHead
last_soft [] = []
last_soft (h ∷ []) = record h { soft = true } ∷ []
last_soft (h ∷ (g ∷ hs)) = h ∷ last_soft (g ∷ hs)

-- a list of risks as a row
abbrev pub list_view : RiskList → RiskRow
list_view l = record { period = l.period; start = l.start; values = numbers_of l.numbers; soft = l.soft }
