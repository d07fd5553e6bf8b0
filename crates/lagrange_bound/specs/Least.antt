-- The least value over a list of places, and lists that ascend.
use Rattle.std.specs.Prelude.{ℕ, ◌<◌, ℤ, pos, List, [], ◌∷◌, map, fold}
use Rattle.std.specs.Int.{int_min}

-- the least of f over the places: 0 where there is none
unfoldable pub least_over : (ℕ → ℤ) → List ℕ → ℤ
least_over f [] = pos 0
least_over f (k ∷ ks) = fold int_min (f k) (map f ks)

-- the places strictly ascend, and all are above a
abbrev pub AscendAbove : ℕ → List ℕ → Type 0
AscendAbove a [] = Unit {0}
AscendAbove a (k ∷ ks) = (a < k) × AscendAbove k ks
