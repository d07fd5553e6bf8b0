-- Defines numbers that ascend one by one. Not part of any promise: only private functions cite it.
use Rattle.std.specs.Prelude.{ℕ, zero, suc, ◌+◌, ◌==◌, Bool, true, List, [], ◌∷◌, ◌++◌}

-- so many numbers from a first one on, each one above the last
abbrev pub ascending : ℕ → ℕ → List ℕ
ascending first zero = []
ascending first (suc k) = ascending first k ++ (first + k) ∷ []

-- a number is one above the last of others, or there are none
abbrev pub comes_next : ℕ → List ℕ → Bool
comes_next n [] = true
comes_next n (m ∷ []) = n == m + 1
comes_next n (m ∷ (k ∷ ks)) = comes_next n (k ∷ ks)
