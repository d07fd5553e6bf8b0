-- Defines the keys that a set holds.
use Rattle.std.specs.Prelude.{ℕ, List, [], ◌∷◌}
use Rattle.instance_shape.specs.Keys.{Key, by_text, by_number}

-- texts as keys
abbrev pub texts_of : List (List ℕ) → List Key
texts_of [] = []
texts_of (k ∷ ks) = by_text k ∷ texts_of ks

-- periods or starts as keys
abbrev pub numbers_of : List ℕ → List Key
numbers_of [] = []
numbers_of (n ∷ ns) = by_number n ∷ numbers_of ns
