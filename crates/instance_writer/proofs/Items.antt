-- The elements and fields that the loops put out, by place.
use Rattle.std.specs.Prelude.{ℕ, ◌+◌, ℤ, pos, List, [], ◌∷◌, Option, cond, decimal, map, slice_index_or}
use Rattle.json_grammar.specs.laws.Value.{Value, Field}
use Rattle.instance_model.specs.Tables.{Tables, upper_of, lower_of, in_season_of, delta_of, scenarios_of}
use Rattle.instance_writer.specs.text.Styles.{Style}
use Rattle.instance_writer.specs.text.Written.{whole_number, count_number, optional}

-- the field under the k-th name, or under the number k + 1, where there is one
abbrev pub named_item : List (List ℕ) → (ℕ → Option Value) → ℕ → List Field
named_item names f k = optional (slice_index_or names k []) (f k)

abbrev pub numbered_item : (ℕ → Option Value) → ℕ → List Field
numbered_item f k = optional (decimal (k + 1)) (f (k + 1))

abbrev pub upper_item : Style → Tables → ℕ → ℕ → List Value
upper_item style inst c k = count_number style (upper_of inst c (k + 1)) ∷ []

abbrev pub lower_item : Style → Tables → ℕ → ℕ → List Value
lower_item style inst c k = count_number style (lower_of inst c (k + 1)) ∷ []

abbrev pub season_item : Tables → ℕ → ℕ → List Value
season_item inst q k = map whole_number (cond (in_season_of inst q (k + 1)) ((k + 1) ∷ []) [])

abbrev pub duration_item : Tables → ℕ → ℕ → List Value
duration_item inst i k = whole_number (delta_of inst i (k + 1)) ∷ []

abbrev pub scenarios_item : Tables → ℕ → List Value
scenarios_item inst k = whole_number (scenarios_of inst (k + 1)) ∷ []

abbrev pub count_item : Style → List ℤ → ℕ → List Value
count_item style zs k = count_number style (slice_index_or zs k (pos 0)) ∷ []
