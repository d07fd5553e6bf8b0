-- The lines of a text. A line feed is the byte 10.
use Rattle.std.specs.Prelude.{ℕ, List, [], ◌∷◌, length, if◌then◌else◌, ◌==◌}
use Rattle.std.specs.List.{slice_split}

-- the parts, less the last one where it is empty
abbrev pub without_empty_last : List (List ℕ) → List (List ℕ)
without_empty_last [] = []
without_empty_last (part ∷ []) = if length part == 0 then [] else part ∷ []
without_empty_last (part ∷ next ∷ more) = part ∷ without_empty_last (next ∷ more)

-- the lines of a text: its parts between line feeds; an empty part after the last line feed is no line
abbrev pub lines_of : List ℕ → List (List ℕ)
lines_of text = without_empty_last (slice_split (λ b. b == 10) text)
