-- Words that name files. A word is the list of its bytes.
use Rattle.std.specs.Prelude.{ℕ, List, [], ◌∷◌, length, codes, bytes_eq, nat_lt, ◌&&◌, not, Bool, true, Option, Some}
use Rattle.std.specs.Prelude.{None, if◌then◌else◌}

-- a file word is a text that is not empty
abbrev pub is_file_word : List ℕ → Bool
is_file_word word = nat_lt 0 (length word)

-- each of them is a file word
unfoldable pub are_file_words : List (List ℕ) → Bool
are_file_words [] = true
are_file_words (word ∷ words) = is_file_word word && are_file_words words

-- the name of a file that may be left out: the word `-` stands for none
abbrev pub given_of : List ℕ → Option (List ℕ)
given_of word = if bytes_eq word (codes "-") then None else Some word

-- a name is none of these others
unfoldable pub differs_from_each : List ℕ → List (List ℕ) → Bool
differs_from_each name [] = true
differs_from_each name (other ∷ others) = not (bytes_eq name other) && differs_from_each name others

-- no two of these names are the same
unfoldable pub are_apart : List (List ℕ) → Bool
are_apart [] = true
are_apart (name ∷ others) = differs_from_each name others && are_apart others
