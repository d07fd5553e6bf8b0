-- The instance of a command, and the slack at the end of its words.
use Rattle.std.specs.Prelude.{ℕ, List, [], ◌∷◌, Option, Some, None, if◌then◌else◌}
use Rattle.command_frame.specs.Sources.{Source}
use Rattle.command_words.specs.Files.{is_file_word}
use Rattle.command_words.specs.Numbers.{slack_of}

-- the slack of the words behind all others: of one word `slack=D`, or 0 where there is none
abbrev pub end_slack : List (List ℕ) → Option ℕ
end_slack [] = Some 0
end_slack (word ∷ []) = slack_of word
end_slack words = None

-- an instance with a slack
abbrev pub widened : (instance : List ℕ) → Option ℕ → Option Source
widened instance None = None
widened instance (Some slack) =
    if is_file_word instance then Some (record { instance = instance; slack = slack }) else None

-- the instance that a word names, widened by the slack of the words behind all others
unfoldable pub source_of : (instance : List ℕ) → (end : List (List ℕ)) → Option Source
source_of instance end = widened instance (end_slack end)
