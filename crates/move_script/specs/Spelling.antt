-- How move scripts are written as text: what a line spells, which script a text spells, and the one text that
-- is written. A line feed is the byte 10, a blank 32. A name is the list of its bytes. A script has
-- interventions by their places among the names.
use Rattle.std.specs.Prelude.{◌≡◌, ◌≢◌, ℕ, ◌<◌, ◌^◌, ⊤, List, [], ◌∷◌, ◌++◌, length, All, codes, decimal}
use Rattle.std.specs.Prelude.{slice_index_or}
use Rattle.std.specs.List.{flat_map}
use Rattle.text_lines.specs.Lines.{lines_of}
use Rattle.plan_moves.specs.declared.change.Change.{Change}
use Rattle.plan_moves.specs.declared.change.Change.TheVariants as change
use Rattle.plan_moves.specs.declared.script_line.ScriptLine.{ScriptLine}
use Rattle.plan_moves.specs.declared.script_line.ScriptLine.TheVariants.{Move, Swap, Undo}

-- a verb with its blank, a word, one blank and another word
abbrev pub words_text : (verb first second : List ℕ) → List ℕ
words_text verb first second = verb ++ (first ++ 32 ∷ second)

-- a name as a word of a line: one byte or more, none of them a blank
pub record IsWord (name : List ℕ) : Type 0 where
  pub some : 0 < length name
  pub unbroken : All (λ b. b ≢ 32) name

-- the line is `move NAME START`, with the start in 1 to 9 digits, the first of them no needless zero
pub record MovesTo (line name : List ℕ) (start : ℕ) : Type 0 where
  pub spelled : line ≡ words_text (codes "move ") name (decimal start)
  pub word : IsWord name
  pub small : start < 10 ^ 9

-- the line is `swap NAME NAME`
pub record Exchanges (line name other : List ℕ) : Type 0 where
  pub spelled : line ≡ words_text (codes "swap ") name other
  pub word : IsWord name
  pub other_word : IsWord other

-- the name at place i
abbrev pub name_at : List (List ℕ) → ℕ → List ℕ
name_at names i = slice_index_or names i []

-- the name at place i stands for i: no earlier place has the same name, as is so at each place of an instance
pub record IsPlace (names : List (List ℕ)) (i : ℕ) : Type 0 where
  pub within : i < length names
  pub first : (k : ℕ) → k < i → name_at names k ≢ name_at names i

-- the text of a line spells the line, over these names
abbrev pub Spells : List (List ℕ) → List ℕ → ScriptLine → Type 0
Spells names text (Move i s) = IsPlace names i × MovesTo text (name_at names i) s
Spells names text (Swap i j) = IsPlace names i × IsPlace names j × Exchanges text (name_at names i) (name_at names j)
Spells names text Undo = text ≡ codes "undo"

-- the text spells the script: line by line
pub record IsScript (names : List (List ℕ)) (text : List ℕ) (script : List ScriptLine) : Type 0 where
  pub each : length script ≡ length (lines_of text)
  pub spelled : (k : ℕ) → k < length script
      → Spells names (slice_index_or (lines_of text) k []) (slice_index_or script k Undo)

-- the line that is written for a change
abbrev pub change_line : List (List ℕ) → Change → List ℕ
change_line names (change.Move i s) = words_text (codes "move ") (name_at names i) (decimal s)
change_line names (change.Swap i j) = words_text (codes "swap ") (name_at names i) (name_at names j)

-- the same with its line feed
abbrev pub change_text : List (List ℕ) → Change → List ℕ
change_text names change = change_line names change ++ 10 ∷ []

-- the text that is written for changes: their lines, in order
abbrev pub moves_text : List (List ℕ) → List Change → List ℕ
moves_text names changes = flat_map (change_text names) changes

-- the start of a move has at most 9 digits
abbrev pub HasSmallStart : Change → Type 0
HasSmallStart (change.Move i s) = s < 10 ^ 9
HasSmallStart (change.Swap i j) = ⊤
