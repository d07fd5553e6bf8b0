-- How plans are written as text: what a line says, which plan a text spells, and the one text that is written.
-- A line feed is the byte 10, a carriage return 13, a blank 32. A name is the list of its bytes. A plan gives each
-- name, in the order of the names, one start or none.
use Rattle.std.specs.Prelude.{◌≡◌, ◌≢◌, ◌⊎◌, ℕ, ◌<◌, ◌≤◌, List, [], ◌∷◌, ◌++◌, length, map, Option, Some, None}
use Rattle.std.specs.Prelude.{slice_index_or, All, AllPairs, Any, Contains, decimal}
use Rattle.std.specs.List.{flat_map, zip}
use Rattle.std.specs.Str.Lines.{strip_carriage_return}
use Rattle.std.specs.Str.Parse.{IsNumeral, digits_value}
use Rattle.text_lines.specs.Lines as text_lines

-- the lines of a text: its parts between line feeds, each without the one carriage return at its end, if it has one;
-- an empty part after the last line feed is no line
abbrev pub lines_of : List ℕ → List (List ℕ)
lines_of text = map strip_carriage_return (text_lines.lines_of text)

-- blanks, or nothing
abbrev pub AreBlanks : List ℕ → Type 0
AreBlanks bytes = All (λ b. b ≡ 32) bytes

-- the line is a name, which has a byte and no blank, then one blank or more, then the start in 1 to 9 decimal digits,
-- which may begin with zeros, and then any number of blanks
pub record Gives (line name : List ℕ) (start : ℕ) : Type 0 where
  pub gap : List ℕ
  pub digits : List ℕ
  pub rest : List ℕ
  pub spelled : line ≡ name ++ gap ++ digits ++ rest
  pub some_name : 0 < length name
  pub unbroken : All (λ b. b ≢ 32) name
  pub some_gap : 0 < length gap
  pub gap_blank : AreBlanks gap
  pub numeral : IsNumeral 10 digits
  pub few_digits : length digits ≤ 9
  pub value : digits_value 10 digits ≡ start
  pub rest_blank : AreBlanks rest

-- the line gives the name a start
abbrev pub Names : List ℕ → List ℕ → Type 0
Names line name = (start : ℕ) × Gives line name start

-- the line gives one of these names a start
abbrev pub NamesOneOf : List (List ℕ) → List ℕ → Type 0
NamesOneOf names line = (name : List ℕ) × Names line name × Contains names name

-- the two lines name one name
abbrev pub NameTheSame : List ℕ → List ℕ → Type 0
NameTheSame line other = (name : List ℕ) × Names line name × Names other name

-- the start that a plan gives to name i
abbrev pub start_at : List (Option ℕ) → ℕ → Option ℕ
start_at plan i = slice_index_or plan i None

-- the plan has, for each name, the start that one of the lines gives it, and none where no line does
pub record HasStarts (names lines : List (List ℕ)) (plan : List (Option ℕ)) : Type 0 where
  pub each : length plan ≡ length names
  pub given : (i start : ℕ) → i < length names → Any (λ line. Gives line (slice_index_or names i []) start) lines
      → start_at plan i ≡ Some start
  pub only : (i start : ℕ) → start_at plan i ≡ Some start
      → Any (λ line. Gives line (slice_index_or names i []) start) lines

-- the text spells the plan: each line is blank, and skipped, or names one of the names; no two lines name the same;
-- and the plan has the starts that the lines give
pub record IsPlan (names : List (List ℕ)) (text : List ℕ) (plan : List (Option ℕ)) : Type 0 where
  pub told : All (λ line. AreBlanks line ⊎ NamesOneOf names line) (lines_of text)
  pub once : AllPairs (λ line later. NameTheSame line later → ⊥) (lines_of text)
  pub starts : HasStarts names (lines_of text) plan

-- the line that is written for a name: the name, one blank, the start without leading zeros, a line feed
abbrev pub line_text : List ℕ → ℕ → List ℕ
line_text name start = name ++ (32 ∷ []) ++ decimal start ++ (10 ∷ [])

-- the text that is written for one start a name: their lines, in the order of the names
abbrev pub plan_text : List (List ℕ) → List ℕ → List ℕ
plan_text names starts = flat_map (λ given. line_text given.0 given.1) (zip names starts)
