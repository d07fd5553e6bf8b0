-- What the steps of reading a line say. Cited by private functions only: no part of any promise.
use Rattle.std.specs.Prelude.{◌≡◌, ◌≢◌, ℕ, ◌++◌, List, [], ◌∷◌, Option, Some, None, codes}
use Rattle.certificate_lines.specs.declared.line.CertificateLine.{CertificateLine}
use Rattle.certificate_lines.specs.Spelling.{word, words, spelling, IsLine}
use Rattle.certificate_lines.specs.Steps.{keyword_text, keyword_of, operands}
use Rattle.refined_text.specs.declared.lines.line.RefinedLine.{RefinedLine}
use Rattle.refined_text.specs.declared.lines.line.RefinedLine.TheVariants.{Title, Plain, Cap, Group, Offset, Clique}
use Rattle.refined_text.specs.declared.lines.keyword.RefinedKeyword.{RefinedKeyword}
use Rattle.refined_text.specs.declared.lines.keyword.RefinedKeyword.TheVariants as key
use Rattle.refined_text.specs.lines.Spelling.{member_words, IsRefinedLine}

-- a word is none of the keywords that version 3 has of its own, nor those of a title and a tail
pub record IsOther (first : List ℕ) : Type 0 where
  pub title : first ≢ codes "mpcert"
  pub cap : first ≢ codes "cap"
  pub tail : first ≢ codes "tail"
  pub offset : first ≢ codes "off"
  pub clique : first ≢ codes "clq"

-- a word is this keyword
abbrev pub IsKeywordOf : List ℕ → RefinedKeyword → Type 0
IsKeywordOf first key.Title = first ≡ codes "mpcert"
IsKeywordOf first key.Cap = first ≡ codes "cap"
IsKeywordOf first key.Group = first ≡ codes "tail"
IsKeywordOf first key.Offset = first ≡ codes "off"
IsKeywordOf first key.Clique = first ≡ codes "clq"
IsKeywordOf first key.Other = IsOther first

-- the keyword that a line begins with
abbrev pub key_of : RefinedLine → RefinedKeyword
key_of Title = key.Title
key_of (Plain line) = key.Other
key_of Cap = key.Cap
key_of (Group t members) = key.Group
key_of (Offset t i g v) = key.Offset
key_of (Clique t v members) = key.Clique

-- its bytes
abbrev pub first_word : RefinedLine → List ℕ
first_word Title = codes "mpcert"
first_word (Plain line) = keyword_text (keyword_of line)
first_word Cap = codes "cap"
first_word (Group t members) = codes "tail"
first_word (Offset t i g v) = codes "off"
first_word (Clique t v members) = codes "clq"

-- what follows it, with the blank in front
abbrev pub further_words : RefinedLine → List ℕ
further_words Title = codes " 3"
further_words (Plain line) = operands line
further_words Cap = []
further_words (Group t members) = word t ++ member_words members
further_words (Offset t i g v) = words (t ∷ i ∷ g ∷ v ∷ [])
further_words (Clique t v members) = words (t ∷ v ∷ members)

-- the line has a form, begins with this keyword, and is spelled so behind it
pub record Follows (keyword : RefinedKeyword) (rest : List ℕ) (line : RefinedLine) : Type 0 where
  pub form : IsRefinedLine line
  pub begins : key_of line ≡ keyword
  pub spelled : rest ≡ further_words line

-- what is read of such a text: a line that follows, or none where no line does
abbrev pub Reads : RefinedKeyword → List ℕ → Option RefinedLine → Type 0
Reads keyword rest (Some line) = Follows keyword rest line
Reads keyword rest None = (line : RefinedLine) → Follows keyword rest line → ⊥

-- what is read of a text as a line of version 2: one that it spells, or none where it spells none
abbrev pub ReadsPlain : List ℕ → Option RefinedLine → Type 0
ReadsPlain text None = (line : CertificateLine) → IsLine line → text ≡ spelling line → ⊥
ReadsPlain text (Some (Plain line)) = IsLine line × (text ≡ spelling line)
ReadsPlain text (Some _) = ⊥

-- what is read of a text that begins with this keyword, and of what follows it
abbrev pub ReadsAs : RefinedKeyword → List ℕ → List ℕ → Option RefinedLine → Type 0
ReadsAs key.Other text rest read = ReadsPlain text read
ReadsAs keyword text rest read = Reads keyword rest read
