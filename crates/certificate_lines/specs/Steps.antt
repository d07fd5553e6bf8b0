-- What the steps of reading and writing a line say.
use Rattle.std.specs.Prelude.{◌≡◌, ℕ, ⊤, List, [], ◌∷◌, ◌++◌, Option, Some, None, codes}
use Rattle.std.specs.Fmt.{signed_decimal}
use Rattle.certificate_lines.specs.declared.line.Version.{Version}
use Rattle.certificate_lines.specs.declared.line.Bound.{Bound}
use Rattle.certificate_lines.specs.declared.line.Side.{Side}
use Rattle.certificate_lines.specs.declared.line.Version.TheVariants.{One, Two}
use Rattle.certificate_lines.specs.declared.line.Bound.TheVariants.{NoPlan, Least}
use Rattle.certificate_lines.specs.declared.line.Side.TheVariants.{Over, Under}
use Rattle.certificate_lines.specs.declared.line.CertificateLine.{CertificateLine}
use Rattle.certificate_lines.specs.declared.line.CertificateLine.TheVariants.{Title, Lists, Prices, Up, Lo, Tail, Ex}
use Rattle.certificate_lines.specs.declared.line.CertificateLine.TheVariants.{Tree, Split, Cost, Point, Band, Excl}
use Rattle.certificate_lines.specs.declared.line.CertificateLine.TheVariants.{Empty}
use Rattle.certificate_lines.specs.declared.line.CertificateLine.TheVariants as line
use Rattle.certificate_lines.specs.declared.keyword.Keyword.{Keyword}
use Rattle.certificate_lines.specs.declared.keyword.Keyword.TheVariants as key
use Rattle.certificate_lines.specs.Spelling.{words, IsLine}

-- the bytes of a keyword
abbrev pub keyword_text : Keyword → List ℕ
keyword_text key.Title = codes "mpcert"
keyword_text key.Bound = codes "bound"
keyword_text key.Lists = codes "lists"
keyword_text key.Prices = codes "prices"
keyword_text key.Up = codes "up"
keyword_text key.Lo = codes "lo"
keyword_text key.Tail = codes "tail"
keyword_text key.Ex = codes "ex"
keyword_text key.Tree = codes "tree"
keyword_text key.Split = codes "split"
keyword_text key.Cost = codes "cost"
keyword_text key.Point = codes "point"
keyword_text key.Band = codes "band"
keyword_text key.Excl = codes "excl"
keyword_text key.Empty = codes "empty"

-- the keyword that a line begins with
abbrev pub keyword_of : CertificateLine → Keyword
keyword_of (Title version) = key.Title
keyword_of (line.Bound bound) = key.Bound
keyword_of (Lists count) = key.Lists
keyword_of Prices = key.Prices
keyword_of (Up c t v) = key.Up
keyword_of (Lo c t v) = key.Lo
keyword_of (Tail t weight places) = key.Tail
keyword_of (Ex e t v) = key.Ex
keyword_of Tree = key.Tree
keyword_of (Split i last) = key.Split
keyword_of (Cost list) = key.Cost
keyword_of Point = key.Point
keyword_of (Band c t side) = key.Band
keyword_of (Excl e) = key.Excl
keyword_of (Empty i) = key.Empty

-- a version, a bound and a side, with the blank in front
abbrev pub version_text : Version → List ℕ
version_text One = codes " 1"
version_text Two = codes " 2"

abbrev pub bound_text : Bound → List ℕ
bound_text NoPlan = codes " none"
bound_text (Least n) = 32 ∷ signed_decimal n

abbrev pub side_text : Side → List ℕ
side_text Over = codes " over"
side_text Under = codes " under"

-- what follows the keyword, with the blank in front
abbrev pub operands : CertificateLine → List ℕ
operands (Title version) = version_text version
operands (line.Bound bound) = bound_text bound
operands (Lists count) = words (count ∷ [])
operands Prices = []
operands (Up c t v) = words (c ∷ t ∷ v ∷ [])
operands (Lo c t v) = words (c ∷ t ∷ v ∷ [])
operands (Tail t weight places) = words (t ∷ weight ∷ places)
operands (Ex e t v) = words (e ∷ t ∷ v ∷ [])
operands Tree = []
operands (Split i last) = words (i ∷ last ∷ [])
operands (Cost list) = words (list ∷ [])
operands Point = []
operands (Band c t side) = words (c ∷ t ∷ []) ++ side_text side
operands (Excl e) = words (e ∷ [])
operands (Empty i) = words (i ∷ [])

-- the text is empty or begins with a blank
abbrev pub IsBreak : List ℕ → Type 0
IsBreak [] = ⊤
IsBreak (b ∷ bs) = b ≡ 32

-- the line has a form, begins with this keyword, and is spelled so behind it
pub record Follows (keyword : Keyword) (rest : List ℕ) (line : CertificateLine) : Type 0 where
  pub form : IsLine line
  pub begins : keyword_of line ≡ keyword
  pub spelled : rest ≡ operands line

-- what is read of such a text: a line that follows, or none where no line does
abbrev pub Reads : Keyword → List ℕ → Option CertificateLine → Type 0
Reads keyword rest (Some line) = Follows keyword rest line
Reads keyword rest None = (line : CertificateLine) → Follows keyword rest line → ⊥
