-- How each line of a certificate is spelled, and which lines have a form. A line is spelled
-- without its line feed. A blank is the byte 32.
use Rattle.std.specs.Prelude.{ℕ, ◌<◌, ◌^◌, ⊤, List, [], ◌∷◌, ◌++◌, All, codes, decimal, unsigned_abs}
use Rattle.std.specs.Fmt.{signed_decimal}
use Rattle.std.specs.List.{AllPairs, flat_map}
use Rattle.certificate_lines.specs.declared.line.Version.TheVariants.{One, Two}
use Rattle.certificate_lines.specs.declared.line.Bound.TheVariants.{NoPlan, Least}
use Rattle.certificate_lines.specs.declared.line.Side.TheVariants.{Over, Under}
use Rattle.certificate_lines.specs.declared.line.CertificateLine.{CertificateLine}
use Rattle.certificate_lines.specs.declared.line.CertificateLine.TheVariants.{Title, Bound, Lists, Prices, Up, Lo, Tail}
use Rattle.certificate_lines.specs.declared.line.CertificateLine.TheVariants.{Ex, Tree, Split, Cost, Point, Band, Excl}
use Rattle.certificate_lines.specs.declared.line.CertificateLine.TheVariants.{Empty}

-- a number in decimal digits behind a blank
abbrev pub word : ℕ → List ℕ
word n = 32 ∷ decimal n

-- some numbers, each behind a blank
abbrev pub words : List ℕ → List ℕ
words numbers = flat_map word numbers

-- the bytes of a line, without its line feed
abbrev pub spelling : CertificateLine → List ℕ
spelling (Title One) = codes "mpcert 1"
spelling (Title Two) = codes "mpcert 2"
spelling (Bound NoPlan) = codes "bound none"
spelling (Bound (Least n)) = codes "bound " ++ signed_decimal n
spelling (Lists count) = codes "lists" ++ words (count ∷ [])
spelling Prices = codes "prices"
spelling (Up c t v) = codes "up" ++ words (c ∷ t ∷ v ∷ [])
spelling (Lo c t v) = codes "lo" ++ words (c ∷ t ∷ v ∷ [])
spelling (Tail t weight places) = codes "tail" ++ words (t ∷ weight ∷ places)
spelling (Ex e t v) = codes "ex" ++ words (e ∷ t ∷ v ∷ [])
spelling Tree = codes "tree"
spelling (Split i last) = codes "split" ++ words (i ∷ last ∷ [])
spelling (Cost list) = codes "cost" ++ words (list ∷ [])
spelling Point = codes "point"
spelling (Band c t Over) = codes "band" ++ (words (c ∷ t ∷ []) ++ codes " over")
spelling (Band c t Under) = codes "band" ++ (words (c ∷ t ∷ []) ++ codes " under")
spelling (Excl e) = codes "excl" ++ words (e ∷ [])
spelling (Empty i) = codes "empty" ++ words (i ∷ [])

-- a number of a line has at most 19 digits
abbrev pub IsNumber : ℕ → Type 0
IsNumber n = n < 10 ^ 19

-- the line has a form: its numbers have at most 19 digits, the bound's at most 37, and a tail's places ascend
abbrev pub IsLine : CertificateLine → Type 0
IsLine (Title version) = ⊤
IsLine (Bound NoPlan) = ⊤
IsLine (Bound (Least n)) = unsigned_abs n < 10 ^ 37
IsLine (Lists count) = IsNumber count
IsLine Prices = ⊤
IsLine (Up c t v) = IsNumber c × IsNumber t × IsNumber v
IsLine (Lo c t v) = IsNumber c × IsNumber t × IsNumber v
IsLine (Tail t weight places) = IsNumber t × IsNumber weight × All IsNumber places × AllPairs (λ k l. k < l) places
IsLine (Ex e t v) = IsNumber e × IsNumber t × IsNumber v
IsLine Tree = ⊤
IsLine (Split i last) = IsNumber i × IsNumber last
IsLine (Cost list) = IsNumber list
IsLine Point = ⊤
IsLine (Band c t side) = IsNumber c × IsNumber t
IsLine (Excl e) = IsNumber e
IsLine (Empty i) = IsNumber i
