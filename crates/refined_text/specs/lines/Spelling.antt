-- How each line of version 3 is spelled, and which lines have a form. A line is spelled without its line feed.
use Rattle.std.specs.Prelude.{ℕ, ◌<◌, ⊤, List, [], ◌∷◌, ◌++◌, All, codes}
use Rattle.std.specs.List.{AllPairs, flat_map}
use Rattle.certificate_lines.specs.declared.line.CertificateLine.{CertificateLine}
use Rattle.certificate_lines.specs.declared.line.CertificateLine.TheVariants as line
use Rattle.certificate_lines.specs.Spelling.{word, words, spelling, IsNumber, IsLine}
use Rattle.refined_text.specs.declared.lines.members.LineMember.{LineMember}
use Rattle.refined_text.specs.declared.lines.line.RefinedLine.{RefinedLine}
use Rattle.refined_text.specs.declared.lines.line.RefinedLine.TheVariants.{Title, Plain, Cap, Group, Offset, Clique}

-- a scenario and its weight, each behind a blank
abbrev pub member_word : LineMember → List ℕ
member_word x = word x.scenario ++ word x.weight

-- some of them
abbrev pub member_words : List LineMember → List ℕ
member_words members = flat_map member_word members

-- the bytes of a line, without its line feed
abbrev pub refined_spelling : RefinedLine → List ℕ
refined_spelling Title = codes "mpcert 3"
refined_spelling (Plain line) = spelling line
refined_spelling Cap = codes "cap"
refined_spelling (Group t members) = codes "tail" ++ (word t ++ member_words members)
refined_spelling (Offset t i g v) = codes "off" ++ words (t ∷ i ∷ g ∷ v ∷ [])
refined_spelling (Clique t v members) = codes "clq" ++ words (t ∷ v ∷ members)

-- a line that version 3 has as version 2 has it: no title and no tail
abbrev pub IsPlain : CertificateLine → Type 0
IsPlain (line.Title version) = ⊥
IsPlain (line.Tail t weight places) = ⊥
IsPlain _ = ⊤

-- the numbers of a member have at most 19 digits
abbrev pub IsMember : LineMember → Type 0
IsMember x = IsNumber x.scenario × IsNumber x.weight

-- by scenario
abbrev pub MemberBefore : LineMember → LineMember → Type 0
MemberBefore x y = x.scenario < y.scenario

-- the line has a form: its numbers have at most 19 digits, the bound's at most 37, and scenarios and members ascend
abbrev pub IsRefinedLine : RefinedLine → Type 0
IsRefinedLine Title = ⊤
IsRefinedLine (Plain line) = IsPlain line × IsLine line
IsRefinedLine Cap = ⊤
IsRefinedLine (Group t members) = IsNumber t × All IsMember members × AllPairs MemberBefore members
IsRefinedLine (Offset t i g v) = IsNumber t × IsNumber i × IsNumber g × IsNumber v
IsRefinedLine (Clique t v members) = IsNumber t × IsNumber v × All IsNumber members × AllPairs (λ i j. i < j) members
