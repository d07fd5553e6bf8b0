-- What the steps of writing a certificate say. Cited by private functions only: no part of any promise.
use Rattle.std.specs.Prelude.{ℕ, ◌+◌, List, [], ◌∷◌, length}
use Rattle.std.specs.List.{flat_map}
use Rattle.instance_model.specs.Tables.{Tables}
use Rattle.refined_prices.specs.declared.member.Member.{Member}
use Rattle.refined_prices.specs.declared.offset.Offset.{Offset}
use Rattle.refined_prices.specs.declared.clique.Clique.{Clique}
use Rattle.refined_prices.specs.RefinedLists.{RefinedList}
use Rattle.certificate_lines.specs.declared.line.CertificateLine.TheVariants as line
use Rattle.certificate_lines.specs.Spelling.{words}
use Rattle.refined_check.specs.declared.certificate.certificate.RefinedCertificate.{RefinedCertificate}
use Rattle.refined_text.specs.declared.lines.line.RefinedLine.{RefinedLine}
use Rattle.refined_text.specs.declared.lines.line.RefinedLine.TheVariants as refined
use Rattle.refined_text.specs.text.Text.{refined_line_text, text_of_refined, group_line, offset_line, clique_line}
use Rattle.refined_text.specs.text.Text.{refined_list_lines}

-- the two words of a member
abbrev pub pair_words : Member → List ℕ
pair_words x = words (x.scenario ∷ x.weight ∷ [])

-- those of all members of a group
abbrev pub group_words : List Member → List ℕ
group_words group = flat_map pair_words group

-- the word of an intervention, which counts from 1 in the text
abbrev pub next_word : ℕ → List ℕ
next_word i = words ((i + 1) ∷ [])

-- those of all members of a clique
abbrev pub clique_words : List ℕ → List ℕ
clique_words members = flat_map next_word members

-- the text of one group, and those of all groups of a period
abbrev pub group_text : ℕ → List Member → List ℕ
group_text t group = refined_line_text (group_line t group)

abbrev pub group_texts : ℕ → List (List Member) → List ℕ
group_texts t groups = flat_map (group_text t) groups

-- of one offset, and of all
abbrev pub offset_text : Offset → List ℕ
offset_text x = refined_line_text (offset_line x)

abbrev pub offset_texts : List Offset → List ℕ
offset_texts offsets = flat_map offset_text offsets

-- of one clique, and of all
abbrev pub clique_text : Clique → List ℕ
clique_text x = refined_line_text (clique_line x)

abbrev pub clique_texts : List Clique → List ℕ
clique_texts cliques = flat_map clique_text cliques

-- of one price list, and of all
abbrev pub list_text : Tables → RefinedList → List ℕ
list_text inst list = text_of_refined (refined_list_lines inst list)

abbrev pub list_texts : Tables → List RefinedList → List ℕ
list_texts inst lists = flat_map (list_text inst) lists

-- the first three lines of a certificate
abbrev pub refined_header : RefinedCertificate → List RefinedLine
refined_header cert =
    refined.Title ∷ refined.Plain (line.Bound cert.bound) ∷ refined.Plain (line.Lists (length cert.lists)) ∷ []
