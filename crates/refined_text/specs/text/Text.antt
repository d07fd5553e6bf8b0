-- The one text of a certificate by refined price lists: its lines, in order. Interventions, resources, exclusions and
-- groups count from 0 in a certificate and from 1 in its text.
use Rattle.std.specs.Prelude.{ℕ, ◌+◌, Bool, if◌then◌else◌, List, [], ◌∷◌, ◌++◌, length, map, Option, Some, None}
use Rattle.std.specs.List.{flat_map}
use Rattle.instance_model.specs.Tables.{Tables}
use Rattle.refined_prices.specs.declared.member.Member.{Member}
use Rattle.refined_prices.specs.declared.group_tail.GroupTail.{GroupTail}
use Rattle.refined_prices.specs.declared.offset.Offset.{Offset}
use Rattle.refined_prices.specs.declared.clique.Clique.{Clique}
use Rattle.refined_prices.specs.RefinedLists.{RefinedList}
use Rattle.certificate_lines.specs.declared.line.CertificateLine.TheVariants as line
use Rattle.certificate_text.specs.Text.{entry_lines, tree_lines}
use Rattle.refined_text.specs.declared.lines.members.LineMember.{LineMember}
use Rattle.refined_text.specs.declared.lines.line.RefinedLine.{RefinedLine}
use Rattle.refined_text.specs.declared.lines.line.RefinedLine.TheVariants as refined
use Rattle.refined_text.specs.lines.Spelling.{refined_spelling}
use Rattle.refined_check.specs.declared.certificate.certificate.RefinedCertificate.{RefinedCertificate}

-- a scenario and its weight, as a line has them
abbrev pub line_member : Member → LineMember
line_member x = record { scenario = x.scenario; weight = x.weight }

-- the line of a group of period t
abbrev pub group_line : ℕ → List Member → RefinedLine
group_line t group = refined.Group t (map line_member group)

-- the lines of the tails from period t on, one for each group, where there is a tail
unfoldable pub group_lines : (t : ℕ) → List (Option GroupTail) → List RefinedLine
group_lines t [] = []
group_lines t (None ∷ tails) = group_lines (t + 1) tails
group_lines t (Some tail ∷ tails) = map (group_line t) tail.groups ++ group_lines (t + 1) tails

-- the line that caps of lower limits count, where they do
abbrev pub cap_lines : Bool → List RefinedLine
cap_lines capped = if capped then refined.Cap ∷ [] else []

-- the line of an offset
abbrev pub offset_line : Offset → RefinedLine
offset_line x = refined.Offset x.period (x.intervention + 1) (x.group + 1) x.value

-- the line of the price of a clique
abbrev pub clique_line : Clique → RefinedLine
clique_line x = refined.Clique x.period x.value (map (λ i. i + 1) x.members)

-- what a list has besides prices on limits and exclusions: the cap, all groups, all offsets, all cliques
abbrev pub further_lines : RefinedList → List RefinedLine
further_lines list =
    cap_lines list.capped
    ++ (group_lines 1 list.tails ++ (map offset_line list.offsets ++ map clique_line list.cliques))

-- the entries of a refined price list: all up, all lo and all ex as in version 2, and what it has besides
abbrev pub refined_entry_lines : Tables → RefinedList → List RefinedLine
refined_entry_lines inst list = map refined.Plain (entry_lines inst list.prices) ++ further_lines list

-- the lines of a refined price list
abbrev pub refined_list_lines : Tables → RefinedList → List RefinedLine
refined_list_lines inst list = refined.Plain line.Prices ∷ refined_entry_lines inst list

-- the lines of a certificate
abbrev pub refined_certificate_lines : Tables → RefinedCertificate → List RefinedLine
refined_certificate_lines inst cert =
    refined.Title ∷ refined.Plain (line.Bound cert.bound) ∷ refined.Plain (line.Lists (length cert.lists))
    ∷ (flat_map (refined_list_lines inst) cert.lists ++ map refined.Plain (tree_lines cert.nodes))

-- a line as it is written, with its line feed
abbrev pub refined_line_text : RefinedLine → List ℕ
refined_line_text line = refined_spelling line ++ 10 ∷ []

-- the text of some lines
abbrev pub text_of_refined : List RefinedLine → List ℕ
text_of_refined lines = flat_map refined_line_text lines

-- the text of a certificate
abbrev pub refined_text : Tables → RefinedCertificate → List ℕ
refined_text inst cert = text_of_refined (refined_certificate_lines inst cert)
