-- The one text of a certificate: its lines, in order. Interventions, resources and exclusions count
-- from 0 in a certificate and from 1 in its text.
use Rattle.std.specs.Prelude.{ℕ, ◌+◌, ◌/◌, ◌%◌, ◌==◌, if◌then◌else◌, List, [], ◌∷◌, ◌++◌, length, map, Option, Some}
use Rattle.std.specs.Prelude.{None}
use Rattle.std.specs.List.{flat_map}
use Rattle.instance_model.specs.Tables.{Tables}
use Rattle.lagrange_bound.specs.declared.tail.Tail.{Tail}
use Rattle.lagrange_bound.specs.declared.ex_price.ExPrice.{ExPrice}
use Rattle.lagrange_bound.specs.Prices.{PriceList}
use Rattle.certificate_lines.specs.declared.line.CertificateLine.{CertificateLine}
use Rattle.certificate_lines.specs.declared.line.CertificateLine.TheVariants as line
use Rattle.certificate_lines.specs.Spelling.{spelling}
use Rattle.certificate_tree.specs.declared.node.Node.{Node}
use Rattle.certificate_tree.specs.declared.node.Node.TheVariants as node
use Rattle.certificate_tree.specs.declared.certificate.Certificate.{Certificate}

-- the lines of the prices on limits from place k on, those that aren't 0: by resource, then period
unfoldable pub limit_lines : (ℕ → ℕ → ℕ → CertificateLine) → (periods : ℕ) → (k : ℕ) → List ℕ → List CertificateLine
limit_lines form periods k [] = []
limit_lines form periods k (v ∷ vs) =
    if v == 0 then limit_lines form periods (k + 1) vs
    else form (k / periods + 1) (k % periods + 1) v ∷ limit_lines form periods (k + 1) vs

-- the lines of the tails from period t on, where there is one
unfoldable pub tail_lines : (t : ℕ) → List (Option Tail) → List CertificateLine
tail_lines t [] = []
tail_lines t (None ∷ tails) = tail_lines (t + 1) tails
tail_lines t (Some tail ∷ tails) = line.Tail t tail.weight tail.places ∷ tail_lines (t + 1) tails

-- the line of the price of an exclusion
abbrev pub ex_line : ExPrice → CertificateLine
ex_line x = line.Ex (x.exclusion + 1) x.period x.value

-- the entries of a price list: all up, all lo, all tails, all prices of exclusions
abbrev pub entry_lines : Tables → PriceList → List CertificateLine
entry_lines inst prices =
    limit_lines line.Up inst.periods 0 prices.up
    ++ (limit_lines line.Lo inst.periods 0 prices.lo ++ (tail_lines 1 prices.tails ++ map ex_line prices.ex))

-- the lines of a price list
abbrev pub list_lines : Tables → PriceList → List CertificateLine
list_lines inst prices = line.Prices ∷ entry_lines inst prices

-- the line of a node
abbrev pub node_line : Node → CertificateLine
node_line (node.Split i last) = line.Split (i + 1) last
node_line (node.Cost list) = line.Cost list
node_line node.Point = line.Point
node_line (node.Band c t side) = line.Band (c + 1) t side
node_line (node.Excl e) = line.Excl (e + 1)
node_line (node.Empty i) = line.Empty (i + 1)

-- the lines of a tree: that it begins, and its nodes in pre-order
abbrev pub tree_lines : List Node → List CertificateLine
tree_lines nodes = line.Tree ∷ map node_line nodes

-- the lines of a certificate
abbrev pub certificate_lines : Tables → Certificate → List CertificateLine
certificate_lines inst cert =
    line.Title cert.version ∷ line.Bound cert.bound ∷ line.Lists (length cert.lists)
    ∷ (flat_map (list_lines inst) cert.lists ++ tree_lines cert.nodes)

-- a line as it is written, with its line feed
abbrev pub line_text : CertificateLine → List ℕ
line_text line = spelling line ++ 10 ∷ []

-- the text of some lines
abbrev pub text_of_lines : List CertificateLine → List ℕ
text_of_lines lines = flat_map line_text lines

-- the text of a certificate
abbrev pub certificate_text : Tables → Certificate → List ℕ
certificate_text inst cert = text_of_lines (certificate_lines inst cert)
