-- Laws of the text.
use Rattle.std.specs.Prelude.{◌≡◌, ℕ, ◌+◌, ◌*◌, ◌^◌, ◌<◌, ◌≤◌, List, [], ◌∷◌, ◌++◌, length, All, Some}
use Rattle.std.specs.List.{sum_by}
use Rattle.instance_model.specs.Tables.{Tables}
use Rattle.instance_model.specs.Fitting.{IsFitting}
use Rattle.lagrange_bound.specs.declared.tail.Tail.{Tail}
use Rattle.lagrange_bound.specs.Prices.{PriceList, IsPriceList, zero_list}
use Rattle.lagrange_bound.specs.Changes.{with_up, with_lo, with_tail, IsExSet, IsBandPlace}
use Rattle.certificate_lines.specs.declared.line.CertificateLine.{CertificateLine}
use Rattle.certificate_lines.specs.declared.line.CertificateLine.TheVariants as line
use Rattle.certificate_lines.specs.Spelling.{IsLine}
use Rattle.certificate_tree.specs.declared.certificate.Certificate.{Certificate}
use Rattle.certificate_tree.specs.Ranges.{IsInRange}
use Rattle.certificate_text.specs.Text.{entry_lines, certificate_lines, text_of_lines, certificate_text}
use Rattle.certificate_text.specs.Grammar.{EntryKey, KeyBelow, up_key, lo_key, tail_key, ex_key, before_entries, title}
use Rattle.certificate_text.specs.Grammar.{nodes, Leads}
use Rattle.certificate_text.specs.Entries.{IsUpTo}

-- the lines of a certificate in range lead from the first line to the end of the tree
abbrev pub TextsLead : Type 0
TextsLead = (inst : Tables) (cert : Certificate) → IsInRange inst cert
    → Leads inst title (certificate_lines inst cert) (nodes (length cert.lists) [])

-- and lines that lead there are those of a certificate in range
abbrev pub LeadToCertificates : Type 0
LeadToCertificates = (inst : Tables) (lines : List CertificateLine) (m : ℕ) → Leads inst title lines (nodes m [])
    → (cert : Certificate) × IsInRange inst cert × (certificate_lines inst cert ≡ lines)

-- each line of a certificate in range has a form
abbrev pub LinesHaveForms : Type 0
LinesHaveForms = (inst : Tables) (cert : Certificate) → IsFitting inst → IsInRange inst cert
    → All IsLine (certificate_lines inst cert)

-- two certificates in range that have the same lines are the same
abbrev pub LinesTell : Type 0
LinesTell = (inst : Tables) (cert other : Certificate) → IsInRange inst cert → IsInRange inst other
    → certificate_lines inst cert ≡ certificate_lines inst other → cert ≡ other

-- and so are two that have the same text
abbrev pub TextsTell : Type 0
TextsTell = (inst : Tables) (cert other : Certificate) → IsFitting inst → IsInRange inst cert → IsInRange inst other
    → certificate_text inst cert ≡ certificate_text inst other → cert ≡ other

-- the first lines of a text are cut from it in one way, as are all lines of it
abbrev pub TextsAreCutOneWay : Type 0
TextsAreCutOneWay =
    (lines others : List CertificateLine) (rest more : List ℕ) → All IsLine lines → All IsLine others
    → length lines ≡ length others → text_of_lines lines ++ rest ≡ text_of_lines others ++ more
    → (lines ≡ others) × (rest ≡ more)

abbrev pub TextsAreSpelledOneWay : Type 0
TextsAreSpelledOneWay =
    (lines others : List CertificateLine) → All IsLine lines → All IsLine others
    → text_of_lines lines ≡ text_of_lines others → lines ≡ others

-- one entry more: its line comes last, and the entries have come up to its key
pub record Grows (inst : Tables) (old new : PriceList) (line : CertificateLine) (key : EntryKey) : Type 0 where
  pub lines : entry_lines inst new ≡ entry_lines inst old ++ line ∷ []
  pub up_to : IsUpTo inst new key

-- the list of zeros has no entry
abbrev pub ZeroHasNone : Type 0
ZeroHasNone = (inst : Tables) → entry_lines inst (zero_list inst) ≡ []

abbrev pub ZeroIsUpTo : Type 0
ZeroIsUpTo = (inst : Tables) → IsUpTo inst (zero_list inst) before_entries

-- a price on a limit, a tail or a price of an exclusion that is set above the last key is one entry more
abbrev pub UpGrows : Type 0
UpGrows =
    (inst : Tables) (prices : PriceList) (last : EntryKey) (c t v : ℕ) → IsPriceList inst prices
    → IsUpTo inst prices last → IsBandPlace inst c t → 1 ≤ v → KeyBelow last (up_key (c + 1) t)
    → Grows inst prices (with_up inst prices c t v) (line.Up (c + 1) t v) (up_key (c + 1) t)

abbrev pub LoGrows : Type 0
LoGrows =
    (inst : Tables) (prices : PriceList) (last : EntryKey) (c t v : ℕ) → IsPriceList inst prices
    → IsUpTo inst prices last → IsBandPlace inst c t → 1 ≤ v → KeyBelow last (lo_key (c + 1) t)
    → Grows inst prices (with_lo inst prices c t v) (line.Lo (c + 1) t v) (lo_key (c + 1) t)

abbrev pub TailGrows : Type 0
TailGrows =
    (inst : Tables) (prices : PriceList) (last : EntryKey) (t : ℕ) (tail : Tail) → IsPriceList inst prices
    → IsUpTo inst prices last → 1 ≤ t → t ≤ inst.periods → KeyBelow last (tail_key t)
    → Grows inst prices (with_tail prices t (Some tail)) (line.Tail t tail.weight tail.places) (tail_key t)

abbrev pub ExGrows : Type 0
ExGrows =
    (inst : Tables) (old new : PriceList) (last : EntryKey) (e t v : ℕ) → IsPriceList inst old → IsPriceList inst new
    → IsUpTo inst old last → IsExSet old new e t v → 1 ≤ v → KeyBelow last (ex_key (e + 1) t)
    → Grows inst old new (line.Ex (e + 1) t v) (ex_key (e + 1) t)

-- ---- lengths

-- how many bytes these have at most: the lines beside lists and nodes, a price list beside its prices of exclusions,
-- one of those prices, and a node
abbrev pub frame_bytes : ℕ
frame_bytes = 68

abbrev pub list_bytes : ℕ
list_bytes = 3_316_743

abbrev pub ex_bytes : ℕ
ex_bytes = 24

abbrev pub node_bytes : ℕ
node_bytes = 18

-- how many prices of exclusions a certificate has
abbrev pub ex_count : Certificate → ℕ
ex_count cert = sum_by (λ prices. length prices.ex) cert.lists

-- the text of a certificate in range is no longer than these add up to
abbrev pub TextsAreShort : Type 0
TextsAreShort = (inst : Tables) (cert : Certificate) → IsFitting inst → IsInRange inst cert
    → length (certificate_text inst cert)
    ≤ frame_bytes + list_bytes * length cert.lists + ex_bytes * ex_count cert + node_bytes * length cert.nodes

-- with at most one list, of at most 400 prices of exclusions, and at most 2,000,001 nodes it is shorter than the limit
-- of certificate files
abbrev pub TextsFitFiles : Type 0
TextsFitFiles = (inst : Tables) (cert : Certificate) → IsFitting inst → IsInRange inst cert → length cert.lists ≤ 1
    → All (λ prices. length prices.ex ≤ 400) cert.lists → length cert.nodes ≤ 2_000_001
    → length (certificate_text inst cert) < 2 ^ 28
