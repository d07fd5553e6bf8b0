-- Laws of the text.
use Rattle.std.specs.Prelude.{◌≡◌, ℕ, List, [], ◌∷◌, ◌++◌, length, All}
use Rattle.instance_model.specs.Tables.{Tables}
use Rattle.instance_model.specs.Fitting.{IsFitting}
use Rattle.lagrange_bound.specs.Prices.{PriceList}
use Rattle.refined_prices.specs.RefinedLists.{IsRefinedList}
use Rattle.certificate_text.specs.Grammar.{EntryKey, nodes}
use Rattle.refined_check.specs.declared.certificate.certificate.RefinedCertificate.{RefinedCertificate}
use Rattle.refined_check.specs.certificate.Orders.{IsInOrder}
use Rattle.refined_check.specs.certificate.Ranges.{IsRefinedInRange}
use Rattle.refined_text.specs.declared.lines.members.LineMember.{LineMember}
use Rattle.refined_text.specs.declared.lines.line.RefinedLine.{RefinedLine}
use Rattle.refined_text.specs.declared.lines.line.RefinedLine.TheVariants as refined
use Rattle.refined_text.specs.lines.Spelling.{IsRefinedLine}
use Rattle.refined_text.specs.text.Text.{refined_entry_lines, refined_certificate_lines, refined_text}
use Rattle.refined_text.specs.grammar.Further.{Further, no_further, group_of, offset_of_line, clique_of_line, HasEnough}
use Rattle.refined_text.specs.grammar.Further.{IsNextGroup, GroupFits, IsNextOffset, OffsetFits, IsNextClique}
use Rattle.refined_text.specs.grammar.Further.{CliqueFits}
use Rattle.refined_text.specs.grammar.Further.{with_cap, with_group_of, with_offset, with_clique}
use Rattle.refined_text.specs.grammar.Grammar.{start, within, RefinedLeads}
use Rattle.refined_text.specs.grammar.SoFar.{list_of, IsSoFar}

-- the lines of a certificate in range lead from the first line to the end of the tree
abbrev pub RefinedTextsLead : Type 0
RefinedTextsLead = (inst : Tables) (cert : RefinedCertificate) → IsFitting inst → IsRefinedInRange inst cert
    → RefinedLeads inst start (refined_certificate_lines inst cert)
    (within (nodes (length cert.lists) []) (no_further inst))

-- each line of a certificate in range has a form
abbrev pub RefinedLinesHaveForms : Type 0
RefinedLinesHaveForms = (inst : Tables) (cert : RefinedCertificate) → IsFitting inst → IsRefinedInRange inst cert
    → All IsRefinedLine (refined_certificate_lines inst cert)

-- two certificates in range that have the same lines are the same
abbrev pub RefinedLinesTell : Type 0
RefinedLinesTell = (inst : Tables) (cert other : RefinedCertificate) → IsFitting inst → IsRefinedInRange inst cert
    → IsRefinedInRange inst other → refined_certificate_lines inst cert ≡ refined_certificate_lines inst other
    → cert ≡ other

-- and so are two that have the same text
abbrev pub RefinedTextsTell : Type 0
RefinedTextsTell = (inst : Tables) (cert other : RefinedCertificate) → IsFitting inst → IsRefinedInRange inst cert
    → IsRefinedInRange inst other → refined_text inst cert ≡ refined_text inst other → cert ≡ other

-- ---- entries that are read one after another

-- an entry more: its line comes last, and the list is in range as far as it has been read
pub record RefinedGrows (inst : Tables) (prices : PriceList) (old new : Further) (last : EntryKey)
    (line : RefinedLine) : Type 0 where
  pub lines : refined_entry_lines inst (list_of prices new)
      ≡ refined_entry_lines inst (list_of prices old) ++ line ∷ []
  pub so_far : IsSoFar inst prices new last

-- an entry of version 3's own that may stand behind the others, with its numbers in range, is one entry more
abbrev pub CapGrows : Type 0
CapGrows = (inst : Tables) (prices : PriceList) (further : Further) (last : EntryKey)
    → IsSoFar inst prices further last → further.kind ≡ 0
    → RefinedGrows inst prices further (with_cap further) last refined.Cap

abbrev pub GroupGrows : Type 0
GroupGrows = (inst : Tables) (prices : PriceList) (further : Further) (last : EntryKey) (t : ℕ)
    (members : List LineMember) → IsSoFar inst prices further last → IsNextGroup further t (group_of members)
    → GroupFits inst further t (group_of members)
    → RefinedGrows inst prices further (with_group_of further t (group_of members)) last (refined.Group t members)

abbrev pub OffsetGrows : Type 0
OffsetGrows = (inst : Tables) (prices : PriceList) (further : Further) (last : EntryKey) (t i g v : ℕ)
    → IsSoFar inst prices further last → IsNextOffset further t i g → OffsetFits inst further t i g v
    → RefinedGrows inst prices further (with_offset further (offset_of_line t i g v)) last (refined.Offset t i g v)

abbrev pub CliqueGrows : Type 0
CliqueGrows = (inst : Tables) (prices : PriceList) (further : Further) (last : EntryKey) (t v : ℕ) (members : List ℕ)
    → IsSoFar inst prices further last → IsNextClique further t members → CliqueFits inst further t v members
    → RefinedGrows inst prices further (with_clique further (clique_of_line t v members)) last
    (refined.Clique t v members)

-- where the period of the last group has enough, a list as far as it has been read is a list in range
abbrev pub ListsEnd : Type 0
ListsEnd = (inst : Tables) (prices : PriceList) (further : Further) (last : EntryKey)
    → IsSoFar inst prices further last → HasEnough inst further.tails further.period
    → IsRefinedList inst (list_of prices further) × IsInOrder (list_of prices further)
