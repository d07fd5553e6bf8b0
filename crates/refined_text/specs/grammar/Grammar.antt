-- Which line may stand where in the text of a certificate by refined price lists, and in which ranges its numbers are.
-- A line that version 2 has too stands where it stands there, with its numbers in the ranges that they have there; but
-- behind an entry of version 3's own there is no price on a limit or an exclusion. Groups that are too few for their
-- period are told at the line that ends them: the first behind them that is no group of this period.
use Rattle.std.specs.Prelude.{◌≡◌, ℕ, ⊤, List, [], ◌∷◌, Some}
use Rattle.instance_model.specs.Tables.{Tables}
use Rattle.certificate_lines.specs.declared.line.Version.TheVariants.{Two}
use Rattle.certificate_lines.specs.declared.line.CertificateLine.{CertificateLine}
use Rattle.certificate_lines.specs.declared.line.CertificateLine.TheVariants as line
use Rattle.certificate_text.specs.Grammar.{Place, bound, lists, Stands, Fits, after, HasEnded}
use Rattle.refined_text.specs.declared.lines.line.RefinedLine.{RefinedLine}
use Rattle.refined_text.specs.declared.lines.line.RefinedLine.TheVariants as refined
use Rattle.refined_text.specs.lines.Spelling.{IsPlain}
use Rattle.refined_text.specs.grammar.Further.{Further, no_further, group_of, offset_of_line, clique_of_line, HasEnough}
use Rattle.refined_text.specs.grammar.Further.{IsNextGroup, GroupFits, IsNextOffset, OffsetFits, IsNextClique}
use Rattle.refined_text.specs.grammar.Further.{CliqueFits}
use Rattle.refined_text.specs.grammar.Further.{with_cap, with_group_of, with_offset, with_clique}

-- a place of the text: what the lines before it have left to come
pub data RefinedPlace : Type 0 where
  -- the first line
  start : RefinedPlace
  -- a place of version 2, and what has been read besides of the price list that was begun last
  within : Place → Further → RefinedPlace

-- nothing has to come any more
abbrev pub HasRefinedEnded : RefinedPlace → Type 0
HasRefinedEnded start = ⊥
HasRefinedEnded (within place further) = HasEnded place

-- a price list has begun
abbrev pub HasBegun : Place → Type 0
HasBegun (lists version count left (Some last)) = ⊤
HasBegun _ = ⊥

-- a price on a limit or an exclusion comes before all entries of version 3's own
abbrev pub ComesFirst : CertificateLine → ℕ → Type 0
ComesFirst (line.Up c t v) kind = kind ≡ 0
ComesFirst (line.Lo c t v) kind = kind ≡ 0
ComesFirst (line.Ex e t v) kind = kind ≡ 0
ComesFirst _ kind = ⊤

-- a line of this form may stand at the place
abbrev pub RefinedStands : RefinedPlace → RefinedLine → Type 0
RefinedStands start refined.Title = ⊤
RefinedStands (within place further) (refined.Plain line) =
    IsPlain line × Stands place line × ComesFirst line further.kind
RefinedStands (within place further) refined.Cap = HasBegun place × (further.kind ≡ 0)
RefinedStands (within place further) (refined.Group t members) =
    HasBegun place × IsNextGroup further t (group_of members)
RefinedStands (within place further) (refined.Offset t i g v) = HasBegun place × IsNextOffset further t i g
RefinedStands (within place further) (refined.Clique t v members) = HasBegun place × IsNextClique further t members
RefinedStands _ _ = ⊥

-- where a line ends a price list, the period of the last group has enough
abbrev pub EndsList : Tables → Further → CertificateLine → Type 0
EndsList inst further line.Prices = HasEnough inst further.tails further.period
EndsList inst further line.Tree = HasEnough inst further.tails further.period
EndsList inst further _ = ⊤

-- the numbers of a line that stands at the place are in their ranges
abbrev pub RefinedFits : Tables → RefinedPlace → RefinedLine → Type 0
RefinedFits inst (within place further) (refined.Plain line) = Fits inst place line × EndsList inst further line
RefinedFits inst (within place further) (refined.Group t members) = GroupFits inst further t (group_of members)
RefinedFits inst (within place further) (refined.Offset t i g v) = OffsetFits inst further t i g v
RefinedFits inst (within place further) (refined.Clique t v members) = CliqueFits inst further t v members
RefinedFits _ _ _ = ⊤

-- what has been read besides behind a line of version 2: nothing, where it ends a price list
abbrev pub further_after : Tables → Further → CertificateLine → Further
further_after inst further line.Prices = no_further inst
further_after inst further line.Tree = no_further inst
further_after inst further _ = further

-- the place behind a line that stands at the place
abbrev pub refined_after : Tables → RefinedPlace → RefinedLine → RefinedPlace
refined_after inst start refined.Title = within (bound Two) (no_further inst)
refined_after inst (within place further) (refined.Plain line) =
    within (after inst place line) (further_after inst further line)
refined_after inst (within place further) refined.Cap = within place (with_cap further)
refined_after inst (within place further) (refined.Group t members) =
    within place (with_group_of further t (group_of members))
refined_after inst (within place further) (refined.Offset t i g v) =
    within place (with_offset further (offset_of_line t i g v))
refined_after inst (within place further) (refined.Clique t v members) =
    within place (with_clique further (clique_of_line t v members))
refined_after inst place _ = place

-- the lines lead from one place to another: each of them stands where it is, with its numbers in their ranges
abbrev pub RefinedLeads : Tables → RefinedPlace → List RefinedLine → RefinedPlace → Type 0
RefinedLeads inst place [] end = place ≡ end
RefinedLeads inst place (line ∷ lines) end =
    RefinedStands place line × RefinedFits inst place line
    × RefinedLeads inst (refined_after inst place line) lines end
