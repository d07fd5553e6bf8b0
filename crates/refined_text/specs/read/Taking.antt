-- What the steps of taking an entry into a price list say. No public clause cites this.
use Rattle.std.specs.Prelude.{◌≡◌, ℕ, ◌<◌, ◌≤◌, List, [], ◌∷◌, ◌++◌, length, Option, Some, All}
use Rattle.std.specs.Prelude.{slice_index_or}
use Rattle.instance_model.specs.Tables.{Tables}
use Rattle.lagrange_bound.specs.Prices.{IsPriceList}
use Rattle.season_exclusion.specs.Broken.{naming_of}
use Rattle.certificate_lines.specs.declared.line.Version.TheVariants.{Two}
use Rattle.certificate_lines.specs.declared.line.CertificateLine.{CertificateLine}
use Rattle.certificate_text.specs.Grammar.{KeyBelow}
use Rattle.certificate_text.specs.Grammar as place
use Rattle.certificate_text.specs.declared.read.refusal.Refusal.{Refusal}
use Rattle.certificate_text.specs.declared.read.refusal.Refusal.TheVariants.{Misplaced, OutOfRange}
use Rattle.certificate_text.specs.read.Reading.{IsMark, IsEntry, EntryFits, SetsEntry}
use Rattle.refined_prices.specs.declared.member.Member.{Member}
use Rattle.refined_prices.specs.declared.group_tail.GroupTail.{GroupTail}
use Rattle.refined_prices.specs.Groups.{IsGroup, AreDisjoint}
use Rattle.refined_prices.specs.Cliques.{IsPricedClique}
use Rattle.refined_text.specs.declared.lines.line.RefinedLine.{RefinedLine}
use Rattle.refined_text.specs.declared.lines.line.RefinedLine.TheVariants as refined
use Rattle.refined_text.specs.text.Text.{refined_entry_lines}
use Rattle.refined_text.specs.grammar.Further.{groups_of, with_group, with_cap, with_group_of, with_offset}
use Rattle.refined_text.specs.grammar.Further.{with_clique, offset_of_line, clique_of_line, IsNextGroup, GroupFits}
use Rattle.refined_text.specs.grammar.Further.{IsNextOffset, OffsetFits, IsNextClique, CliqueFits}
use Rattle.refined_text.specs.grammar.Grammar.{RefinedPlace, within, RefinedStands, RefinedFits, refined_after}
use Rattle.refined_text.specs.grammar.SoFar.{list_of, IsSoFar}
use Rattle.refined_text.specs.read.Parts.{Part}

-- ---- refusals

-- why a line is refused that has to stand and to fit
abbrev pub RefusedBy : Type 0 → Type 0 → Refusal → Type 0
RefusedBy stands fits Misplaced = stands → ⊥
RefusedBy stands fits OutOfRange = stands × (fits → ⊥)

-- why a line is refused at a place
abbrev pub RefinedRefuses : Tables → RefinedPlace → RefinedLine → Refusal → Type 0
RefinedRefuses inst place line refusal = RefusedBy (RefinedStands place line) (RefinedFits inst place line) refusal

-- ---- entries

-- a line begins a price list or the tree
abbrev pub IsRefinedMark : RefinedLine → Type 0
IsRefinedMark (refined.Plain line) = IsMark line
IsRefinedMark _ = ⊥

-- the place behind what has been read of a price list, of which `left` have still to begin
abbrev pub among : (count left : ℕ) → Part → RefinedPlace
among count left part = within (place.lists Two count left (Some part.last)) part.further

-- the entries that have been read are in range so far
abbrev pub IsPart : Tables → Part → Type 0
IsPart inst part = IsSoFar inst part.prices part.further part.last

-- the lines of these entries
abbrev pub part_lines : Tables → Part → List RefinedLine
part_lines inst part = refined_entry_lines inst (list_of part.prices part.further)

-- an entry that may stand there with its numbers in range was taken
pub record TakesEntry (inst : Tables) (old new : Part) (line : RefinedLine) : Type 0 where
  pub stands : (count left : ℕ) → RefinedStands (among count left old) line
  pub fits : (count left : ℕ) → RefinedFits inst (among count left old) line
  pub after : (count left : ℕ) → refined_after inst (among count left old) line ≡ among count left new
  pub lines : part_lines inst new ≡ part_lines inst old ++ line ∷ []
  pub so_far : IsPart inst new

-- a price on a limit or an exclusion was taken
pub record TakesPrice (inst : Tables) (old new : Part) (line : CertificateLine) : Type 0 where
  pub first : old.further.kind ≡ 0
  pub is_entry : IsEntry Two line new.last
  pub above : KeyBelow old.last new.last
  pub fits : EntryFits inst line
  pub sets : SetsEntry inst old.prices new.prices line
  pub in_range : IsPriceList inst new.prices
  pub same : new.further ≡ old.further

-- the line of the cap was taken
pub record TakesCap (old new : Part) : Type 0 where
  pub first : old.further.kind ≡ 0
  pub is : new ≡ record old { further = with_cap old.further }

-- a group was taken
pub record TakesGroup (inst : Tables) (old new : Part) (t : ℕ) (group : List Member) : Type 0 where
  pub next : IsNextGroup old.further t group
  pub fits : GroupFits inst old.further t group
  pub is : new ≡ record old { further = with_group_of old.further t group }

-- an offset was taken
pub record TakesOffset (inst : Tables) (old new : Part) (t i g v : ℕ) : Type 0 where
  pub next : IsNextOffset old.further t i g
  pub fits : OffsetFits inst old.further t i g v
  pub is : new ≡ record old { further = with_offset old.further (offset_of_line t i g v) }

-- a clique was taken
pub record TakesClique (inst : Tables) (old new : Part) (t v : ℕ) (members : List ℕ) : Type 0 where
  pub next : IsNextClique old.further t members
  pub fits : CliqueFits inst old.further t v members
  pub is : new ≡ record old { further = with_clique old.further (clique_of_line t v members) }

-- ---- parts of these

-- a group is in range beside those of a tail, for a period that has n scenarios
pub record FitsBeside (n : ℕ) (tail : Option GroupTail) (group : List Member) : Type 0 where
  pub some_weight : 1 ≤ (with_group tail group).weight
  pub small_weight : (with_group tail group).weight ≤ 1000
  pub own : IsGroup n (with_group tail group).weight group
  pub apart : All (λ other. AreDisjoint other group) (groups_of tail)

-- a clique of at least two is in range with its price
pub record IsSomeClique (inst : Tables) (t v : ℕ) (members : List ℕ) : Type 0 where
  pub numbers : All (λ i. 1 ≤ i) members
  pub some : 2 ≤ length members
  pub clique : IsPricedClique inst (clique_of_line t v members)

-- the exclusions that name each intervention
pub record AreNamed (inst : Tables) (lists : List (List ℕ)) : Type 0 where
  pub each : length lists ≡ length inst.names
  pub named : (i : ℕ) → i < length inst.names → slice_index_or lists i [] ≡ naming_of inst i
