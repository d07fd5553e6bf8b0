-- What the steps of reading say. No public clause cites this.
use Rattle.std.specs.Prelude.{◌≡◌, ◌≢◌, ℕ, zero, suc, ◌+◌, ◌-◌, ◌≤◌, ⊤, List, [], ◌∷◌, ◌++◌, length, map, All}
use Rattle.std.specs.Prelude.{None}
use Rattle.std.specs.List.{flat_map}
use Rattle.instance_model.specs.Tables.{Tables}
use Rattle.certificate_lines.specs.declared.line.Version.TheVariants.{Two}
use Rattle.certificate_lines.specs.declared.line.CertificateLine.TheVariants as line
use Rattle.certificate_tree.specs.declared.node.Node.{Node}
use Rattle.certificate_tree.specs.Trees.{Tree, root_box}
use Rattle.certificate_tree.specs.Ranges.{AreNodesOf}
use Rattle.certificate_text.specs.Text.{node_line}
use Rattle.certificate_text.specs.Grammar.{lists, nodes}
use Rattle.certificate_text.specs.declared.read.fault.CertFault.{CertFault}
use Rattle.certificate_text.specs.declared.read.fault.CertFault.TheVariants.{Cut, BadLine, Bounds, Memory}
use Rattle.certificate_text.specs.read.Lines.{Left}
use Rattle.refined_prices.specs.RefinedLists.{RefinedList, IsRefinedList}
use Rattle.refined_check.specs.declared.certificate.certificate.RefinedCertificate.{RefinedCertificate}
use Rattle.refined_check.specs.certificate.Orders.{IsInOrder}
use Rattle.refined_check.specs.certificate.Ranges.{IsRefinedInRange}
use Rattle.refined_text.specs.declared.lines.line.RefinedLine.{RefinedLine}
use Rattle.refined_text.specs.declared.lines.line.RefinedLine.TheVariants as refined
use Rattle.refined_text.specs.lines.Spelling.{refined_spelling, IsRefinedLine}
use Rattle.refined_text.specs.text.Text.{text_of_refined, refined_entry_lines, refined_list_lines}
use Rattle.refined_text.specs.text.Text.{refined_certificate_lines}
use Rattle.refined_text.specs.grammar.Further.{no_further}
use Rattle.refined_text.specs.grammar.Grammar.{RefinedPlace, start, within, RefinedLeads}
use Rattle.refined_text.specs.read.Faults.{HasRefinedFaultFrom}
use Rattle.refined_text.specs.read.Parts.{Part, no_part}
use Rattle.refined_text.specs.read.Taking.{among, IsPart, part_lines}

-- ---- lines

-- a line that has a form was read
pub record ReadsRefined (old new : Left) (line : RefinedLine) : Type 0 where
  pub form : IsRefinedLine line
  pub cut : old.rest ≡ refined_spelling line ++ 10 ∷ new.rest
  pub next : new.count ≡ old.count + 1

-- the next line is there, and has no form
pub record IsRefinedFormless (rest : List ℕ) : Type 0 where
  pub text : List ℕ
  pub more : List ℕ
  pub cut : rest ≡ text ++ 10 ∷ more
  pub whole : All (λ b. b ≢ 10) text
  pub none : (line : RefinedLine) → IsRefinedLine line → text ≡ refined_spelling line → ⊥

-- why no line was read
abbrev pub IsNoRefined : Left → CertFault → Type 0
IsNoRefined left (Cut k) = (k ≡ left.count + 1) × All (λ b. b ≢ 10) left.rest
IsNoRefined left (BadLine k) = (k ≡ left.count + 1) × IsRefinedFormless left.rest
IsNoRefined left (Bounds k) = ⊥
IsNoRefined left Memory = ⊤

-- these lines were read, and lead from one place to another
pub record RefinedPasses (inst : Tables) (first : RefinedPlace) (old : Left) (lines : List RefinedLine)
    (end : RefinedPlace) (new : Left) : Type 0 where
  pub forms : All IsRefinedLine lines
  pub cut : old.rest ≡ text_of_refined lines ++ new.rest
  pub next : new.count ≡ old.count + length lines
  pub leads : RefinedLeads inst first lines end

-- the fault of the first line that has one, of what is left of a text at a place
abbrev pub RefinedFails : Tables → RefinedPlace → Left → CertFault → Type 0
RefinedFails inst first left fault = HasRefinedFaultFrom inst first left.count left.rest fault

-- ---- marks

-- the line that follows, where so many price lists have still to begin: that of the next one, or else that of the tree
abbrev pub mark_line : ℕ → RefinedLine
mark_line zero = refined.Plain line.Tree
mark_line (suc left) = refined.Plain line.Prices

-- the place behind it
abbrev pub behind_mark : Tables → (count left : ℕ) → RefinedPlace
behind_mark inst count zero = within (nodes count (root_box inst ∷ [])) (no_further inst)
behind_mark inst count (suc left) = among count left (no_part inst)

-- ---- price lists

-- the first line of all of them
abbrev pub lists_begin : Tables → ℕ → RefinedPlace
lists_begin inst count = within (lists Two count count None) (no_further inst)

-- entries of a price list that was begun were read
pub record ReadsPart (inst : Tables) (old : Left) (part : Part) (new : Left) : Type 0 where
  pub passes : (count left : ℕ) → RefinedPasses inst (among count left (no_part inst)) old (part_lines inst part)
      (among count left part) new
  pub so_far : IsPart inst part

-- and a line behind them
pub record ReadsPartAnd (inst : Tables) (old : Left) (part : Part) (line : RefinedLine) (new : Left) : Type 0 where
  pub between : Left
  pub reads : ReadsPart inst old part between
  pub next : ReadsRefined between new line

-- all entries of a price list were read, and the line behind them, which begins the next list or the tree
pub record ReadsRest (inst : Tables) (count left : ℕ) (old : Left) (list : RefinedList) (new : Left) : Type 0 where
  pub passes : RefinedPasses inst (among count left (no_part inst)) old (refined_entry_lines inst list
      ++ mark_line left ∷ []) (behind_mark inst count left) new
  pub in_range : IsRefinedList inst list
  pub in_order : IsInOrder list

-- price lists were read, and the line behind them
pub record ReadsSome (inst : Tables) (count : ℕ) (old : Left) (lists : List RefinedList) (new : Left) : Type 0 where
  pub few : length lists ≤ count
  pub passes : RefinedPasses inst (lists_begin inst count) old (flat_map (refined_list_lines inst) lists
      ++ mark_line (count - length lists) ∷ []) (behind_mark inst count (count - length lists)) new
  pub in_range : All (IsRefinedList inst) lists
  pub in_order : All IsInOrder lists

-- all price lists were read, and the line that begins the tree
pub record ReadsAll (inst : Tables) (count : ℕ) (old : Left) (lists : List RefinedList) (new : Left) : Type 0 where
  pub each : length lists ≡ count
  pub passes : RefinedPasses inst (lists_begin inst count) old (flat_map (refined_list_lines inst) lists
      ++ refined.Plain line.Tree ∷ []) (within (nodes count (root_box inst ∷ [])) (no_further inst)) new
  pub in_range : All (IsRefinedList inst) lists
  pub in_order : All IsInOrder lists

-- ---- the rest

-- the nodes of a tree are all that was left
pub record ReadsTree (inst : Tables) (count : ℕ) (old : Left) (read : List Node) : Type 0 where
  pub end : Left
  pub passes : RefinedPasses inst (within (nodes count (root_box inst ∷ [])) (no_further inst)) old
      (map refined.Plain (map node_line read)) (within (nodes count []) (no_further inst)) end
  pub nothing : length end.rest ≡ 0
  pub tree : (t : Tree) × AreNodesOf inst count (root_box inst) t read

-- the lines of a certificate are all that was left
pub record ReadsRefinedCertificate (inst : Tables) (old : Left) (cert : RefinedCertificate) : Type 0 where
  pub in_range : IsRefinedInRange inst cert
  pub end : Left
  pub passes : RefinedPasses inst start old (refined_certificate_lines inst cert)
      (within (nodes (length cert.lists) []) (no_further inst)) end
  pub nothing : length end.rest ≡ 0
