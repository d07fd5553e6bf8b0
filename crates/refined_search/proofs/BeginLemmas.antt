-- The tree that a search begins with, and what a search by the tables of lists asks of them.
use Rattle.std.proofs.Common.{◌≡◌, ℕ, ◌-◌, ◌<◌, ◌≤◌, sym, ◌∙◌, ap, subst, arith, List, [], ◌∷◌, length, All}
use Rattle.std.proofs.Common.{Option, Some, None}
use Rattle.instance_model.specs.Tables.{Tables}
use Rattle.instance_model.specs.Fitting.{IsFitting}
use Rattle.lagrange_bound.specs.Goals.{risk_value}
use Rattle.lagrange_bound.specs.Tabulated.{PriceRows}
use Rattle.lagrange_bound.specs.PricedTables.{IsPricedTable}
use Rattle.certificate_lines.specs.declared.line.Bound.{Bound}
use Rattle.certificate_tree.specs.declared.node.Node.{Node}
use Rattle.certificate_tree.specs.declared.node.Node.TheVariants.{Cost}
use Rattle.certificate_tree.specs.Trees.{leaf, root_box}
use Rattle.certificate_tree.specs.Ranges.{AreNodesOf, IsBoundInRange}
use Rattle.certificate_tree.specs.Validity.{IsProved, BoundBoxes}
use Rattle.certificate_tree.specs.PriceTables.{table_worths, claim_by}
use Rattle.certificate_tree.specs.Laws.{TablesBoundBoxes}
use Rattle.band_rebound.specs.declared.rebounded.ReboundTree.{ReboundTree}
use Rattle.band_rebound.specs.Rebinding.{IsNoLower}
use Rattle.band_rebound.specs.Rebounds.{IsReboundBy}
use Rattle.refined_prices.specs.RefinedLists.{RefinedList, IsRefinedList}
use Rattle.refined_check.specs.declared.certificate.certificate.RefinedCertificate.{RefinedCertificate}
use Rattle.refined_check.specs.Worths.{refined_worths, AreRefinedTables}
use Rattle.refined_check.specs.Laws.{RefinedListsBoundBoxes}
use Rattle.refined_search.specs.Steps.{IsBegun}

-- ---- tables

-- what a search asks of tables
pub record AreReady (inst : Tables) (tables : List PriceRows) : Type 0 where
  pub some : 0 < length tables
  pub few : length tables ≤ 17
  pub priced : All (IsPricedTable inst) tables
  pub lawful : BoundBoxes risk_value inst (length tables - 1) (table_worths tables)

pub tables_ready : (inst : Tables) (lists : List RefinedList) (made tables : List PriceRows) → IsFitting inst
    → TablesBoundBoxes → RefinedListsBoundBoxes → length lists ≤ 16 → All (IsRefinedList inst) lists
    → AreRefinedTables inst lists made → tables ≡ made → AreReady inst tables
tables_ready inst lists made tables fit by_tables by_lists few ok are same =
    subst (AreReady inst) (sym same) (record {
      some = omega (arith, are.each);
      few = omega (arith, are.each, few);
      priced = are.priced;
      lawful = by_tables risk_value inst (length lists) (refined_worths inst lists) made are
          (by_lists inst lists fit ok);
    })

-- ---- one leaf over all starts

whole_nodes : (inst : Tables) (lists : ℕ) (nodes : List Node) → nodes ≡ Cost 0 ∷ []
    → AreNodesOf inst lists (root_box inst) (leaf (Cost 0)) nodes
whole_nodes inst lists nodes e = record { order = sym e; in_range = omega arith }

pub no_certificate : (old : RefinedCertificate) → ◌≡◌ {A = Option RefinedCertificate} None (Some old) → ⊥
no_certificate old e = cc

pub begun_whole : (inst : Tables) (tables : List PriceRows) (begun : ReboundTree) → begun.nodes ≡ Cost 0 ∷ []
    → begun.kept ≡ 0 → begun.changed ≡ 0 → IsBegun inst tables None begun
begun_whole inst tables begun nodes kept changed = record {
  begins = (nodes, kept, changed);
  tree = (leaf (Cost 0), whole_nodes inst (length tables - 1) begun.nodes nodes);
  no_lower = λ old e range proved. absurd (no_certificate old e);
}

-- ---- what the tree of a certificate becomes

pub same_certificate : (a b : RefinedCertificate) → ◌≡◌ {A = Option RefinedCertificate} (Some a) (Some b) → a ≡ b
same_certificate a b e = cc

pub begun_from : (inst : Tables) (tables : List PriceRows) (cert : RefinedCertificate) (nodes : List Node)
    (begun : ReboundTree) → nodes ≡ cert.nodes
    → BoundBoxes risk_value inst (length tables - 1) (table_worths tables)
    → IsReboundBy inst (length tables - 1) (table_worths tables) nodes begun
    → IsProved risk_value inst (claim_by begun.bound tables begun.nodes)
    → (BoundBoxes risk_value inst (length tables - 1) (table_worths tables)
    → (old : Bound) → IsBoundInRange old → IsProved risk_value inst (claim_by old tables nodes)
    → IsNoLower old begun.bound)
    → IsBegun inst tables (Some cert) begun
begun_from inst tables cert nodes begun same lawful is proved no_lower = record {
  begins = subst (λ (ns : List Node). IsReboundBy inst (length tables - 1) (table_worths tables) ns begun) same is;
  tree = (is.new, is.of_new);
  no_lower = λ old e range old_proved.
      let there : nodes ≡ old.nodes = same ∙ ap (λ (c : RefinedCertificate). c.nodes) (same_certificate cert old e) in (
        no_lower lawful old.bound range
            (subst (λ (ns : List Node). IsProved risk_value inst (claim_by old.bound tables ns)) (sym there) old_proved),
        proved,
      );
}
