-- By the same worths of boxes a tree becomes the same, so by the tables of its lists what a certificate does.
use Rattle.std.proofs.Common.{◌≡◌, ℕ, ◌-◌, refl, sym, ◌∙◌, ap, subst, arith, ℤ, List, [], ◌∷◌, ◌++◌, length}
use Rattle.instance_model.specs.Tables.{Tables}
use Rattle.instance_model.specs.Fitting.{IsFitting}
use Rattle.lagrange_bound.specs.declared.span.Span.{Span}
use Rattle.lagrange_bound.specs.Prices.{PriceList}
use Rattle.lagrange_bound.specs.Goals.{risk_base}
use Rattle.lagrange_bound.specs.Boxes.{IsBox}
use Rattle.lagrange_bound.specs.Tabulated.{PriceRows}
use Rattle.certificate_tree.specs.declared.node.Node.{Node}
use Rattle.certificate_tree.specs.declared.certificate.Certificate.{Certificate}
use Rattle.certificate_tree.specs.Trees.{Tree, leaf, split, root_box, below, above}
use Rattle.certificate_tree.specs.Ranges.{AreNodesOf, IsTreeInRange, IsTreeOf}
use Rattle.certificate_tree.specs.Holding.{Worths, worth_by}
use Rattle.certificate_tree.specs.Validity.{AreSameWorths}
use Rattle.certificate_tree.specs.PriceTables.{table_worths, AreTables}
use Rattle.certificate_tree.proofs.GreatestLemmas.{greatest_same}
use Rattle.certificate_tree.proofs.RootLemmas.{parts_are_boxes, root_is_box}
use Rattle.band_rebound.specs.declared.rebounded.ReboundTree.{ReboundTree}
use Rattle.band_rebound.specs.declared.rebounded.Rebounded.{Rebounded}
use Rattle.band_rebound.specs.Rebinding.{Becomes, TreeBecomes, worths_at, tree_worths, IsBoundOf}
use Rattle.band_rebound.specs.Rebinding.Becomes.{empty, same, point, cost}
use Rattle.band_rebound.specs.Rebounds.{IsReboundBy, IsReboundOf, tree_of}
use Rattle.band_rebound.proofs.LeafLemmas.{held_none}
use Rattle.band_rebound.proofs.TreeLemmas.{along}

module _ (inst : Tables) (lists : ℕ) (worths others : Worths) (are_same : AreSameWorths inst lists worths others) where
  becomes_same : (box : List Span) (old new : Node) → IsBox inst box → Becomes inst lists worths box old new
      → Becomes inst lists others box old new
  becomes_same box old new is_box (empty i f) = empty i f
  becomes_same box old new is_box (same s h) = same s h
  becomes_same box old new is_box (point s n o) = point s n o
  becomes_same box old new is_box (cost j s n o g) =
      cost j s n o (greatest_same (worths box) (others box) lists j (λ k l. are_same box k l is_box s) g)

  leaf_worths_same : (box : List Span) (old new : Node) → IsBox inst box → Becomes inst lists worths box old new
      → worths_at inst worths box new ≡ worths_at inst others box new
  leaf_worths_same box old new is_box (empty i f) = refl
  leaf_worths_same box old new is_box (same s h) =
      held_none inst worths box old h ∙ sym (held_none inst others box old h)
  leaf_worths_same box old new is_box (point s n o) = refl
  leaf_worths_same box old new is_box (cost j s n o g) =
      ap (λ (z : ℤ). z ∷ []) (are_same box j g.number is_box s)

  -- what a tree becomes, and what its leaves are worth
  tree_same : (box : List Span) (old new : Tree) → IsBox inst box → IsTreeInRange inst lists box old
      → TreeBecomes inst lists worths box old new
      → TreeBecomes inst lists others box old new × (tree_worths inst worths box new ≡ tree_worths inst others box new)
  tree_same box (leaf a) (leaf b) is_box range h = (becomes_same box a b is_box h, leaf_worths_same box a b is_box h)
  tree_same box (leaf a) (split j n k q) is_box range h = absurd h
  tree_same box (split i m l r) (leaf b) is_box range h = absurd h
  tree_same box (split i m l r) (split j n k q) is_box (splits, left, right) (e, f, x, y) =
      let parts = parts_are_boxes inst box i m is_box splits in
      let first = tree_same (below box i m) l k parts.0 left x in
      let second = tree_same (above box i m) r q parts.1 right y in (
        (e, f, first.0, second.0),
        along (λ a b. tree_worths inst worths box (split a b k q) ≡ tree_worths inst others box (split a b k q)) i j m n
            e f
            (ap (λ (zs : List ℤ). zs ++ tree_worths inst worths (above box i m) q) first.1
            ∙ ap (λ (zs : List ℤ). tree_worths inst others (below box i m) k ++ zs) second.1),
      )

  pub rebound_same : (nodes : List Node) (answer : ReboundTree) → IsFitting inst
      → IsReboundBy inst lists worths nodes answer → IsReboundBy inst lists others nodes answer
  rebound_same nodes answer fit is =
      let here = tree_same (root_box inst) is.old is.new (root_is_box inst fit) is.of_old.in_range is.becomes in
      record {
        old = is.old;
        of_old = is.of_old;
        new = is.new;
        of_new = is.of_new;
        becomes = here.0;
        bound = subst (λ (zs : List ℤ). IsBoundOf zs answer.bound) here.1 is.bound;
        counts = is.counts;
      }

-- ---- certificates

-- one table for each list, and one for list 0
pub one_table_more : (inst : Tables) (lists : List PriceList) (tables : List PriceRows)
    → AreTables risk_base inst lists tables → length lists ≡ length tables - 1
one_table_more inst lists tables are = let e = are.each in omega (arith, e)

-- the tree of a certificate is one for the tables of its lists
pub tree_by : (inst : Tables) (cert : Certificate) (tables : List PriceRows) (nodes : List Node)
    → AreTables risk_base inst cert.lists tables → nodes ≡ cert.nodes → (t : Tree) × IsTreeOf inst cert t
    → (t : Tree) × AreNodesOf inst (length tables - 1) (root_box inst) t nodes
tree_by inst cert tables nodes are nodes_are (t, of_nodes) = (
  t,
  subst (λ (ns : List Node). AreNodesOf inst (length tables - 1) (root_box inst) t ns) (sym nodes_are)
      (subst (λ (n : ℕ). AreNodesOf inst n (root_box inst) t cert.nodes) (one_table_more inst cert.lists tables are)
      of_nodes),
)

-- what it becomes by these tables is what the certificate becomes
pub certificate_made : (inst : Tables) (cert : Certificate) (tables : List PriceRows) (nodes : List Node)
    (answer : Rebounded) → IsFitting inst → AreTables risk_base inst cert.lists tables → nodes ≡ cert.nodes
    → answer.cert.version ≡ cert.version → answer.cert.lists ≡ cert.lists
    → IsReboundBy inst (length tables - 1) (table_worths tables) nodes (tree_of answer) → IsReboundOf inst cert answer
certificate_made inst cert tables nodes answer fit are nodes_are version lists is = record {
  version = version;
  lists = lists;
  tree = rebound_same inst (length cert.lists) (table_worths tables) (worth_by risk_base inst cert.lists) are.same
      cert.nodes (tree_of answer) fit
      (subst (λ (n : ℕ). IsReboundBy inst n (table_worths tables) cert.nodes (tree_of answer))
      (sym (one_table_more inst cert.lists tables are))
      (subst (λ (ns : List Node). IsReboundBy inst (length tables - 1) (table_worths tables) ns (tree_of answer))
      nodes_are is));
}
