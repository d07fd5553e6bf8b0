-- What is proved by some worths is proved by the same ones.
use Rattle.std.proofs.Common.{ℕ, ◌-◌, sym, subst, arith, List, get_or, All}
use Rattle.instance_model.specs.Tables.{Tables}
use Rattle.lagrange_bound.specs.declared.span.Span.{Span}
use Rattle.lagrange_bound.specs.Goals.{PlanValue}
use Rattle.lagrange_bound.specs.Boxes.{IsBox}
use Rattle.certificate_lines.specs.declared.line.Bound.{Bound}
use Rattle.certificate_tree.specs.declared.node.Node.{Node}
use Rattle.certificate_tree.specs.declared.node.Node.TheVariants.{Split, Cost, Point, Band, Excl, Empty}
use Rattle.certificate_tree.specs.Trees.{Leaf, Tree, leaves, root_box}
use Rattle.certificate_tree.specs.Ranges.{IsLeafInRange, IsTreeInRange}
use Rattle.certificate_tree.specs.Holding.{Worths, IsAtLeast, LeafHolds}
use Rattle.certificate_tree.specs.Validity.{ClaimLeafHolds, FailsFirst, AreSameWorths}
use Rattle.certificate_tree.specs.Laws.{SameWorthsProveTheSame}
use Rattle.certificate_tree.proofs.RootLemmas.{root_is_box}
use Rattle.certificate_tree.proofs.LeafLemmas.{IsLeafOver, leaves_in_range}

same_leaf : (value : PlanValue) (inst : Tables) (bound : Bound) (lists : ℕ) (worths others : Worths)
    (box : List Span) (n : Node) → AreSameWorths inst lists worths others → IsBox inst box → IsLeafInRange inst lists n
    → LeafHolds value inst bound worths box n → LeafHolds value inst bound others box n
same_leaf value inst bound lists worths others box (Split i m) same b k h = h
same_leaf value inst bound lists worths others box (Cost j) same b k h =
    record { starts = h.starts; worth = subst (IsAtLeast bound) (same box j k b h.starts) h.worth }
same_leaf value inst bound lists worths others box Point same b k h = h
same_leaf value inst bound lists worths others box (Band c t side) same b k h = h
same_leaf value inst bound lists worths others box (Excl e) same b k h = h
same_leaf value inst bound lists worths others box (Empty i) same b k h = h

-- where leaves that hold in one way hold in another, the first that doesn't hold in the other is the first in the one
fails_the_same : (inst : Tables) (lists : ℕ) (Holds Others : Leaf → Type 0) (ls : List Leaf) (n : ℕ)
    → ((x : Leaf) → IsLeafOver inst lists x → Holds x → Others x)
    → ((x : Leaf) → IsLeafOver inst lists x → Others x → Holds x) → All (IsLeafOver inst lists) ls
    → FailsFirst Holds ls n → FailsFirst Others ls n
fails_the_same inst lists Holds Others ls n there back over f = record {
  from = f.from;
  to = f.to;
  before = λ k d l. there (get_or ls k d) (over k d (omega (arith, l, f.to))) (f.before k d l);
  fails = λ d h. f.fails d (back (get_or ls (n - 1) d) (over (n - 1) d (omega (arith, f.from, f.to))) h);
}

pub same_worths_prove_the_same : SameWorthsProveTheSame
same_worths_prove_the_same value inst claim worths f same = (
  λ v. record {
    tree = v.tree;
    of_nodes = v.of_nodes;
    holds = λ k d l. let ls = leaves (root_box inst) v.tree in
        there (get_or ls k d) (over v.tree v.of_nodes.in_range k d l) (v.holds k d l);
  },
  λ n v. record {
    tree = v.tree;
    of_nodes = v.of_nodes;
    first = fails_the_same inst claim.lists (ClaimLeafHolds value inst claim)
        (ClaimLeafHolds value inst (record claim { worths = worths })) (leaves (root_box inst) v.tree) n there back
        (over v.tree v.of_nodes.in_range) v.first;
  },
)
  where
    there : (x : Leaf) → IsLeafOver inst claim.lists x → ClaimLeafHolds value inst claim x
        → ClaimLeafHolds value inst (record claim { worths = worths }) x
    there x o = same_leaf value inst claim.bound claim.lists claim.worths worths x.box x.node same o.is_box o.in_range

    back : (x : Leaf) → IsLeafOver inst claim.lists x → ClaimLeafHolds value inst (record claim { worths = worths }) x
        → ClaimLeafHolds value inst claim x
    back x o = same_leaf value inst claim.bound claim.lists worths claim.worths x.box x.node
        (λ box j l b s. sym (same box j l b s)) o.is_box o.in_range

    over : (t : Tree) → IsTreeInRange inst claim.lists (root_box inst) t
        → All (IsLeafOver inst claim.lists) (leaves (root_box inst) t)
    over t r = leaves_in_range inst claim.lists (root_box inst) t (root_is_box inst f) r
