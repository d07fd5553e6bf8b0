-- What is searched by some worths is searched by the same ones.
use Rattle.std.proofs.Common.{◌≡◌, ℕ, ◌<◌, inl, inr, sym, ◌∙◌, subst, ℤ, List, length, get_or}
use Rattle.std.proofs.Common.{All, Option}
use Rattle.std.specs.Prelude.{Any}
use Rattle.instance_model.specs.Tables.{Tables}
use Rattle.instance_model.specs.Fitting.{IsFitting}
use Rattle.lagrange_bound.specs.declared.span.Span.{Span}
use Rattle.lagrange_bound.specs.Goals.{PlanValue}
use Rattle.lagrange_bound.specs.Boxes.{IsBox}
use Rattle.certificate_lines.specs.declared.line.Bound.{Bound}
use Rattle.certificate_lines.specs.declared.line.Bound.TheVariants.{NoPlan, Least}
use Rattle.certificate_tree.specs.declared.node.Node.{Node}
use Rattle.certificate_tree.specs.declared.node.Node.TheVariants.{Split, Cost, Point, Band, Excl, Empty}
use Rattle.certificate_tree.specs.Trees.{Tree, Leaf, leaves, root_box}
use Rattle.certificate_tree.specs.Holding.{Worths}
use Rattle.certificate_tree.specs.Validity.{ClaimLeafHolds, IsProved, AreSameWorths}
use Rattle.certificate_tree.proofs.RootLemmas.{root_is_box}
use Rattle.certificate_tree.proofs.OneTree.{nodes_are_one_tree}
use Rattle.certificate_tree.proofs.LeafLemmas.{leaves_in_range}
use Rattle.certificate_tree.proofs.SameWorths.{same_worths_prove_the_same}
use Rattle.certificate_tree.proofs.GreatestLemmas.{greatest_same}
use Rattle.branch_search.specs.declared.search_end.SearchEnd.{SearchEnd}
use Rattle.branch_search.specs.Best.{IsReached, IsShort}
use Rattle.branch_search.specs.Searched.{IsCostLeaf, IsBounding, IsAmong, IsLeastOf}
use Rattle.branch_search.specs.Searched.{IsUnfinishedLeaf, claim_in, IsSearchedBy}

-- ---- one box
same_bounding : (value : PlanValue) (inst : Tables) (lists : ℕ) (worths others : Worths) (best : Option (List ℕ))
    (box : List Span) (node : Node) → AreSameWorths inst lists worths others → IsBox inst box
    → IsBounding value inst lists worths best box node → IsBounding value inst lists others best box node
same_bounding value inst lists worths others best box (Split i m) same b h = h
same_bounding value inst lists worths others best box (Cost j) same b h = record {
  unrefuted = h.unrefuted;
  list = greatest_same (worths box) (others box) lists j (λ k l. same box k l b h.unrefuted.starts) h.list;
  single = λ s. subst (IsReached value inst best) (same box j h.list.number b h.unrefuted.starts) (h.single s);
}
same_bounding value inst lists worths others best box Point same b h = h
same_bounding value inst lists worths others best box (Band c t side) same b h = h
same_bounding value inst lists worths others best box (Excl e) same b h = h
same_bounding value inst lists worths others best box (Empty i) same b h = h

-- the worth by the list that a `cost` leaf names
pub same_named : (value : PlanValue) (inst : Tables) (lists : ℕ) (worths others : Worths) (best : Option (List ℕ))
    (x : Leaf) (j : ℕ) → AreSameWorths inst lists worths others → IsBox inst x.box
    → IsBounding value inst lists worths best x.box x.node → x.node ≡ Cost j → worths x.box j ≡ others x.box j
same_named value inst lists worths others best x j same b h e =
    let w : IsCostLeaf value inst lists worths best x.box j =
    subst (IsBounding value inst lists worths best x.box) e h in
    same x.box j w.list.number b w.unrefuted.starts

-- ---- all leaves
module _ (value : PlanValue) (inst : Tables) (lists : ℕ) (worths others : Worths) (best : Option (List ℕ))
    (ls : List Leaf) (same : AreSameWorths inst lists worths others) (boxes : All (λ x. IsBox inst x.box) ls)
    (bounding : All (λ x. IsBounding value inst lists worths best x.box x.node) ls) where
  named : (k : ℕ) (x : Leaf) (j : ℕ) → k < length ls → get_or ls k x ≡ x → x.node ≡ Cost j
      → worths x.box j ≡ others x.box j
  named k x j l e f = same_named value inst lists worths others best x j same
      (subst (λ (y : Leaf). IsBox inst y.box) e (boxes k x l))
      (subst (λ (y : Leaf). IsBounding value inst lists worths best y.box y.node) e (bounding k x l)) f

  pub among_same : (z : ℤ) → IsAmong value inst worths best ls z → IsAmong value inst others best ls z
  among_same z (inl w) = inl w
  among_same z (inr (k, x, l, e, c)) = inr (
    k,
    x,
    l,
    e,
    record { list = c.list; node = c.node; worth = sym (named k x c.list l e c.node) ∙ c.worth },
  )

  pub unfinished_same : Any (IsUnfinishedLeaf value inst worths best) ls
      → Any (IsUnfinishedLeaf value inst others best) ls
  unfinished_same (k, x, l, e, u) = (
    k,
    x,
    l,
    e,
    record {
      list = u.list;
      node = u.node;
      several = u.several;
      short = subst (IsShort value inst best) (named k x u.list l e u.node) u.short;
    },
  )

-- the least of the same numbers
least_same : (among others : ℤ → Type 0) (bound : Bound) → ((z : ℤ) → among z → others z)
    → ((z : ℤ) → others z → among z) → IsLeastOf among bound → IsLeastOf others bound
least_same among others NoPlan there back h = λ z a. h z (back z a)
least_same among others (Least b) there back h = (there b h.0, λ z a. h.1 z (back z a))

-- ---- the statement
pub searched_same : (value : PlanValue) (inst : Tables) (lists : ℕ) (worths others : Worths)
    (incumbent : Option (List ℕ)) (before turns : ℕ) (answer : SearchEnd) → IsFitting inst
    → AreSameWorths inst lists worths others → IsSearchedBy value inst lists worths incumbent before turns answer
    → IsSearchedBy value inst lists others incumbent before turns answer
searched_same value inst lists worths others incumbent before turns answer fits same h = record {
  tree = h.tree;
  of_nodes = h.of_nodes;
  holds = subst
      (λ (t : Tree). All (ClaimLeafHolds value inst (claim_in lists others answer)) (leaves (root_box inst) t))
      (nodes_are_one_tree inst lists (root_box inst) answer.nodes proved.tree h.tree proved.of_nodes h.of_nodes)
      proved.holds;
  stay = h.stay;
  few = h.few;
  bounding = bounding;
  best = h.best;
  bound = least_same (IsAmong value inst worths answer.best ls) (IsAmong value inst others answer.best ls) answer.bound
      (among_same value inst lists worths others answer.best ls same boxes h.bounding)
      (among_same value inst lists others worths answer.best ls back boxes bounding) h.bound;
  unfinished = (
    λ t. unfinished_same value inst lists worths others answer.best ls same boxes h.bounding (h.unfinished.0 t),
    λ u. h.unfinished.1 (unfinished_same value inst lists others worths answer.best ls back boxes bounding u),
  );
  spent = h.spent;
  finished = h.finished;
}
  where
    ls : List Leaf
    ls = leaves (root_box inst) h.tree

    root : IsBox inst (root_box inst)
    root = root_is_box inst fits

    back : AreSameWorths inst lists others worths
    back = λ box j l b s. sym (same box j l b s)

    boxes : All (λ x. IsBox inst x.box) (leaves (root_box inst) h.tree)
    boxes = λ k d l. (leaves_in_range inst lists (root_box inst) h.tree root h.of_nodes.in_range k d l).is_box

    bounding : All (λ x. IsBounding value inst lists others answer.best x.box x.node) (leaves (root_box inst) h.tree)
    bounding = λ k d l. let x = get_or (leaves (root_box inst) h.tree) k d in
        same_bounding value inst lists worths others answer.best x.box x.node same (boxes k d l) (h.bounding k d l)

    proved : IsProved value inst (claim_in lists others answer)
    proved = (same_worths_prove_the_same value inst (claim_in lists worths answer) others fits same).0
        (record { tree = h.tree; of_nodes = h.of_nodes; holds = h.holds })
