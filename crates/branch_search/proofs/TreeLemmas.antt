-- The tree of a shape: its nodes, its range, its leaves and its splits.
use Rattle.std.proofs.Common.{◌≡◌, ℕ, ◌+◌, ◌<◌, ◌⊎◌, inl, inr, refl, sym, ◌∙◌, ap, subst, arith, List, [], ◌∷◌, ◌≤◌}
use Rattle.std.proofs.Common.{◌++◌, length, map, All, Bool, true, false, cond, eqb}
use Rattle.std.specs.Prelude.{Any}
use Rattle.std.proofs.lemmas.Bool.{eqb-true, cases_lt}
use Rattle.std.proofs.lemmas.List.{map-append, length-append, get_or_append_left, get_or-append-add}
use Rattle.std.proofs.lemmas.List.Elements.{All-nil, All-cons, All-append}
use Rattle.instance_model.specs.Tables.{Tables}
use Rattle.lagrange_bound.specs.declared.span.Span.{Span}
use Rattle.certificate_tree.specs.declared.node.Node.{Node}
use Rattle.certificate_tree.specs.declared.node.Node.TheVariants.{Split}
use Rattle.certificate_tree.specs.Trees.{pre_order, below, above, IsSplit, Leaf, leaves}
use Rattle.certificate_tree.specs.Ranges.{IsLeafInRange, IsTreeInRange}
use Rattle.branch_search.specs.declared.tree.cell.Cell.{Cell}
use Rattle.branch_search.specs.Splits.{split_boxes}
use Rattle.branch_search.specs.Growing.{cell_at, node_at, box_at, IsLeafNode, IsSplitAt, IsLinked, AreBoxesOf}
use Rattle.branch_search.specs.Shapes.{Shape, tip, fork, top, numbers, forks, times, IsWithin, IsForkAt, Stands}
use Rattle.branch_search.specs.Shapes.{tree_of, number_of, last_of}
use Rattle.branch_search.proofs.CellLemmas.{split_is_no_leaf}

-- ---- nodes
same_node : (node : Node) (i m : ℕ) → node ≡ Split i m → Split (number_of node) (last_of node) ≡ node
same_node node i m e = subst (λ (n : Node). Split (number_of n) (last_of n) ≡ n) (sym e) refl

same_cons : {A : Type 0} (x y : A) (xs ys : List A) → x ≡ y → xs ≡ ys → x ∷ xs ≡ y ∷ ys
same_cons x y xs ys e f = cc

pub order_is : (cells : List Cell) (s : Shape) → Stands cells s
    → pre_order (tree_of cells s) ≡ map (node_at cells) (numbers s)
order_is cells (tip k) h = refl
order_is cells (fork k l r) h =
    let e = order_is cells l h.1 in
    let f = order_is cells r h.2 in
    same_cons (Split (number_of (node_at cells k)) (last_of (node_at cells k))) (node_at cells k)
    (pre_order (tree_of cells l) ++ pre_order (tree_of cells r)) (map (node_at cells) (numbers l ++ numbers r))
    (same_node (node_at cells k) h.0.number h.0.last h.0.node)
    (ap (λ (xs : List Node). xs ++ pre_order (tree_of cells r)) e
    ∙ ap (λ (xs : List Node). map (node_at cells) (numbers l) ++ xs) f
    ∙ sym (map-append (node_at cells) (numbers l) (numbers r)))

-- ---- where the parts of a fork stand
pub record IsParting (box left right : List Span) (i m : ℕ) : Type 0 where
  pub split : IsSplit box i m
  pub left_is : left ≡ below box i m
  pub right_is : right ≡ above box i m

pub linked_split : (count : ℕ) (boxes : List (List Span)) (box : List Span) (left i m : ℕ) (node : Node) → node ≡
    Split i m
    → IsLinked count boxes box left node → IsSplitAt count boxes box left i m
linked_split count boxes box left i m node e h = subst (IsLinked count boxes box left) e h

pub parting : (inst : Tables) (cells : List Cell) (boxes : List (List Span)) (k a b : ℕ)
    → AreBoxesOf inst cells boxes → k < length cells → (h : IsForkAt cells k a b)
    → IsParting (box_at boxes k) (box_at boxes a) (box_at boxes b) h.number h.last
parting inst cells boxes k a b w l h =
    let x = linked_split (length cells) boxes (box_at boxes k) (cell_at cells k).left h.number h.last (node_at cells k)
    h.node (w.linked k l) in
    record {
      split = x.split;
      left_is = ap (box_at boxes) h.left ∙ x.left_is;
      right_is = ap (box_at boxes) h.right ∙ x.right_is;
    }

-- ---- some of two lists
pub any_left : {A : Type 0} (P : A → Type 0) (xs ys : List A) → Any P xs → Any P (xs ++ ys)
any_left P xs ys (k, x, l, e, p) =
    (k, x, omega (arith, l, length-append xs ys), get_or_append_left xs ys x k l ∙ e, p)

pub any_right : {A : Type 0} (P : A → Type 0) (xs ys : List A) → Any P ys → Any P (xs ++ ys)
any_right P xs ys (k, x, l, e, p) =
    (length xs + k, x, omega (arith, l, length-append xs ys), get_or-append-add xs ys k x ∙ e, p)

-- ---- what holds of a tree over a box
module _ (inst : Tables) (cells : List Cell) (boxes : List (List Span)) (w : AreBoxesOf inst cells boxes) where
  pub in_range : (lists : ℕ)
      → ((k : ℕ) → k < length cells → IsLeafNode (node_at cells k) → IsLeafInRange inst lists (node_at cells k))
      → (s : Shape) → Stands cells s → IsWithin (length cells) s
      → IsTreeInRange inst lists (box_at boxes (top s)) (tree_of cells s)
  in_range lists each (tip k) h l = each k l h
  in_range lists each (fork k l r) h v =
      let p = parting inst cells boxes k (top l) (top r) w v.0 h.0 in
      subst
      (λ (n : Node). IsSplit (box_at boxes k) (number_of n) (last_of n)
      × IsTreeInRange inst lists (below (box_at boxes k) (number_of n) (last_of n)) (tree_of cells l)
      × IsTreeInRange inst lists (above (box_at boxes k) (number_of n) (last_of n)) (tree_of cells r))
      (sym h.0.node) (
        p.split,
        subst (λ (b : List Span). IsTreeInRange inst lists b (tree_of cells l)) p.left_is
            (in_range lists each l h.1 v.1),
        subst (λ (b : List Span). IsTreeInRange inst lists b (tree_of cells r)) p.right_is
            (in_range lists each r h.2 v.2),
      )

  pub each_leaf : (P : Leaf → Type 0)
      → ((k : ℕ) → k < length cells → IsLeafNode (node_at cells k)
      → P (record { box = box_at boxes k; node = node_at cells k }))
      → (s : Shape) → Stands cells s → IsWithin (length cells) s
      → All P (leaves (box_at boxes (top s)) (tree_of cells s))
  each_leaf P each (tip k) h l = All-cons P (record { box = box_at boxes k; node = node_at cells k }) [] (each k l h)
      (All-nil P)
  each_leaf P each (fork k l r) h v =
      let p = parting inst cells boxes k (top l) (top r) w v.0 h.0 in
      subst
      (λ (n : Node). All P (leaves (below (box_at boxes k) (number_of n) (last_of n)) (tree_of cells l)
      ++ leaves (above (box_at boxes k) (number_of n) (last_of n)) (tree_of cells r)))
      (sym h.0.node)
      (All-append P (leaves (below (box_at boxes k) h.0.number h.0.last) (tree_of cells l))
      (leaves (above (box_at boxes k) h.0.number h.0.last) (tree_of cells r))
      (subst (λ (b : List Span). All P (leaves b (tree_of cells l))) p.left_is (each_leaf P each l h.1 v.1))
      (subst (λ (b : List Span). All P (leaves b (tree_of cells r))) p.right_is (each_leaf P each r h.2 v.2)))

  pub some_leaf : (P : Leaf → Type 0) (j : ℕ) → IsLeafNode (node_at cells j)
      → P (record { box = box_at boxes j; node = node_at cells j })
      → (s : Shape) → Stands cells s → IsWithin (length cells) s → 0 < times j s
      → Any P (leaves (box_at boxes (top s)) (tree_of cells s))
  some_leaf P j lj here (tip k) h l some = at (eqb k j) refl some
    where
      at : (b : Bool) → eqb k j ≡ b → 0 < cond b 1 0
          → Any P ((record { box = box_at boxes k; node = node_at cells k }) ∷ [])
      at true e s = (
        0,
        record { box = box_at boxes k; node = node_at cells k },
        omega arith,
        refl,
        subst (λ (i : ℕ). P (record { box = box_at boxes i; node = node_at cells i })) (sym (eqb-true k j e)) here,
      )
      at false e s = absurd (omega (arith, s))
  some_leaf P j lj here (fork k l r) h v some =
      let p = parting inst cells boxes k (top l) (top r) w v.0 h.0 in
      subst
      (λ (n : Node). Any P (leaves (below (box_at boxes k) (number_of n) (last_of n)) (tree_of cells l)
      ++ leaves (above (box_at boxes k) (number_of n) (last_of n)) (tree_of cells r)))
      (sym h.0.node)
      (at p.left_is p.right_is (λ o. some_leaf P j lj here l h.1 v.1 o) (λ o. some_leaf P j lj here r h.2 v.2 o) (eqb
      k j) refl
      some (cases_lt 0 (times j l)))
    where
      at : box_at boxes (top l) ≡ below (box_at boxes k) h.0.number h.0.last
          → box_at boxes (top r) ≡ above (box_at boxes k) h.0.number h.0.last
          → (0 < times j l → Any P (leaves (box_at boxes (top l)) (tree_of cells l)))
          → (0 < times j r → Any P (leaves (box_at boxes (top r)) (tree_of cells r)))
          → (b : Bool) → eqb k j ≡ b → 0 < cond b 1 0 + (times j l + times j r)
          → (0 < times j l) ⊎ (times j l ≤ 0)
          → Any P (leaves (below (box_at boxes k) h.0.number h.0.last) (tree_of cells l)
          ++ leaves (above (box_at boxes k) h.0.number h.0.last) (tree_of cells r))
      at el er il ir true e s o = absurd (split_is_no_leaf (node_at cells j) h.0.number h.0.last
          (subst (λ (i : ℕ). node_at cells i ≡ Split h.0.number h.0.last) (eqb-true k j e) h.0.node) lj)
      at el er il ir false e s (inl o) =
          let x = subst (λ (b : List Span). Any P (leaves b (tree_of cells l))) el
          (il o) in
          any_left P (leaves (below (box_at boxes k) h.0.number h.0.last) (tree_of cells l))
          (leaves (above (box_at boxes k) h.0.number h.0.last) (tree_of cells r)) x
      at el er il ir false e s (inr o) =
          let x = subst (λ (b : List Span). Any P (leaves b (tree_of cells r))) er
          (ir (omega (arith, s, o))) in
          any_right P (leaves (below (box_at boxes k) h.0.number h.0.last) (tree_of cells l))
          (leaves (above (box_at boxes k) h.0.number h.0.last) (tree_of cells r)) x

pub splits_are : (cells : List Cell) (box : List Span) (s : Shape) → length (split_boxes box (tree_of cells s)) ≡
    forks s
splits_are cells box (tip k) = refl
splits_are cells box (fork k l r) =
    let e = splits_are cells (below box (number_of (node_at cells k)) (last_of (node_at cells k))) l in
    let f = splits_are cells (above box (number_of (node_at cells k)) (last_of (node_at cells k))) r in
    let g = length-append
    (split_boxes (below box (number_of (node_at cells k)) (last_of (node_at cells k))) (tree_of cells l))
    (split_boxes (above box (number_of (node_at cells k)) (last_of (node_at cells k))) (tree_of cells r)) in
    omega (arith, e, f, g)
