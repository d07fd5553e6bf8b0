-- What stands at each number once a node is split.
use Rattle.std.proofs.Common.{◌≡◌, ℕ, ◌+◌, ◌<◌, ◌⊎◌, inl, inr, sym, ◌∙◌, ap, subst, arith, List, [], ◌∷◌, ◌++◌, length}
use Rattle.std.proofs.Common.{get_or}
use Rattle.std.proofs.lemmas.Bool.{cases_eq, cases_order}
use Rattle.std.proofs.lemmas.List.{length-set, length-append, get_or_append_left, get_or_at, get_or-append-add}
use Rattle.std.proofs.lemmas.List.{get_or-set_same, get_or-set_other}
use Rattle.instance_model.specs.Tables.{Tables}
use Rattle.lagrange_bound.specs.declared.span.Span.{Span}
use Rattle.lagrange_bound.specs.Boxes.{IsBox}
use Rattle.certificate_tree.specs.declared.node.Node.{Node}
use Rattle.certificate_tree.specs.declared.node.Node.TheVariants.{Split, Cost, Point, Band, Excl, Empty}
use Rattle.certificate_tree.specs.Trees.{below, above, IsSplit}
use Rattle.certificate_tree.proofs.RootLemmas.{parts_are_boxes}
use Rattle.branch_search.specs.declared.tree.cell.Cell.{Cell}
use Rattle.branch_search.specs.Growing.{cell_at, node_at, box_at, IsLeafNode, IsSplitAt, IsLinked, IsPartOf, AreBoxesOf}
use Rattle.branch_search.specs.Growing.{split_cells, split_list}

-- ---- a list with two more
two_before : {A : Type 0} (xs : List A) (a b d : A) (k : ℕ) → k < length xs
    → get_or (xs ++ a ∷ b ∷ []) k d ≡ get_or xs k d
two_before xs a b d k l = get_or_append_left xs (a ∷ b ∷ []) d k l

two_first : {A : Type 0} (xs : List A) (a b d : A) (k : ℕ) → length xs ≡ k → get_or (xs ++ a ∷ b ∷ []) k d ≡ a
two_first xs a b d k e = get_or_at xs a (b ∷ []) d k e

two_second : {A : Type 0} (xs : List A) (a b d : A) (k : ℕ) → length xs + 1 ≡ k → get_or (xs ++ a ∷ b ∷ []) k d ≡ b
two_second xs a b d k e =
    ap (λ (j : ℕ). get_or (xs ++ a ∷ b ∷ []) j d) (sym e) ∙ get_or-append-add xs (a ∷ b ∷ []) 1 d

pub length_two : {A : Type 0} (xs : List A) (a b : A) → length (xs ++ a ∷ b ∷ []) ≡ length xs + 2
length_two xs a b = length-append xs (a ∷ b ∷ [])

-- ---- which number
abbrev pub Where : ℕ → ℕ → ℕ → Type 0
Where count n k =
    (k ≡ n) ⊎ ((k < count) × (k ≡ n → ⊥)) ⊎ (count ≡ k) ⊎ (count + 1 ≡ k)

pub where_is : (count n k : ℕ) → k < count + 2 → Where count n k
where_is count n k l = at (cases_eq k n) (cases_order k count)
  where
    at : (k ≡ n) ⊎ (k ≡ n → ⊥) → (k ≡ count) ⊎ ((k < count) ⊎ (count < k)) → Where count n k
    at (inl e) o = inl e
    at (inr d) (inl e) = inr (inr (inl (sym e)))
    at (inr d) (inr (inl h)) = inr (inl (h, d))
    at (inr d) (inr (inr h)) = inr (inr (inr (omega (arith, h, l))))

-- ---- cells
abbrev pub new_leaf : Node → ℕ → Cell
new_leaf a n = record { node = a; parent = n; left = 0 }

abbrev pub longer : List Cell → ℕ → Node → Node → List Cell
longer cells n a b = cells ++ new_leaf a n ∷ new_leaf b n ∷ []

abbrev pub no_cell : Cell
no_cell = record { node = Split 0 0; parent = 0; left = 0 }

abbrev pub new_split : List Cell → (n i m : ℕ) → Cell
new_split cells n i m = record { node = Split i m; parent = (cell_at cells n).parent; left = length cells }

module _ (cells : List Cell) (n i m : ℕ) (a b : Node) (known : n < length cells) where
  pub length_split : length (split_cells cells n i m a b) ≡ length cells + 2
  length_split = length-set (longer cells n a b) n (new_split cells n i m)
      ∙ length_two cells (new_leaf a n) (new_leaf b n)

  pub at_split : cell_at (split_cells cells n i m a b) n ≡ new_split cells n i m
  at_split = get_or-set_same (longer cells n a b) n (new_split cells n i m) no_cell
      (let l = length_two cells (new_leaf a n) (new_leaf b n) in omega (arith, l, known))

  pub at_other : (k : ℕ) → k < length cells → (k ≡ n → ⊥)
      → cell_at (split_cells cells n i m a b) k ≡ cell_at cells k
  at_other k l d = get_or-set_other (longer cells n a b) n k (new_split cells n i m) no_cell d
      ∙ two_before cells (new_leaf a n) (new_leaf b n) no_cell k l

  pub at_left : (k : ℕ) → length cells ≡ k → cell_at (split_cells cells n i m a b) k ≡ new_leaf a n
  at_left k e = get_or-set_other (longer cells n a b) n k (new_split cells n i m) no_cell
      (λ f. omega (arith, e, f, known)) ∙ two_first cells (new_leaf a n) (new_leaf b n) no_cell k e

  pub at_right : (k : ℕ) → length cells + 1 ≡ k → cell_at (split_cells cells n i m a b) k ≡ new_leaf b n
  at_right k e = get_or-set_other (longer cells n a b) n k (new_split cells n i m) no_cell
      (λ f. omega (arith, e, f, known)) ∙ two_second cells (new_leaf a n) (new_leaf b n) no_cell k e

-- ---- boxes
module _ (boxes : List (List Span)) (n i m : ℕ) where
  pub box_before : (k : ℕ) → k < length boxes → box_at (split_list boxes n i m) k ≡ box_at boxes k
  box_before k l = two_before boxes (below (box_at boxes n) i m) (above (box_at boxes n) i m) [] k l

  pub box_left : (k : ℕ) → length boxes ≡ k → box_at (split_list boxes n i m) k ≡ below (box_at boxes n) i m
  box_left k e = two_first boxes (below (box_at boxes n) i m) (above (box_at boxes n) i m) [] k e

  pub box_right : (k : ℕ) → length boxes + 1 ≡ k → box_at (split_list boxes n i m) k ≡ above (box_at boxes n) i m
  box_right k e = two_second boxes (below (box_at boxes n) i m) (above (box_at boxes n) i m) [] k e

-- ---- links
pub leaf_linked : (count : ℕ) (boxes : List (List Span)) (box : List Span) (left : ℕ) (node : Node) → IsLeafNode node
    → IsLinked count boxes box left node
leaf_linked count boxes box left (Split i m) h = absurd h
leaf_linked count boxes box left (Cost j) h = tt
leaf_linked count boxes box left Point h = tt
leaf_linked count boxes box left (Band c t s) h = tt
leaf_linked count boxes box left (Excl e) h = tt
leaf_linked count boxes box left (Empty i) h = tt

linked_more : (count : ℕ) (boxes more : List (List Span)) (box : List Span) (left : ℕ) (node : Node)
    → ((k : ℕ) → k < count → box_at more k ≡ box_at boxes k)
    → IsLinked count boxes box left node → IsLinked (count + 2) more box left node
linked_more count boxes more box left (Split i m) h w = record {
  within = omega (arith, w.within);
  split = w.split;
  left_is = h left (omega (arith, w.within)) ∙ w.left_is;
  right_is = h (left + 1) w.within ∙ w.right_is;
}
linked_more count boxes more box left (Cost j) h w = tt
linked_more count boxes more box left Point h w = tt
linked_more count boxes more box left (Band c t s) h w = tt
linked_more count boxes more box left (Excl e) h w = tt
linked_more count boxes more box left (Empty i) h w = tt

pub split_is_no_leaf : (node : Node) (i m : ℕ) → node ≡ Split i m → IsLeafNode node → ⊥
split_is_no_leaf node i m e h = subst IsLeafNode e h

pub cost_is_no_split : (node : Node) (i m j : ℕ) → node ≡ Split i m → node ≡ Cost j → ⊥
cost_is_no_split node i m j e f = cc

-- ---- a split
pub are_boxes_more : (inst : Tables) (cells : List Cell) (boxes : List (List Span)) (n i m : ℕ) (a b : Node)
    → AreBoxesOf inst cells boxes → n < length cells → IsLeafNode (node_at cells n)
    → IsSplit (box_at boxes n) i m → IsLeafNode a → IsLeafNode b
    → AreBoxesOf inst (split_cells cells n i m a b) (split_list boxes n i m)
are_boxes_more inst cells boxes n i m a b w known leaf split la lb =
    record {
      each = length_two boxes (below (box_at boxes n) i m) (above (box_at boxes n) i m)
          ∙ ap (λ (k : ℕ). k + 2) w.each ∙ sym (length_split cells n i m a b known);
      some = omega (arith, length_split cells n i m a b known);
      root = box_before boxes n i m 0 (omega (arith, w.some, w.each)) ∙ w.root;
      boxed = λ k l. boxed k (where_is (length cells) n k (omega (arith, l, length_split cells n i m a b known)));
      linked = λ k l. subst
          (λ (c : ℕ). IsLinked c (split_list boxes n i m) (box_at (split_list boxes n i m) k) (cell_at (split_cells
          cells n i m a b) k).left (node_at (split_cells cells n i m a b) k))
          (sym (length_split cells n i m a b known))
          (linked k (where_is (length cells) n k (omega (arith, l, length_split cells n i m a b known))));
      parts = λ k some l. parts k some
          (where_is (length cells) n k (omega (arith, l, length_split cells n i m a b known)));
    }
  where
    old_box : (k : ℕ) → k < length cells → box_at (split_list boxes n i m) k ≡ box_at boxes k
    old_box k l = box_before boxes n i m k (omega (arith, l, w.each))

    boxed : (k : ℕ) → Where (length cells) n k → IsBox inst (box_at (split_list boxes n i m) k)
    boxed k (inl e) = subst (IsBox inst) (sym (old_box k (omega (arith, e, known)))) (w.boxed k (omega (
      arith,
      e,
      known,
    )))
    boxed k (inr (inl (l, d))) = subst (IsBox inst) (sym (old_box k l)) (w.boxed k l)
    boxed k (inr (inr (inl e))) = subst (IsBox inst) (sym (box_left boxes n i m k (w.each ∙ e)))
        (parts_are_boxes inst (box_at boxes n) i m (w.boxed n known) split).0
    boxed k (inr (inr (inr e))) = subst (IsBox inst)
        (sym (box_right boxes n i m k (ap (λ (j : ℕ). j + 1) w.each ∙ e)))
        (parts_are_boxes inst (box_at boxes n) i m (w.boxed n known) split).1

    linked : (k : ℕ) → Where (length cells) n k
        → IsLinked (length cells + 2) (split_list boxes n i m) (box_at (split_list boxes n i m) k) (cell_at
        (split_cells cells n i m a b) k).left (node_at (split_cells cells n i m a b) k)
    linked k (inl e) = subst
        (λ (j : ℕ). IsLinked (length cells + 2) (split_list boxes n i m) (box_at (split_list boxes n i m) j) (cell_at
        (split_cells cells n i m a b) j).left (node_at (split_cells cells n i m a b) j))
        (sym e)
        (subst (λ (c : Cell). IsLinked (length cells + 2) (split_list boxes n i m) (box_at (split_list boxes n i m) n)
        c.left c.node)
        (sym (at_split cells n i m a b known))
        (subst (λ (box : List Span). IsSplitAt (length cells + 2) (split_list boxes n i m) box (length cells) i m)
        (sym (old_box n known))
        (record {
          within = omega arith;
          split = split;
          left_is = box_left boxes n i m (length cells) w.each;
          right_is = box_right boxes n i m (length cells + 1) (ap (λ (j : ℕ). j + 1) w.each);
        })))
    linked k (inr (inl (l, d))) = subst
        (λ (c : Cell). IsLinked (length cells + 2) (split_list boxes n i m) (box_at (split_list boxes n i m) k) c.left
        c.node)
        (sym (at_other cells n i m a b known k l d))
        (subst
        (λ (box : List Span).
        IsLinked (length cells + 2) (split_list boxes n i m) box (cell_at cells k).left (node_at cells k))
        (sym (old_box k l))
        (linked_more (length cells) boxes (split_list boxes n i m) (box_at boxes k) (cell_at cells k).left (node_at
        cells k) old_box
        (w.linked k l)))
    linked k (inr (inr (inl e))) = subst
        (λ (c : Cell). IsLinked (length cells + 2) (split_list boxes n i m) (box_at (split_list boxes n i m) k) c.left
        c.node)
        (sym (at_left cells n i m a b known k e)) (leaf_linked (length cells + 2) (split_list boxes n i m) (box_at
        (split_list boxes n i m) k) 0 a la)
    linked k (inr (inr (inr e))) = subst
        (λ (c : Cell). IsLinked (length cells + 2) (split_list boxes n i m) (box_at (split_list boxes n i m) k) c.left
        c.node)
        (sym (at_right cells n i m a b known k e))
        (leaf_linked (length cells + 2) (split_list boxes n i m) (box_at (split_list boxes n i m) k) 0 b lb)

    -- a part of before is one still
    part_kept : (k p : ℕ) → k < length cells → IsPartOf cells k p → IsPartOf (split_cells cells n i m a b) k p
    part_kept k p l h =
        let d : p ≡ n → ⊥ = λ e. split_is_no_leaf (node_at cells n) h.number h.last
        (subst (λ (j : ℕ). node_at cells j ≡ Split h.number h.last) e h.node) leaf in
        let same = at_other cells n i m a b known p (omega (arith, h.lesser, l)) d in
        record {
          lesser = h.lesser;
          number = h.number;
          last = h.last;
          node = ap (λ (c : Cell). c.node) same ∙ h.node;
          side = subst (λ (c : Cell). (c.left ≡ k) ⊎ (c.left + 1 ≡ k)) (sym same) h.side;
        }

    parts : (k : ℕ) → 0 < k → Where (length cells) n k → IsPartOf (split_cells cells n i m a b) k (cell_at
        (split_cells cells n i m a b) k).parent
    parts k some (inl e) =
        let l : k < length cells = omega (arith, e, known) in
        subst (IsPartOf (split_cells cells n i m a b) k)
        (ap (λ (j : ℕ). (cell_at cells j).parent) e ∙ sym (ap (λ (c : Cell). c.parent) (at_split cells n i m a b known))
        ∙ ap (λ (j : ℕ). (cell_at (split_cells cells n i m a b) j).parent) (sym e))
        (part_kept k (cell_at cells k).parent l (w.parts k some l))
    parts k some (inr (inl (l, d))) = subst (IsPartOf (split_cells cells n i m a b) k)
        (sym (ap (λ (c : Cell). c.parent) (at_other cells n i m a b known k l d)))
        (part_kept k (cell_at cells k).parent l (w.parts k some l))
    parts k some (inr (inr (inl e))) = subst (IsPartOf (split_cells cells n i m a b) k)
        (sym (ap (λ (c : Cell). c.parent) (at_left cells n i m a b known k e)))
        (record {
          lesser = omega (arith, e, known);
          number = i;
          last = m;
          node = ap (λ (c : Cell). c.node) (at_split cells n i m a b known);
          side = inl (ap (λ (c : Cell). c.left) (at_split cells n i m a b known) ∙ e);
        })
    parts k some (inr (inr (inr e))) = subst (IsPartOf (split_cells cells n i m a b) k)
        (sym (ap (λ (c : Cell). c.parent) (at_right cells n i m a b known k e)))
        (record {
          lesser = omega (arith, e, known);
          number = i;
          last = m;
          node = ap (λ (c : Cell). c.node) (at_split cells n i m a b known);
          side = inr (ap (λ (c : Cell). c.left + 1) (at_split cells n i m a b known) ∙ e);
        })
