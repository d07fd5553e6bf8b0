-- What stays where one number of a tree under construction becomes another node, and new numbers have none so far.
use Rattle.std.proofs.Common.{◌≡◌, ℕ, ◌+◌, ◌<◌, ◌≤◌, ◌⊎◌, inl, inr, refl, sym, ◌∙◌, ap, subst, arith, ℤ, ◌^◌, List, []}
use Rattle.std.proofs.Common.{◌∷◌, length, All, Contains, Option, Some, IfSome, Bool, cond, unsigned_abs}
use Rattle.std.specs.Prelude.{IsPermutation}
use Rattle.std.proofs.lemmas.Bool.{ne_eqb, cases_eq, cases_lt}
use Rattle.std.proofs.lemmas.List.{length-set, get_or-set_same, get_or-set_other}
use Rattle.std.proofs.lemmas.List.Elements.{All-head, All-tail}
use Rattle.std.proofs.lemmas.List.Sums.{sum_by-cons}
use Rattle.instance_model.specs.Tables.{Tables}
use Rattle.lagrange_bound.specs.declared.span.Span.{Span}
use Rattle.certificate_tree.specs.declared.node.Node.{Node}
use Rattle.certificate_tree.specs.declared.node.Node.TheVariants.{Split, Cost, Point}
use Rattle.branch_search.specs.declared.tree.cell.Cell.{Cell}
use Rattle.branch_search.specs.Tasks.{Task}
use Rattle.branch_search.specs.Growing.{cell_at, node_at, box_at, IsLeafNode, IsLinked, IsPartOf, AreBoxesOf}
use Rattle.branch_search.specs.Growing.{split_cells, split_list}
use Rattle.branch_search.specs.Shapes.{Shape, tip, fork, top, IsWithin, Stands, IsShapeOf}
use Rattle.branch_search.specs.Settled.{IsWorthOf}
use Rattle.branch_search.specs.Entries.{with_entry}
use Rattle.branch_search.specs.States.{IsEntry, entries_of, AreEntries}
use Rattle.branch_search.specs.Begun.{with_leaf}
use Rattle.branch_search.proofs.CellLemmas.{no_cell, length_split, at_other, at_left, at_right, box_before, Where}
use Rattle.branch_search.proofs.CellLemmas.{where_is, leaf_linked, split_is_no_leaf}
use Rattle.branch_search.proofs.ShapeLemmas.{fork_apart}
use Rattle.branch_search.proofs.EntryLemmas.{is_of, counted_with, counted_at_most, counted_not, all_with}
use Rattle.branch_search.proofs.EntryLemmas.{contains_with, contains_new, worth_of_cost, cost_of_worth, small_of}

-- all but number k is as it was, and new numbers have no node so far
pub record IsChangedAt (cells more : List Cell) (boxes wider : List (List Span)) (k : ℕ) : Type 0 where
  pub longer : length cells ≤ length more
  pub same : (j : ℕ) → j < length cells → (j ≡ k → ⊥) → cell_at more j ≡ cell_at cells j
  pub box : (j : ℕ) → j < length cells → box_at wider j ≡ box_at boxes j
  pub new : (j : ℕ) → length cells ≤ j → j < length more → node_at more j ≡ Point

pub point_is_no_cost : (node : Node) (j : ℕ) → node ≡ Point → node ≡ Cost j → ⊥
point_is_no_cost node j e f = cc

-- ---- a leaf
module _ (cells : List Cell) (k : ℕ) (node : Node) (known : k < length cells) where
  pub length_leaf : length (with_leaf cells k node) ≡ length cells
  length_leaf =
      length-set cells k (record { node = node; parent = (cell_at cells k).parent; left = (cell_at cells k).left })

  pub at_leaf : cell_at (with_leaf cells k node) k
      ≡ record { node = node; parent = (cell_at cells k).parent; left = (cell_at cells k).left }
  at_leaf = get_or-set_same cells k
      (record { node = node; parent = (cell_at cells k).parent; left = (cell_at cells k).left }) no_cell known

  pub off_leaf : (j : ℕ) → (j ≡ k → ⊥) → cell_at (with_leaf cells k node) j ≡ cell_at cells j
  off_leaf j d = get_or-set_other cells k j
      (record { node = node; parent = (cell_at cells k).parent; left = (cell_at cells k).left }) no_cell d

  pub leaf_changes : (boxes : List (List Span)) → IsChangedAt cells (with_leaf cells k node) boxes boxes k
  leaf_changes boxes = record {
    longer = omega (arith, length_leaf);
    same = λ j l d. off_leaf j d;
    box = λ j l. refl;
    new = λ j l m. absurd (omega (arith, l, m, length_leaf));
  }

  module _ (old : IsLeafNode (node_at cells k)) (leaf : IsLeafNode node) where
    stands_leaf : (s : Shape) → Stands cells s → Stands (with_leaf cells k node) s
    stands_leaf (tip j) h = at (cases_eq j k)
      where
        at : (j ≡ k) ⊎ (j ≡ k → ⊥) → IsLeafNode (node_at (with_leaf cells k node) j)
        at (inl e) = subst (λ (t : ℕ). IsLeafNode (node_at (with_leaf cells k node) t)) (sym e)
            (subst (λ (c : Cell). IsLeafNode c.node) (sym at_leaf) leaf)
        at (inr d) = subst (λ (c : Cell). IsLeafNode c.node) (sym (off_leaf j d)) h
    stands_leaf (fork j l r) h =
        let e = off_leaf j (fork_apart cells k j (top l) (top r) old h.0) in (
          record {
            number = h.0.number;
            last = h.0.last;
            node = ap (λ (c : Cell). c.node) e ∙ h.0.node;
            left = h.0.left ∙ sym (ap (λ (c : Cell). c.left) e);
            right = h.0.right ∙ sym (ap (λ (c : Cell). c.left + 1) e);
          },
          stands_leaf l h.1,
          stands_leaf r h.2,
        )

    pub shape_leaf : (s : Shape) → IsShapeOf cells s → IsShapeOf (with_leaf cells k node) s
    shape_leaf s h = record {
      stands = stands_leaf s h.stands;
      root = h.root;
      once = λ j l. h.once j (omega (arith, l, length_leaf));
      within = subst (λ (n : ℕ). IsWithin n s) (sym length_leaf) h.within;
      count = h.count ∙ sym length_leaf;
    }

    part_stays : (j p : ℕ) → IsPartOf cells j p → IsPartOf (with_leaf cells k node) j p
    part_stays j p h =
        let d : p ≡ k → ⊥ = λ e. split_is_no_leaf (node_at cells k) h.number h.last
        (subst (λ (t : ℕ). node_at cells t ≡ Split h.number h.last) e h.node) old in
        let same = off_leaf p d in
        record {
          lesser = h.lesser;
          number = h.number;
          last = h.last;
          node = ap (λ (c : Cell). c.node) same ∙ h.node;
          side = subst (λ (c : Cell). (c.left ≡ j) ⊎ (c.left + 1 ≡ j)) (sym same) h.side;
        }

    same_parent : (j : ℕ) → (j ≡ k) ⊎ (j ≡ k → ⊥)
        → (cell_at cells j).parent ≡ (cell_at (with_leaf cells k node) j).parent
    same_parent j (inl e) = subst
        (λ (t : ℕ). (cell_at cells t).parent ≡ (cell_at (with_leaf cells k node) t).parent) (sym e)
        (sym (ap (λ (c : Cell). c.parent) at_leaf))
    same_parent j (inr d) = sym (ap (λ (c : Cell). c.parent) (off_leaf j d))

    pub boxes_leaf : (inst : Tables) (boxes : List (List Span)) → AreBoxesOf inst cells boxes
        → AreBoxesOf inst (with_leaf cells k node) boxes
    boxes_leaf inst boxes w = record {
      each = w.each ∙ sym length_leaf;
      some = omega (arith, w.some, length_leaf);
      root = w.root;
      boxed = λ j l. w.boxed j (omega (arith, l, length_leaf));
      linked = λ j l. linked j (omega (arith, l, length_leaf)) (cases_eq j k);
      parts = λ j some l. subst (IsPartOf (with_leaf cells k node) j) (same_parent j (cases_eq j k))
          (part_stays j (cell_at cells j).parent (w.parts j some (omega (arith, l, length_leaf))));
    }
      where
        linked : (j : ℕ) → j < length cells → (j ≡ k) ⊎ (j ≡ k → ⊥)
            → IsLinked (length (with_leaf cells k node)) boxes (box_at boxes j)
            (cell_at (with_leaf cells k node) j).left (node_at (with_leaf cells k node) j)
        linked j l (inl e) = leaf_linked (length (with_leaf cells k node)) boxes (box_at boxes j)
            (cell_at (with_leaf cells k node) j).left (node_at (with_leaf cells k node) j)
            (subst (λ (t : ℕ). IsLeafNode (node_at (with_leaf cells k node) t)) (sym e)
            (subst (λ (c : Cell). IsLeafNode c.node) (sym at_leaf) leaf))
        linked j l (inr d) = subst (λ (n : ℕ). IsLinked n boxes (box_at boxes j)
            (cell_at (with_leaf cells k node) j).left (node_at (with_leaf cells k node) j)) (sym length_leaf)
            (subst (λ (c : Cell). IsLinked (length cells) boxes (box_at boxes j) c.left c.node) (sym (off_leaf j d))
            (w.linked j l))

-- ---- a split into two numbers without a node
pub split_changes : (cells : List Cell) (boxes : List (List Span)) (k i m : ℕ) → k < length cells
    → length boxes ≡ length cells
    → IsChangedAt cells (split_cells cells k i m Point Point) boxes (split_list boxes k i m) k
split_changes cells boxes k i m known each = record {
  longer = omega (arith, length_split cells k i m Point Point known);
  same = λ j l d. at_other cells k i m Point Point known j l d;
  box = λ j l. box_before boxes k i m j (omega (arith, l, each));
  new = λ j l n. new j l (where_is (length cells) k j (omega (arith, n, length_split cells k i m Point Point known)));
}
  where
    new : (j : ℕ) → length cells ≤ j → Where (length cells) k j
        → node_at (split_cells cells k i m Point Point) j ≡ Point
    new j l (inl e) = absurd (omega (arith, l, e, known))
    new j l (inr (inl (n, d))) = absurd (omega (arith, l, n))
    new j l (inr (inr (inl e))) = ap (λ (c : Cell). c.node) (at_left cells k i m Point Point known j e)
    new j l (inr (inr (inr e))) = ap (λ (c : Cell). c.node) (at_right cells k i m Point Point known j e)

-- ---- what waits
not_counted : (k : ℕ) (entries : List (ℤ × ℕ)) → All (λ entry. entry.1 ≡ k → ⊥) entries → entries_of k entries ≡ 0
not_counted k [] h = refl
not_counted k (e ∷ es) h =
    let here : is_of k e ≡ 0 = ap (λ (b : Bool). cond b 1 0)
    (ne_eqb e.1 k (All-head (λ (entry : ℤ × ℕ). entry.1 ≡ k → ⊥) e es h)) in
    let r = not_counted k es (All-tail (λ (entry : ℤ × ℕ). entry.1 ≡ k → ⊥) e es h) in
    let s = sum_by-cons (is_of k) e es in
    s ∙ omega (arith, here, r)

module _ (task : Task) (cells more : List Cell) (boxes wider : List (List Span)) (k : ℕ) (known : k < length cells)
    (free : node_at cells k ≡ Point) (change : IsChangedAt cells more boxes wider k)
    (old : List (ℤ × ℕ)) (waits : AreEntries task cells boxes old) where
  others : All (λ (e : ℤ × ℕ). e.1 ≡ k → ⊥) old
  others i d l e = let h = waits.sound i d l in
      point_is_no_cost (node_at cells k) h.list free (subst (λ (j : ℕ). node_at cells j ≡ Cost h.list) e h.node)

  entry_stays : (e : ℤ × ℕ) → IsEntry task cells boxes e → (e.1 ≡ k → ⊥) → IsEntry task more wider e
  entry_stays e h d = record {
    within = omega (arith, h.within, change.longer);
    list = h.list;
    node = ap (λ (c : Cell). c.node) (change.same e.1 h.within d) ∙ h.node;
    worth = h.worth ∙ ap (λ (b : List Span). task.worths b h.list) (sym (change.box e.1 h.within));
    small = h.small;
  }

  pub entries_changed : (worth : Option ℤ) (new : List (ℤ × ℕ)) → IsWorthOf task (box_at wider k) (node_at more k) worth
      → IfSome worth (λ z. unsigned_abs z < 10 ^ 37) → IsPermutation (with_entry worth k old) new
      → AreEntries task more wider new
  entries_changed worth new w small p = record {
    sound = all_with (IsEntry task more wider) worth k old new p here
        (λ i d l. entry_stays _ (waits.sound i d l) (others i d l));
    complete = λ j list l e. complete j list l e (cases_eq j k);
    once = λ j. once j (cases_eq k j);
  }
    where
      here : (z : ℤ) → worth ≡ Some z → IsEntry task more wider (z, k)
      here z e = let c = cost_of_worth task (box_at wider k) (node_at more k) worth z e w in record {
        within = omega (arith, known, change.longer);
        list = c.0;
        node = c.1;
        worth = c.2;
        small = small_of worth z e small;
      }

      complete : (j list : ℕ) → j < length more → node_at more j ≡ Cost list → (j ≡ k) ⊎ (j ≡ k → ⊥)
          → Contains new (task.worths (box_at wider j) list, j)
      complete j list l e (inl q) = subst (λ (t : ℕ). Contains new (task.worths (box_at wider t) list, t)) (sym q)
          (contains_new worth k old new (task.worths (box_at wider k) list)
          (worth_of_cost task (box_at wider k) (node_at more k) worth list
          (subst (λ (t : ℕ). node_at more t ≡ Cost list) q e) w) p)
      complete j list l e (inr d) = at (cases_lt j (length cells))
        where
          at : (j < length cells) ⊎ (length cells ≤ j) → Contains new (task.worths (box_at wider j) list, j)
          at (inl m) = subst (λ (b : List Span). Contains new (task.worths b list, j)) (sym (change.box j m))
              (contains_with worth k old new (task.worths (box_at boxes j) list, j) p
              (waits.complete j list m (sym (ap (λ (c : Cell). c.node) (change.same j m d)) ∙ e)))
          at (inr m) = absurd (point_is_no_cost (node_at more j) list (change.new j m l) e)

      once : (j : ℕ) → (k ≡ j) ⊎ (k ≡ j → ⊥) → entries_of j new ≤ 1
      once j (inl e) =
          let c = counted_with worth k j old new p in
          let m = counted_at_most worth k j in
          let z = subst (λ (t : ℕ). entries_of t old ≡ 0) e (not_counted k old others) in
          omega (arith, c, m, z)
      once j (inr d) =
          let c = counted_with worth k j old new p in
          let m = counted_not worth k j d in
          let o = waits.once j in
          omega (arith, c, m, o)
