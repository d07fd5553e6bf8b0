-- The leaves of a tree: each stands over a box, and starts in the box of the tree lie in that of a leaf.
use Rattle.std.proofs.Common.{◌≡◌, ℕ, ◌+◌, ◌<◌, ◌≤◌, ◌⊎◌, inl, inr, refl, sym, ◌∙◌, arith, List, [], ◌++◌, length}
use Rattle.std.proofs.Common.{get_or, set, length-append, length-set, All}
use Rattle.std.specs.List.{Any}
use Rattle.std.proofs.lemmas.List.{get_or_append_left, get_or-append-add}
use Rattle.std.proofs.lemmas.List.Elements.{All-nil, All-cons, All-append}
use Rattle.instance_model.specs.Tables.{Tables, tmax}
use Rattle.lagrange_bound.specs.declared.span.Span.{Span}
use Rattle.lagrange_bound.specs.Boxes.{span_of, IsBox}
use Rattle.certificate_tree.specs.Trees.{Leaf, Tree, leaf, split, leaves, root_box, below, above, IsSplit, AreStartsIn}
use Rattle.certificate_tree.specs.Ranges.{IsLeafInRange, IsTreeInRange}
use Rattle.certificate_tree.specs.Laws.{EmptyLeavesNoPlan}
use Rattle.certificate_tree.proofs.RootLemmas.{root_at, length-root, changed_at, parts_are_boxes, le_or_lt}
use Rattle.certificate_tree.proofs.Refuting.{start_in}

-- ---- one interval is changed to another with the start in it
starts_kept : (box : List Span) (starts : List ℕ) (i : ℕ) (x : Span) → AreStartsIn box starts → i < length box
    → x.from ≤ get_or starts i 0 → get_or starts i 0 ≤ x.to → AreStartsIn (set box i x) starts
starts_kept box starts i x p h l m =
    let same = length-set box i x in
    record {
      each = p.each ∙ sym same;
      from = λ j n. changed_at (λ j y. y.from ≤ get_or starts j 0) box i x h l j (p.from j (omega (arith, n, same)));
      to = λ j n. changed_at (λ j y. get_or starts j 0 ≤ y.to) box i x h m j (p.to j (omega (arith, n, same)));
    }

pub parts_hold_starts : (box : List Span) (i m : ℕ) (starts : List ℕ) → IsSplit box i m → AreStartsIn box starts
    → AreStartsIn (below box i m) starts ⊎ AreStartsIn (above box i m) starts
parts_hold_starts box i m starts s p = at (le_or_lt (get_or starts i 0) m)
  where
    at : (get_or starts i 0 ≤ m) ⊎ (m < get_or starts i 0)
        → AreStartsIn (below box i m) starts ⊎ AreStartsIn (above box i m) starts
    at (inl q) =
        let part : Span = record { from = (span_of box i).from; to = m } in
        inl (starts_kept box starts i part p s.number (p.from i s.number) q)
    at (inr q) =
        let part : Span = record { from = m + 1; to = (span_of box i).to } in
        inr (starts_kept box starts i part p s.number (omega (arith, q)) (p.to i s.number))

-- ---- each leaf of a tree in range is one in range over a box of the instance
pub record IsLeafOver (inst : Tables) (lists : ℕ) (x : Leaf) : Type 0 where
  pub is_box : IsBox inst x.box
  pub in_range : IsLeafInRange inst lists x.node

pub leaves_in_range : (inst : Tables) (lists : ℕ) (box : List Span) (t : Tree) → IsBox inst box
    → IsTreeInRange inst lists box t → All (IsLeafOver inst lists) (leaves box t)
leaves_in_range inst lists box (leaf n) b r =
    All-cons (IsLeafOver inst lists) (record { box = box; node = n }) [] (record { is_box = b; in_range = r })
    (All-nil (IsLeafOver inst lists))
leaves_in_range inst lists box (split i m l x) b r =
    let parts = parts_are_boxes inst box i m b r.0 in
    All-append (IsLeafOver inst lists) (leaves (below box i m) l) (leaves (above box i m) x)
    (leaves_in_range inst lists (below box i m) l parts.0 r.1)
    (leaves_in_range inst lists (above box i m) x parts.1 r.2)

-- ---- some member of two lists
any_front : (P : Leaf → Type 0) (xs ys : List Leaf) → Any P xs → Any P (xs ++ ys)
any_front P xs ys (k, x, l, e, p) = (k, x, omega (arith, l, length-append xs ys), get_or_append_left xs ys x k l ∙ e, p)

any_back : (P : Leaf → Type 0) (xs ys : List Leaf) → Any P ys → Any P (xs ++ ys)
any_back P xs ys (k, x, l, e, p) =
    (length xs + k, x, omega (arith, l, length-append xs ys), get_or-append-add xs ys k x ∙ e, p)

-- ---- the leaves of a tree
pub leaves_hold_starts : (inst : Tables) (lists : ℕ) (box : List Span) (t : Tree) (starts : List ℕ)
    → IsTreeInRange inst lists box t → AreStartsIn box starts → Any (λ node. AreStartsIn node.box starts) (leaves box t)
leaves_hold_starts inst lists box (leaf n) starts r p = (0, record { box = box; node = n }, omega arith, refl, p)
leaves_hold_starts inst lists box (split i m l x) starts r p =
    at (leaves_hold_starts inst lists (below box i m) l starts r.1)
    (leaves_hold_starts inst lists (above box i m) x starts r.2)
    (parts_hold_starts box i m starts r.0 p)
  where
    Holds : Leaf → Type 0
    Holds node = AreStartsIn node.box starts

    at : (AreStartsIn (below box i m) starts → Any Holds (leaves (below box i m) l))
        → (AreStartsIn (above box i m) starts → Any Holds (leaves (above box i m) x))
        → AreStartsIn (below box i m) starts ⊎ AreStartsIn (above box i m) starts
        → Any Holds (leaves (below box i m) l ++ leaves (above box i m) x)
    at one two (inl q) = any_front Holds (leaves (below box i m) l) (leaves (above box i m) x) (one q)
    at one two (inr q) = any_back Holds (leaves (below box i m) l) (leaves (above box i m) x) (two q)

pub root_holds_starts : (inst : Tables) (starts : List ℕ) → length starts ≡ length inst.names
    → ((i : ℕ) → i < length inst.names → (1 ≤ get_or starts i 0) × (get_or starts i 0 ≤ tmax inst i))
    → AreStartsIn (root_box inst) starts
root_holds_starts inst starts each within =
    let same = length-root inst in
    record {
      each = each ∙ sym same;
      from = λ i h. let l : i < length inst.names = omega (arith, h, same) in rw (root_at inst i l) ((within i l).0);
      to = λ i h. let l : i < length inst.names = omega (arith, h, same) in rw (root_at inst i l) ((within i l).1);
    }

-- ---- an interval without an allowed start
pub empty_refutes : EmptyLeavesNoPlan
empty_refutes inst box i l h starts p = h (get_or starts i 0) (start_in inst box starts i p l)
