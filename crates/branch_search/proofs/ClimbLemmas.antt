-- The box of a number, by the way up to the root.
use Rattle.std.proofs.Common.{◌≡◌, ℕ, ◌+◌, ◌<◌, ◌≤◌, ◌⊎◌, inl, inr, sym, ◌∙◌, ap, subst, arith, ◌++◌, take, drop, List}
use Rattle.std.proofs.Common.{length, set, max, min, Bool, cond, eqb}
use Rattle.std.proofs.lemmas.Bool.{cases_eq, eq-eqb, ne_eqb}
use Rattle.std.proofs.lemmas.List.{length-set, get_or-set_same, get_or-set_other, ext_get_or, drop_all, take_all}
use Rattle.std.proofs.lemmas.List.{append-nil}
use Rattle.instance_model.specs.Tables.{Tables, tmax}
use Rattle.lagrange_bound.specs.declared.span.Span.{Span}
use Rattle.lagrange_bound.specs.Boxes.{span_of}
use Rattle.certificate_tree.specs.declared.node.Node.TheVariants.{Split}
use Rattle.certificate_tree.specs.Trees.{below, above, root_box, IsSplit}
use Rattle.certificate_tree.proofs.RootLemmas.{root_at, length-root, changed_at}
use Rattle.branch_search.specs.declared.tree.cell.Cell.{Cell}
use Rattle.branch_search.specs.Growing.{cell_at, node_at, box_at, IsPartOf, AreBoxesOf}
use Rattle.branch_search.specs.Climbing.{cut_above, cut_below, narrowed, IsCommon, IsClimbed}
use Rattle.branch_search.proofs.TreeLemmas.{linked_split}

abbrev no_span : Span
no_span = record { from = 0; to = 0 }

-- ---- at the number itself
pub climb_start : (inst : Tables) (cells : List Cell) (number : ℕ) (spans : List Span) → number < length cells
    → spans ≡ root_box inst → IsClimbed inst cells number number spans
climb_start inst cells number spans l e boxes w =
    let b = w.boxed number l in
    subst (IsCommon inst (box_at boxes number) (box_at boxes number)) (sym e) (record {
      each = length-root inst;
      from = λ j m. subst (λ (s : Span). (span_of (box_at boxes number) j).from
          ≡ max (span_of (box_at boxes number) j).from s.from) (sym (root_at inst j m)) (omega (arith, b.from j m));
      to = λ j m. subst (λ (s : Span). (span_of (box_at boxes number) j).to
          ≡ min (span_of (box_at boxes number) j).to s.to) (sym (root_at inst j m)) (omega (arith, b.to j m));
      one = λ j m. subst (λ (s : Span). 1 ≤ s.from) (sym (root_at inst j m)) (omega arith);
      most = λ j m. subst (λ (s : Span). s.to ≤ tmax inst j) (sym (root_at inst j m)) (omega arith);
    })

-- ---- one split up
-- what two boxes have in common, where one interval of the one is cut, and was cut of the other
common_set : (inst : Tables) (target next spans : List Span) (i : ℕ) (x y : Span) → i < length next
    → length next ≡ length inst.names → IsCommon inst target (set next i y) spans
    → ((span_of target i).from ≡ max y.from (span_of spans i).from → (span_of target i).to ≡ min y.to (span_of spans
    i).to
    → ((span_of target i).from ≡ max (span_of next i).from x.from) × ((span_of target i).to ≡ min (span_of next i).to
    x.to))
    → 1 ≤ x.from → x.to ≤ tmax inst i → IsCommon inst target next (set spans i x)
common_set inst target next spans i x y l n h cut one most = record {
  each = length-set spans i x ∙ h.each;
  from = λ j m. from j m (cases_eq j i);
  to = λ j m. to j m (cases_eq j i);
  one = λ j m. changed_at (λ j s. 1 ≤ s.from) spans i x in_spans one j (h.one j m);
  most = λ j m. changed_at (λ j s. s.to ≤ tmax inst j) spans i x in_spans most j (h.most j m);
}
  where
    in_spans : i < length spans
    in_spans = omega (arith, l, n, h.each)

    here : (span_of target i).from ≡ max y.from (span_of spans i).from
    here = subst (λ (s : Span). (span_of target i).from ≡ max s.from (span_of spans i).from)
        (get_or-set_same next i y no_span l) (h.from i (omega (arith, l, n)))

    there : (span_of target i).to ≡ min y.to (span_of spans i).to
    there = subst (λ (s : Span). (span_of target i).to ≡ min s.to (span_of spans i).to)
        (get_or-set_same next i y no_span l) (h.to i (omega (arith, l, n)))

    from : (j : ℕ) → j < length inst.names → (j ≡ i) ⊎ (j ≡ i → ⊥)
        → (span_of target j).from ≡ max (span_of next j).from (span_of (set spans i x) j).from
    from j m (inl e) = subst
        (λ (k : ℕ). (span_of target k).from ≡ max (span_of next k).from (span_of (set spans i x) k).from) (sym e)
        (subst (λ (s : Span). (span_of target i).from ≡ max (span_of next i).from s.from)
        (sym (get_or-set_same spans i x no_span in_spans)) (cut here there).0)
    from j m (inr d) = subst
        (λ (s : Span). (span_of target j).from ≡ max (span_of next j).from s.from)
        (sym (get_or-set_other spans i j x no_span d))
        (subst (λ (s : Span). (span_of target j).from ≡ max s.from (span_of spans j).from)
        (get_or-set_other next i j y no_span d) (h.from j m))

    to : (j : ℕ) → j < length inst.names → (j ≡ i) ⊎ (j ≡ i → ⊥)
        → (span_of target j).to ≡ min (span_of next j).to (span_of (set spans i x) j).to
    to j m (inl e) = subst
        (λ (k : ℕ). (span_of target k).to ≡ min (span_of next k).to (span_of (set spans i x) k).to) (sym e)
        (subst (λ (s : Span). (span_of target i).to ≡ min (span_of next i).to s.to)
        (sym (get_or-set_same spans i x no_span in_spans)) (cut here there).1)
    to j m (inr d) = subst
        (λ (s : Span). (span_of target j).to ≡ min (span_of next j).to s.to)
        (sym (get_or-set_other spans i j x no_span d))
        (subst (λ (s : Span). (span_of target j).to ≡ min s.to (span_of spans j).to)
        (get_or-set_other next i j y no_span d) (h.to j m))

-- the part of a box with number k, and the intervals so far cut to it
common_up : (inst : Tables) (target next spans : List Span) (i m left k : ℕ) → IsSplit next i m
    → length next ≡ length inst.names → (span_of next i).to ≤ tmax inst i → (left ≡ k) ⊎ (left + 1 ≡ k)
    → (left ≡ k → IsCommon inst target (below next i m) spans)
    → (left + 1 ≡ k → IsCommon inst target (above next i m) spans)
    → IsCommon inst target next
    (set spans i (cond (eqb left k) (cut_above (span_of spans i) m) (cut_below (span_of spans i) m)))
common_up inst target next spans i m left k s n t (inl e) below_is above_is =
    let h = below_is e in
    subst
    (λ (b : Bool). IsCommon inst target next
    (set spans i (cond b (cut_above (span_of spans i) m) (cut_below (span_of spans i) m))))
    (sym (eq-eqb left k e))
    (common_set inst target next spans i (cut_above (span_of spans i) m)
    (record { from = (span_of next i).from; to = m }) s.number n h
    (λ f g. (f, omega (arith, f, g, s.to)))
    (h.one i (omega (arith, s.number, n)))
    (let u = h.most i (omega (arith, s.number, n)) in omega (arith, u)))
common_up inst target next spans i m left k s n t (inr e) below_is above_is =
    let h = above_is e in
    subst
    (λ (b : Bool). IsCommon inst target next
    (set spans i (cond b (cut_above (span_of spans i) m) (cut_below (span_of spans i) m))))
    (sym (ne_eqb left k (λ f. omega (arith, e, f))))
    (common_set inst target next spans i (cut_below (span_of spans i) m)
    (record { from = m + 1; to = (span_of next i).to }) s.number n h
    (λ f g. (omega (arith, f, g, s.from), g))
    (omega arith)
    (h.most i (omega (arith, s.number, n))))

pub climb_more : (inst : Tables) (cells : List Cell) (number k p i m : ℕ) (spans new : List Span) → k < length cells
    → 0 < k → IsClimbed inst cells number k spans → p ≡ (cell_at cells k).parent → node_at cells p ≡ Split i m
    → new ≡ narrowed spans (cell_at cells p) k i m → IsClimbed inst cells number p new
climb_more inst cells number k p i m spans new l some h parent node is boxes w =
    let part : IsPartOf cells k p = subst (IsPartOf cells k) (sym parent) (w.parts k some l) in
    let in_cells : p < length cells = omega (arith, part.lesser, l) in
    let x = linked_split (length cells) boxes (box_at boxes p) (cell_at cells p).left i m (node_at cells p) node
    (w.linked p in_cells) in
    let b = w.boxed p in_cells in
    subst (IsCommon inst (box_at boxes number) (box_at boxes p)) (sym is)
    (common_up inst (box_at boxes number) (box_at boxes p) spans i m (cell_at cells p).left k x.split b.each
    (b.to i (omega (arith, x.split.number, b.each))) part.side
    (λ e. subst (λ (t : List Span). IsCommon inst (box_at boxes number) t spans)
    (ap (box_at boxes) (sym e) ∙ x.left_is) (h boxes w))
    (λ e. subst (λ (t : List Span). IsCommon inst (box_at boxes number) t spans)
    (ap (box_at boxes) (sym e) ∙ x.right_is) (h boxes w)))

-- ---- what the walk needs on its way
pub parent_is_split : (inst : Tables) (cells : List Cell) (boxes : List (List Span)) (k p : ℕ)
    → AreBoxesOf inst cells boxes → 0 < k → k < length cells → p ≡ (cell_at cells k).parent → IsPartOf cells k p
parent_is_split inst cells boxes k p w some l e = subst (IsPartOf cells k) (sym e) (w.parts k some l)

pub split_facts : (inst : Tables) (cells : List Cell) (boxes : List (List Span)) (p i m : ℕ)
    → AreBoxesOf inst cells boxes → p < length cells → node_at cells p ≡ Split i m
    → (i < length inst.names) × (m < tmax inst i)
split_facts inst cells boxes p i m w l e =
    let x = linked_split (length cells) boxes (box_at boxes p) (cell_at cells p).left i m (node_at cells p) e
    (w.linked p l) in
    let b = w.boxed p l in
    let n : i < length inst.names = omega (arith, x.split.number, b.each) in
    (n, omega (arith, x.split.to, b.to i n))

-- what a call wrote to a slice of a whole list is the list
pub same_back : (xs ys : List Span) (n : ℕ) → length xs ≡ length ys → n ≡ length ys
    → take n (xs ++ drop (length xs) ys) ≡ xs
same_back xs ys n e f = ap (λ (zs : List Span). take n (xs ++ zs)) (drop_all (length xs) ys (omega (arith, e)))
    ∙ ap (λ (zs : List Span). take n zs) (append-nil xs) ∙ take_all n xs (omega (arith, e, f))

pub length_narrowed : (box : List Span) (cell : Cell) (k i m : ℕ) → length (narrowed box cell k i m) ≡ length box
length_narrowed box cell k i m =
    length-set box i (cond (eqb cell.left k) (cut_above (span_of box i) m) (cut_below (span_of box i) m))

-- ---- at the root
abbrev span_with : ℕ → ℕ → Span
span_with x y = record { from = x; to = y }

same_span : (a b : Span) → a.from ≡ b.from → a.to ≡ b.to → a ≡ b
same_span a b e f = ap (λ (x : ℕ). span_with x a.to) e ∙ ap (span_with b.from) f

pub climb_end : (inst : Tables) (cells : List Cell) (number : ℕ) (spans : List Span) → number < length cells
    → IsClimbed inst cells number 0 spans → (boxes : List (List Span)) → AreBoxesOf inst cells boxes
    → spans ≡ box_at boxes number
climb_end inst cells number spans l h boxes w =
    let c = subst (λ (t : List Span). IsCommon inst (box_at boxes number) t spans) w.root (h boxes w) in
    let b = w.boxed number l in
    ext_get_or no_span spans (box_at boxes number) (c.each ∙ sym b.each)
    (λ j m. at c j (omega (arith, m, c.each)))
  where
    at : IsCommon inst (box_at boxes number) (root_box inst) spans → (j : ℕ) → j < length inst.names
        → span_of spans j ≡ span_of (box_at boxes number) j
    at c j m =
        let f = subst (λ (s : Span). (span_of (box_at boxes number) j).from ≡ max s.from (span_of spans j).from)
        (root_at inst j m) (c.from j m) in
        let t = subst (λ (s : Span). (span_of (box_at boxes number) j).to ≡ min s.to (span_of spans j).to)
        (root_at inst j m) (c.to j m) in
        same_span (span_of spans j) (span_of (box_at boxes number) j) (omega (arith, f, c.one j m))
        (omega (arith, t, c.most j m))
