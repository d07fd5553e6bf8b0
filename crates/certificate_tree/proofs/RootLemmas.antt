-- The box of all starts, and the parts of a box.
use Rattle.std.proofs.Common.{◌≡◌, ℕ, ◌+◌, ◌<◌, ◌≤◌, ◌≢◌, ◌⊎◌, inl, inr, refl, sym, ◌∙◌, subst, arith, Bool, true}
use Rattle.std.proofs.Common.{false, List, [], ◌∷◌, ◌++◌, length, get_or, set, map, ◌==◌, nat_le, get_or-set_other}
use Rattle.std.proofs.Common.{get_or-set_same, length-set}
use Rattle.std.specs.List.{range_with_len}
use Rattle.std.proofs.lemmas.Bool.Decides.{nat_tests}
use Rattle.std.proofs.lemmas.List.FromFn.{get_or-map-range_with_len, length-map-range_with_len, map-range_with_len_more}
use Rattle.instance_model.specs.Tables.{Tables, tmax}
use Rattle.instance_model.specs.Fitting.{IsFitting}
use Rattle.instance_model.proofs.FitLemmas.{tmax_small}
use Rattle.lagrange_bound.specs.declared.span.Span.{Span}
use Rattle.lagrange_bound.specs.Boxes.{span_of, IsBox, IsPlanIn}
use Rattle.certificate_tree.specs.Trees.{root_box, below, above, IsSplit}

-- one more interval of the box of all starts
pub root_more : (inst : Tables) (n s : ℕ) (spans more : List Span)
    → spans ≡ map (λ i. record { from = 1; to = tmax inst i }) (range_with_len 0 n) → s ≡ tmax inst n
    → more ≡ spans ++ (record { from = 1; to = s }) ∷ []
    → more ≡ map (λ i. record { from = 1; to = tmax inst i }) (range_with_len 0 (n + 1))
root_more inst n s spans more h e f =
    f ∙ rw (h, e) refl ∙ sym (map-range_with_len_more (λ i. record { from = 1; to = tmax inst i }) 0 n n (omega arith))

pub root_at : (inst : Tables) (i : ℕ) → i < length inst.names → span_of (root_box inst) i ≡ record {
  from = 1;
  to = tmax inst i;
}
root_at inst i h = get_or-map-range_with_len (λ i. record { from = 1; to = tmax inst i }) 0 (length inst.names) i i
    (record { from = 0; to = 0 }) h (omega arith)

pub length-root : (inst : Tables) → length (root_box inst) ≡ length inst.names
length-root inst = length-map-range_with_len (λ i. record { from = 1; to = tmax inst i }) 0 (length inst.names)

pub root_is_box : (inst : Tables) → IsFitting inst → IsBox inst (root_box inst)
root_is_box inst f = record {
  each = length-root inst;
  from = λ i h. rw (root_at inst i h) (omega arith);
  order = λ i h. rw (root_at inst i h) ((tmax_small inst i f h).0);
  to = λ i h. rw (root_at inst i h) (omega arith);
}

-- ---- a box of which one interval is changed
same_or_not : (j i : ℕ) → (j ≡ i) ⊎ (j ≢ i)
same_or_not j i = at (j == i) refl
  where
    at : (b : Bool) → (j == i) ≡ b → (j ≡ i) ⊎ (j ≢ i)
    at true e = inl (grind (arith, nat_tests))
    at false e = inr (grind (arith, nat_tests))

-- what holds of the interval, and of all others, holds of each
pub changed_at : (P : ℕ → Span → Type 0) (box : List Span) (i : ℕ) (x : Span) → i < length box → P i x → (j : ℕ)
    → P j (span_of box j) → P j (span_of (set box i x) j)
changed_at P box i x h p j q = at (same_or_not j i)
  where
    at : (j ≡ i) ⊎ (j ≢ i) → P j (span_of (set box i x) j)
    at (inl e) = subst (λ (k : ℕ). P k (span_of (set box i x) k)) (sym e)
        (subst (P i) (sym (get_or-set_same box i x (record { from = 0; to = 0 }) h)) p)
    at (inr e) = subst (P j) (sym (get_or-set_other box i j x (record { from = 0; to = 0 }) e)) q

box_kept : (inst : Tables) (box : List Span) (i : ℕ) (x : Span) → IsBox inst box → i < length box → 1 ≤ x.from
    → x.from ≤ x.to → x.to ≤ tmax inst i → IsBox inst (set box i x)
box_kept inst box i x b h l m n = record {
  each = length-set box i x ∙ b.each;
  from = λ j k. changed_at (λ j y. 1 ≤ y.from) box i x h l j (b.from j k);
  order = λ j k. changed_at (λ j y. y.from ≤ y.to) box i x h m j (b.order j k);
  to = λ j k. changed_at (λ j y. y.to ≤ tmax inst j) box i x h n j (b.to j k);
}

pub parts_are_boxes : (inst : Tables) (box : List Span) (i m : ℕ) → IsBox inst box → IsSplit box i m
    → IsBox inst (below box i m) × IsBox inst (above box i m)
parts_are_boxes inst box i m b s =
    let h : i < length inst.names = omega (arith, s.number, b.each) in
    let from = b.from i h in
    let to = b.to i h in (
      box_kept inst box i (record { from = (span_of box i).from; to = m }) b s.number from s.from
          (omega (arith, s.to, to)),
      box_kept inst box i (record { from = m + 1; to = (span_of box i).to }) b s.number
          (omega arith) (omega (arith, s.to)) to,
    )

-- ---- plans in a box
plan_kept : (inst : Tables) (box : List Span) (starts : List ℕ) (i : ℕ) (x : Span) → IsPlanIn inst box starts
    → i < length box → x.from ≤ get_or starts i 0 → get_or starts i 0 ≤ x.to → IsPlanIn inst (set box i x) starts
plan_kept inst box starts i x p h l m = record {
  each = p.each;
  feasible = p.feasible;
  from = λ j n. changed_at (λ j y. y.from ≤ get_or starts j 0) box i x h l j (p.from j n);
  to = λ j n. changed_at (λ j y. get_or starts j 0 ≤ y.to) box i x h m j (p.to j n);
}

pub le_or_lt : (x y : ℕ) → (x ≤ y) ⊎ (y < x)
le_or_lt x y = at (nat_le x y) refl
  where
    at : (b : Bool) → nat_le x y ≡ b → (x ≤ y) ⊎ (y < x)
    at true e = inl (grind (arith, nat_tests))
    at false e = inr (grind (arith, nat_tests))

pub parts_hold_plans : (inst : Tables) (box : List Span) (i m : ℕ) (starts : List ℕ) → length box ≡ length inst.names
    → IsSplit box i m → IsPlanIn inst box starts → IsPlanIn inst (below box i m) starts
    ⊎ IsPlanIn inst (above box i m) starts
parts_hold_plans inst box i m starts len s p = at (le_or_lt (get_or starts i 0) m)
  where
    number : i < length inst.names
    number = omega (arith, s.number, len)

    at : (get_or starts i 0 ≤ m) ⊎ (m < get_or starts i 0) → IsPlanIn inst (below box i m) starts
        ⊎ IsPlanIn inst (above box i m) starts
    at (inl q) = inl (plan_kept inst box starts i (record { from = (span_of box i).from; to = m }) p s.number
        (p.from i (omega (arith, s.number, len))) q)
    at (inr q) = inr (plan_kept inst box starts i (record { from = m + 1; to = (span_of box i).to }) p s.number
        (omega (arith, q)) (p.to i (omega (arith, s.number, len))))
