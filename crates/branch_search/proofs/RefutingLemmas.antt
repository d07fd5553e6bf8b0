-- A box of which one interval is a part of what it was.
use Rattle.std.proofs.Common.{◌≡◌, ◌≢◌, ℕ, ◌+◌, ◌<◌, refl, sym, ap, ◌∙◌, subst, arith, Bool, true, false, eqb, List}
use Rattle.std.proofs.Common.{length, set}
use Rattle.std.proofs.lemmas.Bool.Decides.{nat_tests}
use Rattle.std.proofs.lemmas.List.{get_or-set_other, get_or-set_same, length-set, set-get_or, set-set}
use Rattle.instance_model.specs.Tables.{Tables}
use Rattle.lagrange_bound.specs.declared.span.Span.{Span}
use Rattle.lagrange_bound.specs.Boxes.{span_of, starts_in, IsBox, HasStarts}
use Rattle.certificate_tree.specs.Trees.{IsSplit}
use Rattle.certificate_tree.proofs.RootLemmas.{parts_are_boxes}
use Rattle.branch_search.specs.node_state.Bands.{IsPart}
use Rattle.branch_search.specs.Boxes.{IsUnrefuted}
use Rattle.branch_search.specs.Refuting.{IsPartOfUnrefuted}

-- the others keep their starts
pub starts_of_part : (inst : Tables) (box : List Span) (i : ℕ) (whole : Span) → HasStarts inst (set box i whole)
    → 0 < length (starts_in inst i (span_of box i)) → HasStarts inst box
starts_of_part inst box i whole before own k l = at (eqb k i) refl
  where
    at : (b : Bool) → eqb k i ≡ b → 0 < length (starts_in inst k (span_of box k))
    at true e =
        let here : i ≡ k = grind (arith, nat_tests) in
        subst (λ (j : ℕ). 0 < length (starts_in inst j (span_of box j))) here own
    at false e =
        let other : k ≢ i = grind (arith, nat_tests) in
        subst (λ (span : Span). 0 < length (starts_in inst k span))
        (get_or-set_other box i k whole (record { from = 0; to = 0 }) other) (before k l)

-- ---- the interval is the part
pub part_within : (inst : Tables) (box now : List Span) (i : ℕ) (whole part : Span) → now ≡ set box i part
    → i < length inst.names → IsPartOfUnrefuted inst box i whole part → IsPart (span_of now i) whole
part_within inst box now i whole part e l h =
    let n : i < length box = omega (arith, l, h.is_box.each, length-set box i part) in
    subst (λ (span : Span). IsPart span whole) (sym (ap (λ (b : List Span). span_of b i) e
    ∙ get_or-set_same box i part (record { from = 0; to = 0 }) n)) h.within

-- and once more the whole
pub before_part : (inst : Tables) (box now : List Span) (i : ℕ) (whole part : Span) → now ≡ set box i part
    → IsPartOfUnrefuted inst box i whole part → IsUnrefuted inst (set now i whole)
before_part inst box now i whole part e h = subst (IsUnrefuted inst)
    (sym (ap (λ (b : List Span). set b i whole) e ∙ set-set box i part whole)) h.before

-- ---- the two parts of a split
module _ (inst : Tables) (box spans : List Span) (i m : ℕ) (same : spans ≡ box) (is_box : IsBox inst box)
    (split : IsSplit box i m) (unrefuted : IsUnrefuted inst box) where
  number : i < length inst.names
  number = omega (arith, split.number, is_box.each)

  pub left_part : IsPartOfUnrefuted inst box i (span_of spans i) (record { from = (span_of spans i).from; to = m })
  left_part = subst (λ (xs : List Span). IsPartOfUnrefuted inst box i (span_of xs i) (record {
    from = (span_of xs i).from;
    to = m;
  })) (sym same) (record {
    end = is_box.to i number;
    within = record { from = omega arith; to = omega (arith, split.to) };
    before = subst (IsUnrefuted inst) (sym (set-get_or box i (record { from = 0; to = 0 }))) unrefuted;
    is_box = (parts_are_boxes inst box i m is_box split).0;
  })

  pub right_part : (now : List Span) → now ≡ set box i (record { from = (span_of spans i).from; to = m })
      → IsPartOfUnrefuted inst now i (span_of spans i) (record { from = m + 1; to = (span_of spans i).to })
  right_part now e = subst (λ (xs : List Span). IsPartOfUnrefuted inst now i (span_of xs i) (record {
    from = m + 1;
    to = (span_of xs i).to;
  })) (sym same) (record {
    end = is_box.to i number;
    within = record { from = omega (arith, split.from); to = omega arith };
    before = subst (IsUnrefuted inst) (sym (ap (λ (b : List Span). set b i (span_of box i)) e
        ∙ set-set box i (record { from = (span_of spans i).from; to = m }) (span_of box i)
        ∙ set-get_or box i (record { from = 0; to = 0 }))) unrefuted;
    is_box = subst (IsBox inst)
        (sym (ap (λ (b : List Span). set b i (record { from = m + 1; to = (span_of box i).to })) e
        ∙ set-set box i (record { from = (span_of spans i).from; to = m })
        (record { from = m + 1; to = (span_of box i).to }))) (parts_are_boxes inst box i m is_box split).1;
  })
