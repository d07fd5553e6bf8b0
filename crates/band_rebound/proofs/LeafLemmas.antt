-- What a leaf becomes on its box, and that it becomes one thing.
use Rattle.std.proofs.Common.{◌≡◌, ◌⊎◌, inl, inr, ℕ, ◌<◌, ◌^◌, refl, sym, ◌∙◌, ap, subst, List, [], length}
use Rattle.std.proofs.Common.{unsigned_abs, All}
use Rattle.std.specs.Prelude.{Result, Ok, Err, IfOk, IfSome}
use Rattle.std.proofs.lemmas.Bool.{cases_order}
use Rattle.instance_model.specs.Tables.{Tables}
use Rattle.lagrange_bound.specs.declared.span.Span.{Span}
use Rattle.lagrange_bound.specs.Boxes.{IsBox, HasStarts, starts_in, span_of}
use Rattle.lagrange_bound.specs.Tabulated.{PriceRows, IsPricedBox}
use Rattle.lagrange_bound.specs.PricedTables.{IsPricedTable}
use Rattle.certificate_tree.specs.declared.node.Node.{Node}
use Rattle.certificate_tree.specs.declared.node.Node.TheVariants.{Split, Cost, Point, Band, Excl, Empty}
use Rattle.certificate_tree.specs.Holding.{Worths, EmptyHolds, IsSingle}
use Rattle.certificate_tree.proofs.StartLemmas.{has_start_from, start_found}
use Rattle.certificate_tree.proofs.GreatestLemmas.{one_greatest}
use Rattle.band_rebound.specs.declared.leaf.NewLeaf.{NewLeaf}
use Rattle.band_rebound.specs.Rebinding.{IsFirstEmpty, IsHeld, Becomes, worths_at}
use Rattle.band_rebound.specs.Rebinding.Becomes.{empty, same, point, cost}
use Rattle.band_rebound.specs.Steps.{some_worth, IsNewLeaf}

-- ---- intervals without a start

pub first_is_empty : (inst : Tables) (box : List Span) (i : ℕ) → i < length inst.names
    → (0 < length (starts_in inst i (span_of box i)) → ⊥)
    → ((j : ℕ) → j < i → 0 < length (starts_in inst j (span_of box j))) → IsFirstEmpty inst box i
first_is_empty inst box i l none before = record {
  number = l;
  none = λ s a. none (has_start_from inst i s (span_of box i) a);
  first = λ j k. start_found inst j (span_of box j) (before j k);
}

pub not_empty : (inst : Tables) (box : List Span) (i : ℕ) → HasStarts inst box → i < length inst.names
    → EmptyHolds inst box i → ⊥
not_empty inst box i starts l none =
    let s = start_found inst i (span_of box i) (starts i l) in none s.0 s.1

one_empty : (inst : Tables) (box : List Span) (i j : ℕ) → IsFirstEmpty inst box i → IsFirstEmpty inst box j → i ≡ j
one_empty inst box i j a b = at (cases_order i j)
  where
    at : (i ≡ j) ⊎ ((i < j) ⊎ (j < i)) → i ≡ j
    at (inl e) = e
    at (inr (inl l)) = let s = b.first i l in absurd (a.none s.0 s.1)
    at (inr (inr l)) = let s = a.first j l in absurd (b.none s.0 s.1)

-- ---- one leaf

pub one_leaf : (inst : Tables) (lists : ℕ) (worths : Worths) (box : List Span) (old a b : Node)
    → Becomes inst lists worths box old a → Becomes inst lists worths box old b → a ≡ b
one_leaf inst lists worths box old a b (empty i f) (empty j g) = ap Empty (one_empty inst box i j f g)
one_leaf inst lists worths box old a b (empty i f) (same s h) = absurd (not_empty inst box i s f.number f.none)
one_leaf inst lists worths box old a b (empty i f) (point s n o) = absurd (not_empty inst box i s f.number f.none)
one_leaf inst lists worths box old a b (empty i f) (cost j s n o g) = absurd (not_empty inst box i s f.number f.none)
one_leaf inst lists worths box old a b (same s h) (empty i f) = absurd (not_empty inst box i s f.number f.none)
one_leaf inst lists worths box old a b (same s h) (same t k) = refl
one_leaf inst lists worths box old a b (same s h) (point t n o) = absurd (n h)
one_leaf inst lists worths box old a b (same s h) (cost j t n o g) = absurd (n h)
one_leaf inst lists worths box old a b (point s n o) (empty i f) = absurd (not_empty inst box i s f.number f.none)
one_leaf inst lists worths box old a b (point s n o) (same t h) = absurd (n h)
one_leaf inst lists worths box old a b (point s n o) (point t m p) = refl
one_leaf inst lists worths box old a b (point s n o) (cost j t m p g) = absurd (p o)
one_leaf inst lists worths box old a b (cost j s n o g) (empty i f) = absurd (not_empty inst box i s f.number f.none)
one_leaf inst lists worths box old a b (cost j s n o g) (same t h) = absurd (n h)
one_leaf inst lists worths box old a b (cost j s n o g) (point t m p) = absurd (o p)
one_leaf inst lists worths box old a b (cost j s n o g) (cost k t m p f) =
    ap Cost (one_greatest (worths box) lists j k g f)

-- ---- steps

-- a `band` and an `excl` are worth nothing
pub held_none : (inst : Tables) (worths : Worths) (box : List Span) (n : Node) → IsHeld inst box n
    → worths_at inst worths box n ≡ []
held_none inst worths box (Split i m) h = absurd h
held_none inst worths box (Cost j) h = absurd h
held_none inst worths box Point h = absurd h
held_none inst worths box (Band c t side) h = refl
held_none inst worths box (Excl e) h = refl
held_none inst worths box (Empty i) h = absurd h

-- the leaf of a box of single starts
pub point_made : {E : Type 0} (inst : Tables) (lists : ℕ) (worths : Worths) (box : List Span) (old : Node)
    (r : Result NewLeaf E) → HasStarts inst box → (IsHeld inst box old → ⊥) → IsSingle box
    → IfOk r (λ new. new.node ≡ Point)
    → IfOk r (λ new. (by : Worths) → worths_at inst by box Point ≡ some_worth new.worth)
    → IfOk r (λ new. IfSome new.worth (λ z. unsigned_abs z < 10 ^ 37)) → IfOk r (IsNewLeaf inst lists worths box old)
point_made inst lists worths box old (Ok new) starts not_held single node worth small = record {
  becomes = subst (Becomes inst lists worths box old) (sym node) (point starts not_held single);
  worth = ap (worths_at inst worths box) node ∙ worth worths;
  small = small;
}
point_made inst lists worths box old (Err e) starts not_held single node worth small = tt

-- each table has a price for each interval of the box
pub priced_box : (inst : Tables) (tables : List PriceRows) (box : List Span) → All (IsPricedTable inst) tables
    → IsBox inst box → HasStarts inst box → All (λ table. IsPricedBox table box) tables
priced_box inst tables box priced is_box starts = λ i d l. priced i d l box is_box starts
