-- The worth of a part of a box, by tables.
use Rattle.std.proofs.Common.{◌≡◌, ℕ, zero, suc, ◌+◌, ◌-◌, ◌<◌, ◌≤◌, refl, sym, ◌∙◌, subst, arith, ℤ, pos, ◌+ℤ◌, ◌≤ℤ◌}
use Rattle.std.proofs.Common.{List, [], ◌∷◌, length, get_or, filter, All, Contains, Bool, true, false, cond, is_some}
use Rattle.std.specs.Prelude.{unwrap_or}
use Rattle.std.specs.List.{range_with_len}
use Rattle.std.proofs.lemmas.List.Elements.{All-contains, All-contains_itself, All-filter, filter_passes}
use Rattle.std.proofs.lemmas.List.FromFn.{get_or-range_with_len, length-range_with_len}
use Rattle.fixed_num.specs.Sums.{sum_below}
use Rattle.fixed_num.proofs.SignedLemmas.{signed_arith}
use Rattle.fixed_num.proofs.SumLemmas.{sum_below_mono}
use Rattle.instance_model.specs.Tables.{Tables}
use Rattle.lagrange_bound.specs.declared.span.Span.{Span}
use Rattle.lagrange_bound.specs.Least.{least_over}
use Rattle.lagrange_bound.specs.TailLemmas.{least_over_le, least_over_reached}
use Rattle.lagrange_bound.specs.Boxes.{span_of, IsBox, HasStarts, IsPlanIn}
use Rattle.lagrange_bound.specs.Tabulated.{PriceRows, entry_of, priced_in, IsPricedBox, worth_in}
use Rattle.lagrange_bound.specs.PricedTables.{IsPricedTable}
use Rattle.certificate_tree.specs.Trees.{below, above, IsSplit}
use Rattle.certificate_tree.specs.Holding.{Worths}
use Rattle.certificate_tree.specs.PriceTables.{table_worths}
use Rattle.certificate_tree.proofs.RootLemmas.{changed_at}

-- one box is a part of another
pub record IsPart (part box : List Span) : Type 0 where
  pub from : (j : ℕ) → (span_of box j).from ≤ (span_of part j).from
  pub to : (j : ℕ) → (span_of part j).to ≤ (span_of box j).to

pub itself_is_part : (box : List Span) → IsPart box box
itself_is_part box = record { from = λ j. omega arith; to = λ j. omega arith }

pub part_of_part : (part mid box : List Span) → IsPart part mid → IsPart mid box → IsPart part box
part_of_part part mid box p q = record {
  from = λ j. omega (arith, p.from j, q.from j);
  to = λ j. omega (arith, p.to j, q.to j);
}

pub below_is_part : (box : List Span) (i m : ℕ) → IsSplit box i m → IsPart (below box i m) box
below_is_part box i m s = record {
  from = λ j. changed_at (λ j y. (span_of box j).from ≤ y.from) box i
      (record { from = (span_of box i).from; to = m }) s.number (omega arith) j (omega arith);
  to = λ j. changed_at (λ j y. y.to ≤ (span_of box j).to) box i
      (record { from = (span_of box i).from; to = m }) s.number (omega (arith, s.to)) j (omega arith);
}

pub above_is_part : (box : List Span) (i m : ℕ) → IsSplit box i m → IsPart (above box i m) box
above_is_part box i m s = record {
  from = λ j. changed_at (λ j y. (span_of box j).from ≤ y.from) box i
      (record { from = m + 1; to = (span_of box i).to }) s.number (omega (arith, s.from)) j (omega arith);
  to = λ j. changed_at (λ j y. y.to ≤ (span_of box j).to) box i
      (record { from = m + 1; to = (span_of box i).to }) s.number (omega arith) j (omega arith);
}

-- a plan of a part is one of the box
pub plan_of_part : (inst : Tables) (part box : List Span) (plan : List ℕ) → IsPart part box → IsPlanIn inst part plan
    → IsPlanIn inst box plan
plan_of_part inst part box plan p h = record {
  each = h.each;
  feasible = h.feasible;
  from = λ i l. omega (arith, p.from i, h.from i l);
  to = λ i l. omega (arith, p.to i, h.to i l);
}

-- ---- numbers of an interval that pass a test
within_range : (from n s : ℕ) → Contains (range_with_len from n) s → (from ≤ s) × (s < from + n)
within_range from n s (k, l, e) =
    let m : k < n = omega (arith, l, length-range_with_len from n) in
    let f = get_or-range_with_len from n k s m in
    (omega (arith, sym f ∙ e), omega (arith, sym f ∙ e, m))

in_range : (from n s : ℕ) → from ≤ s → s < from + n → Contains (range_with_len from n) s
in_range from n s f l =
    let k : s - from < n = omega (arith, f, l) in
    let e : from + (s - from) ≡ s = omega (arith, f) in
    (s - from, omega (arith, k, length-range_with_len from n), get_or-range_with_len from n (s - from) s k ∙ e)

kept_is_in : (p : ℕ → Bool) (xs : List ℕ) (s : ℕ) → Contains (filter p xs) s → Contains xs s × (p s ≡ true)
kept_is_in p xs s c = (
  All-contains (Contains xs) (filter p xs) s (All-filter p (Contains xs) xs (All-contains_itself xs)) c,
  All-contains (λ (x : ℕ). p x ≡ true) (filter p xs) s (filter_passes p xs) c,
)

is_kept : (p : ℕ → Bool) (xs : List ℕ) (s : ℕ) → Contains xs s → p s ≡ true → Contains (filter p xs) s
is_kept p [] s (k, l, e) t = absurd (omega (arith, l))
is_kept p (x ∷ xs) s (zero, l, e) t = subst (λ (y : ℕ). Contains (cond (p y) (y ∷ filter p xs) (filter p xs)) s)
    (sym e) (subst (λ (b : Bool). Contains (cond b (s ∷ filter p xs) (filter p xs)) s) (sym t)
    (zero, omega arith, refl))
is_kept p (x ∷ xs) s (suc k, l, e) t = at (p x) (is_kept p xs s (k, omega (arith, l), e) t)
  where
    at : (b : Bool) → Contains (filter p xs) s → Contains (cond b (x ∷ filter p xs) (filter p xs)) s
    at true (j, m, f) = (suc j, omega (arith, m), f)
    at false c = c

part_passes : (p : ℕ → Bool) (s : ℕ) (part span : Span) → span.from ≤ part.from → part.to ≤ span.to
    → Contains (filter p (range_with_len part.from (part.to + 1 - part.from))) s
    → Contains (filter p (range_with_len span.from (span.to + 1 - span.from))) s
part_passes p s part span f t c =
    let w = kept_is_in p (range_with_len part.from (part.to + 1 - part.from)) s c in
    let v = within_range part.from (part.to + 1 - part.from) s w.0 in
    is_kept p (range_with_len span.from (span.to + 1 - span.from)) s
    (in_range span.from (span.to + 1 - span.from) s (omega (arith, f, v.0)) (omega (arith, f, t, v.0, v.1))) w.1

-- ---- worths
least_of_part : (f : ℕ → ℤ) (ks js : List ℕ) → 0 < length js → ((s : ℕ) → Contains js s → Contains ks s)
    → least_over f ks ≤ℤ least_over f js
least_of_part f ks js some sub =
    let w = least_over_reached f js some in
    subst (λ (z : ℤ). least_over f ks ≤ℤ z) (sym w.2) (least_over_le f ks w.0 (sub w.0 w.1))

added_to : (a b c : ℤ) → a ≤ℤ b → (a +ℤ c) ≤ℤ (b +ℤ c)
added_to a b c h = omega (arith, signed_arith)

-- a part of a box has at least the worth of the box
worth_of_part : (table : PriceRows) (part box : List Span) → IsPart part box → IsPricedBox table part
    → worth_in table box ≤ℤ worth_in table part
unfolding worth_in priced_in
worth_of_part table part box p h =
    let price = λ (i s : ℕ). unwrap_or (entry_of table i s) (pos 0) in
    let whole = λ (i : ℕ). least_over (price i) (priced_in table i (span_of box i)) in
    let mine = λ (i : ℕ). least_over (price i) (priced_in table i (span_of part i)) in
    added_to (sum_below (length table.rows) whole) (sum_below (length table.rows) mine) table.fixed
    (sum_below_mono (length table.rows) whole mine
    (λ i l. least_of_part (price i) (priced_in table i (span_of box i)) (priced_in table i (span_of part i))
    (h.priced i (omega (arith, l, h.each)))
    (λ s c. part_passes (λ r. is_some (entry_of table i r)) s (span_of part i) (span_of box i) (p.from i) (p.to i)
    c)))

-- worths of which that is so for the boxes of an instance
abbrev pub GrowInParts : Tables → ℕ → Worths → Type 0
GrowInParts inst lists worths = (part box : List Span) (j : ℕ) → j ≤ lists → IsBox inst part → HasStarts inst part
    → IsPart part box → worths box j ≤ℤ worths part j

pub tables_grow : (inst : Tables) (tables : List PriceRows) → 0 < length tables → All (IsPricedTable inst) tables
    → GrowInParts inst (length tables - 1) (table_worths tables)
tables_grow inst tables some priced part box j l b s p =
    let none : PriceRows = record { rows = []; fixed = pos 0 } in
    worth_of_part (get_or tables j none) part box p (priced j none (omega (arith, some, l)) part b s)
