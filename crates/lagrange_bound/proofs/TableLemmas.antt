-- The table of any prices by start, as those of a price list: what it holds, and that its worths are by these prices.
use Rattle.std.proofs.Common.{◌≡◌, ℕ, zero, suc, ◌+◌, ◌-◌, ◌<◌, ◌≤◌, ◌^◌, ◌⊎◌, inl, inr, refl, sym, ◌∙◌, ap, subst}
use Rattle.std.proofs.Common.{arith, ℤ, pos, ◌+ℤ◌, unsigned_abs, List, [], ◌∷◌, length, get_or, map, filter, fold}
use Rattle.std.proofs.Common.{Bool, true, false, IsTrue, cond, Option, Some, None, is_some, unwrap_or, Vec}
use Rattle.std.specs.List.{range_with_len, AllByRecursion}
use Rattle.std.specs.Int.{int_min}
use Rattle.std.specs.declared.alloc.Global.{Global}
use Rattle.std.proofs.lemmas.List.{length-map, get_or_past}
use Rattle.std.proofs.lemmas.List.FromFn.{length-map-range_with_len, get_or-map-range_with_len}
use Rattle.fixed_num.specs.Sums.{sum_below}
use Rattle.fixed_num.proofs.SumLemmas.{sum_below_same}
use Rattle.fixed_num.proofs.Bits.{by_bits}
use Rattle.fixed_num.proofs.SignedLemmas.{back_from_abs}
use Rattle.instance_model.specs.Tables.{Tables, tmax, is_allowed}
use Rattle.lagrange_bound.specs.declared.span.Span.{Span}
use Rattle.lagrange_bound.specs.Least.{least_over}
use Rattle.lagrange_bound.specs.Lesser.{IsSmallPrice}
use Rattle.lagrange_bound.specs.Prices.{PriceList}
use Rattle.lagrange_bound.specs.Boxes.{span_of, starts_in, IsBox, HasStarts}
use Rattle.lagrange_bound.specs.Worth.{price_of, fixed_part, worth_of}
use Rattle.lagrange_bound.specs.Pricings.{Pricing, pricing_of, pricing_worth}
use Rattle.lagrange_bound.specs.Tabulated.{PriceRows, row_of, entry_of, entry_by, row_by, rows_by, table_of, priced_in}
use Rattle.lagrange_bound.specs.Tabulated.{IsPricedBox, worth_in}
use Rattle.lagrange_bound.specs.PricedTables.{IsPricingTable}
use Rattle.lagrange_bound.proofs.RowLemmas.{items_of, AllRowsSmall}

-- ---- what the code fills

pub row_count : (price : ℕ → ℕ → ℤ) (inst : Tables) (rows : List (Vec (Option ℤ) Global))
    → items_of rows ≡ rows_by price inst → length rows ≡ length inst.names
row_count price inst rows e = sym (length-map rows (λ (row : Vec (Option ℤ) Global). row.items)) ∙ ap length e
    ∙ length-map-range_with_len (row_by price inst) 0 (length inst.names)

entry_small : (price : ℕ → ℕ → ℤ) (inst : Tables) (i s : ℕ) (b : Bool)
    → (IsTrue b → unsigned_abs (price i s) < 8_000_000_000_000_000_000_000_000_000_000_000)
    → IsSmallPrice (cond b (Some (price i s)) None)
entry_small price inst i s true h = h refl
entry_small price inst i s false h = tt

order : (a b : ℕ) → (a ≤ b) ⊎ (b < a)
order a b = grind arith

-- the entries are small where the prices of allowed starts are
pub rows_small : (price : ℕ → ℕ → ℤ) (inst : Tables) (rows : List (List (Option ℤ)))
    → ((i s : ℕ) → i < length inst.names → IsTrue (is_allowed inst i s)
    → unsigned_abs (price i s) < 8_000_000_000_000_000_000_000_000_000_000_000)
    → rows ≡ rows_by price inst → AllRowsSmall rows
rows_small price inst rows small e i k =
    subst (λ (xs : List (List (Option ℤ))). IsSmallPrice (get_or (get_or xs i []) k None)) (sym e)
    (at (order (length inst.names) i))
  where
    in_row : i < length inst.names → (tmax inst i ≤ k) ⊎ (k < tmax inst i)
        → IsSmallPrice (get_or (row_by price inst i) k None)
    in_row l (inl m) =
        let each = length-map-range_with_len (entry_by price inst i) 1 (tmax inst i) in
        rw (get_or_past (row_by price inst i) k None (omega (arith, m, each))) tt
    in_row l (inr m) =
        rw (get_or-map-range_with_len (entry_by price inst i) 1 (tmax inst i) k (k + 1) None m (omega arith))
        (entry_small price inst i (k + 1) (is_allowed inst i (k + 1)) (small i (k + 1) l))

    at : (length inst.names ≤ i) ⊎ (i < length inst.names)
        → IsSmallPrice (get_or (get_or (rows_by price inst) i []) k None)
    at (inl m) =
        let each = length-map-range_with_len (row_by price inst) 0 (length inst.names) in
        rw (get_or_past (rows_by price inst) i [] (omega (arith, m, each))) tt
    at (inr l) =
        rw (get_or-map-range_with_len (row_by price inst) 0 (length inst.names) i i [] l (omega arith))
        (in_row l (order (tmax inst i) k))

-- a small constant comes back from its bits
pub constant_back : (z w : ℤ) → z ≡ w → unsigned_abs w < 10 ^ 36
    → (by_bits z ≡ w) × (unsigned_abs (by_bits z) < 10 ^ 36)
constant_back z w e h =
    let back : by_bits z ≡ w = ap by_bits e ∙ back_from_abs w (omega (arith, h)) in
    (back, subst (λ (x : ℤ). unsigned_abs x < 10 ^ 36) (sym back) h)

-- ---- the entries of a table

rows_each : (price : ℕ → ℕ → ℤ) (inst : Tables) (table : PriceRows) → table.rows ≡ rows_by price inst
    → length table.rows ≡ length inst.names
rows_each price inst table e = ap length e ∙ length-map-range_with_len (row_by price inst) 0 (length inst.names)

row_at : (price : ℕ → ℕ → ℤ) (inst : Tables) (table : PriceRows) (i : ℕ) → table.rows ≡ rows_by price inst
    → i < length inst.names → row_of table i ≡ row_by price inst i
row_at price inst table i e l =
    ap (λ (rows : List (List (Option ℤ))). get_or rows i []) e
    ∙ get_or-map-range_with_len (row_by price inst) 0 (length inst.names) i i [] l (omega arith)

row_length : (price : ℕ → ℕ → ℤ) (inst : Tables) (table : PriceRows) (i : ℕ) → table.rows ≡ rows_by price inst
    → i < length inst.names → length (row_of table i) ≡ tmax inst i
row_length price inst table i e l =
    ap length (row_at price inst table i e l) ∙ length-map-range_with_len (entry_by price inst i) 1 (tmax inst i)

entry_at : (price : ℕ → ℕ → ℤ) (inst : Tables) (table : PriceRows) (i s : ℕ) → table.rows ≡ rows_by price inst
    → i < length inst.names → 1 ≤ s → s ≤ tmax inst i → entry_of table i s ≡ entry_by price inst i s
entry_at price inst table i s e l one few =
    ap (λ (row : List (Option ℤ)). get_or row (s - 1) None) (row_at price inst table i e l)
    ∙ get_or-map-range_with_len (entry_by price inst i) 1 (tmax inst i) (s - 1) s None (omega arith) (omega arith)

entry_is_some : (price : ℕ → ℕ → ℤ) (inst : Tables) (i s : ℕ)
    → is_some (entry_by price inst i s) ≡ is_allowed inst i s
entry_is_some price inst i s = at (is_allowed inst i s)
  where
    at : (b : Bool) → is_some (cond b (Some (price i s)) None) ≡ b
    at true = refl
    at false = refl

entry_value : (price : ℕ → ℕ → ℤ) (inst : Tables) (i s : ℕ) → is_allowed inst i s ≡ true
    → unwrap_or (entry_by price inst i s) (pos 0) ≡ price i s
entry_value price inst i s e = rw e refl

-- ---- over a range

-- two tests that agree on a range keep the same of it
pub filter_range : (p q : ℕ → Bool) (a n : ℕ) → ((k : ℕ) → a ≤ k → k < a + n → p k ≡ q k)
    → filter p (range_with_len a n) ≡ filter q (range_with_len a n)
filter_range p q a zero h = refl
filter_range p q a (suc n) h =
    let here : p a ≡ q a = h a (omega arith) (omega arith) in
    let rest = filter_range p q (a + 1) n (λ k l m. h k (omega (arith, l)) (omega (arith, m))) in
    ap (λ (xs : List ℕ). cond (p a) (a ∷ xs) xs) rest
    ∙ ap (λ (b : Bool). cond b (a ∷ filter q (range_with_len (a + 1) n)) (filter q (range_with_len (a + 1) n))) here

pub kept_agree : (p : ℕ → Bool) (f g : ℕ → ℤ) (a n : ℕ) → ((k : ℕ) → a ≤ k → k < a + n → p k ≡ true → f k ≡ g k)
    → AllByRecursion (λ k. f k ≡ g k) (filter p (range_with_len a n))
kept_agree p f g a zero h = tt
kept_agree p f g a (suc n) h =
    at (p a) refl (kept_agree p f g (a + 1) n (λ k l m e. h k (omega (arith, l)) (omega (arith, m)) e))
  where
    at : (b : Bool) → p a ≡ b → AllByRecursion (λ k. f k ≡ g k) (filter p (range_with_len (a + 1) n))
        → AllByRecursion (λ k. f k ≡ g k)
        (cond b (a ∷ filter p (range_with_len (a + 1) n)) (filter p (range_with_len (a + 1) n)))
    at true e rest = (h a (omega arith) (omega arith) e, rest)
    at false e rest = rest

map_agree : (f g : ℕ → ℤ) (xs : List ℕ) → AllByRecursion (λ k. f k ≡ g k) xs → map f xs ≡ map g xs
map_agree f g [] h = refl
map_agree f g (x ∷ xs) h = rw (h.0, map_agree f g xs h.1) refl

pub least_agree : (f g : ℕ → ℤ) (xs : List ℕ) → AllByRecursion (λ k. f k ≡ g k) xs → least_over f xs ≡ least_over g xs
unfolding least_over
least_agree f g [] h = refl
least_agree f g (x ∷ xs) h =
    ap (λ (z : ℤ). fold int_min z (map f xs)) h.0 ∙ ap (λ (zs : List ℤ). fold int_min (g x) zs) (map_agree f g xs h.1)

-- ---- over a box

priced_is : (price : ℕ → ℕ → ℤ) (inst : Tables) (table : PriceRows) (i : ℕ) (span : Span)
    → table.rows ≡ rows_by price inst → i < length inst.names → 1 ≤ span.from → span.to ≤ tmax inst i
    → priced_in table i span ≡ starts_in inst i span
unfolding priced_in starts_in
priced_is price inst table i span e l from to =
    filter_range (λ s. is_some (entry_of table i s)) (is_allowed inst i) span.from (span.to + 1 - span.from)
    (λ s a b. ap is_some (entry_at price inst table i s e l (omega arith) (omega arith)) ∙ entry_is_some price inst i s)

least_is : (price : ℕ → ℕ → ℤ) (inst : Tables) (table : PriceRows) (i : ℕ) (span : Span)
    → table.rows ≡ rows_by price inst → i < length inst.names → 1 ≤ span.from → span.to ≤ tmax inst i
    → least_over (λ s. unwrap_or (entry_of table i s) (pos 0)) (priced_in table i span)
    ≡ least_over (price i) (starts_in inst i span)
unfolding starts_in
least_is price inst table i span e l from to =
    ap (least_over (λ s. unwrap_or (entry_of table i s) (pos 0))) (priced_is price inst table i span e l from to)
    ∙ least_agree (λ s. unwrap_or (entry_of table i s) (pos 0)) (price i) (starts_in inst i span)
    (kept_agree (is_allowed inst i) (λ s. unwrap_or (entry_of table i s) (pos 0)) (price i) span.from
    (span.to + 1 - span.from)
    (λ s a b yes. ap (λ (o : Option ℤ). unwrap_or o (pos 0)) (entry_at price inst table i s e l (omega arith)
    (omega arith)) ∙ entry_value price inst i s yes))

priced_box : (price : ℕ → ℕ → ℤ) (inst : Tables) (table : PriceRows) (box : List Span)
    → table.rows ≡ rows_by price inst → IsBox inst box → HasStarts inst box → IsPricedBox table box
priced_box price inst table box e h starts = record {
  each = h.each ∙ sym (rows_each price inst table e);
  from = λ i l. h.from i (omega (arith, l, h.each));
  to = λ i l. let w : i < length inst.names = omega (arith, l, h.each) in
      omega (arith, row_length price inst table i e w, h.to i w);
  priced = λ i l. let w : i < length inst.names = omega (arith, l, h.each) in
      subst (λ (xs : List ℕ). 0 < length xs)
      (sym (priced_is price inst table i (span_of box i) e w (h.from i w) (h.to i w))) (starts i w);
}

worths_are : (inst : Tables) (pricing : Pricing) (table : PriceRows) (box : List Span)
    → table.rows ≡ rows_by pricing.price inst → table.fixed ≡ pricing.constant → IsBox inst box
    → worth_in table box ≡ pricing_worth inst pricing box
unfolding worth_in pricing_worth
worths_are inst pricing table box e f h =
    ap (λ (z : ℤ). z +ℤ table.fixed) sums
    ∙ ap (λ (z : ℤ). sum_below (length inst.names) leasts +ℤ z) f
  where
    terms : ℕ → ℤ
    terms i = least_over (λ s. unwrap_or (entry_of table i s) (pos 0)) (priced_in table i (span_of box i))

    leasts : ℕ → ℤ
    leasts i = least_over (pricing.price i) (starts_in inst i (span_of box i))

    sums : sum_below (length table.rows) terms ≡ sum_below (length inst.names) leasts
    sums = ap (λ (n : ℕ). sum_below n terms) (rows_each pricing.price inst table e)
        ∙ sum_below_same (length inst.names) terms leasts
        (λ i l. least_is pricing.price inst table i (span_of box i) e l (h.from i l) (h.to i l))

-- a table of these rows and this constant
pub IsPricingTable-from : (inst : Tables) (pricing : Pricing) (table : PriceRows)
    → table.rows ≡ rows_by pricing.price inst → table.fixed ≡ pricing.constant → IsPricingTable inst pricing table
IsPricingTable-from inst pricing table e f = record {
  boxes = λ box h starts. priced_box pricing.price inst table box e h starts;
  worths = λ box h starts. worths_are inst pricing table box e f h;
}

-- ---- the table of a price list

pub table_is : (base : ℕ → ℕ → ℤ) (inst : Tables) (prices : PriceList) (table : PriceRows)
    → table.rows ≡ rows_by (price_of base inst prices) inst → table.fixed ≡ fixed_part inst prices
    → table ≡ table_of base inst prices
unfolding table_of
table_is base inst prices table e f = at table.rows table.fixed e f
  where
    at : (rows : List (List (Option ℤ))) (fixed : ℤ) → rows ≡ rows_by (price_of base inst prices) inst
        → fixed ≡ fixed_part inst prices
        → ◌≡◌ {A = PriceRows} (record { rows = rows; fixed = fixed }) (record {
          rows = rows_by (price_of base inst prices) inst;
          fixed = fixed_part inst prices;
        })
    at rows fixed a b = rw (a, b) refl

-- the worth by a price list is that by its prices of starts and its constant
pub worth_is_by : (base : ℕ → ℕ → ℤ) (inst : Tables) (prices : PriceList) (box : List Span)
    → pricing_worth inst (pricing_of base inst prices) box ≡ worth_of base inst prices box
unfolding worth_of pricing_worth
worth_is_by base inst prices box = refl
