-- The least price of an interval, found entry by entry.
use Rattle.std.proofs.Common.{◌≡◌, ℕ, zero, suc, ◌+◌, ◌-◌, ◌*◌, ◌<◌, ◌≤◌, ◌^◌, refl, sym, ◌∙◌, ap, arith, ℤ, pos, ◌+ℤ◌}
use Rattle.std.proofs.Common.{unsigned_abs, List, [], ◌∷◌, ◌++◌, length, get_or, map, filter, Bool, true, false, Option}
use Rattle.std.proofs.Common.{Some, None, is_some, unwrap_or, fold, add-one, Vec}
use Rattle.std.specs.List.{range_with_len}
use Rattle.std.specs.Int.{int_min}
use Rattle.std.specs.declared.alloc.Global.{Global}
use Rattle.std.proofs.lemmas.List.{map-append, append-nil, length-map}
use Rattle.std.proofs.lemmas.List.Sums.{fold_push}
use Rattle.std.proofs.lemmas.List.Elements.{filter-append}
use Rattle.fixed_num.specs.Sums.{sum_below}
use Rattle.fixed_num.proofs.Bits.{by_bits}
use Rattle.fixed_num.proofs.SignedLemmas.{back_from_abs}
use Rattle.fixed_num.proofs.SumLemmas.{abs-sum}
use Rattle.lagrange_bound.specs.declared.span.Span.{Span}
use Rattle.lagrange_bound.specs.declared.table.PriceTable.TheInside.{Inside}
use Rattle.lagrange_bound.specs.Least.{least_over}
use Rattle.lagrange_bound.specs.Lesser.{lesser_of, least_entry, IsSmallPrice}
use Rattle.lagrange_bound.specs.Boxes.{span_of}
use Rattle.lagrange_bound.specs.Tabulated.{PriceRows, row_of, entry_of, priced_in, worth_in}
use Rattle.lagrange_bound.specs.Small.{view_of}

pub least_entry-none : (f : ℕ → Option ℤ) (k : ℕ) → least_entry f k 0 ≡ None
unfolding least_entry
least_entry-none f k = refl

least_entry-suc : (f : ℕ → Option ℤ) (k n : ℕ) → least_entry f k (suc n) ≡ lesser_of (least_entry f k n) (f (k + n))
unfolding least_entry
least_entry-suc f k n = refl

pub least_entry_more : (f : ℕ → Option ℤ) (k n : ℕ)
    → least_entry f k (n + 1) ≡ lesser_of (least_entry f k n) (f (k + n))
least_entry_more f k n = rw add-one (least_entry-suc f k n)

range_more : (a n : ℕ) → range_with_len a (suc n) ≡ range_with_len a n ++ (a + n) ∷ []
range_more a zero = let e : a ≡ a + 0 = omega arith in ap (λ (m : ℕ). m ∷ []) e
range_more a (suc n) =
    let ih = range_more (a + 1) n in
    let e : (a + 1) + n ≡ a + suc n = omega arith in
    ap (λ (xs : List ℕ). a ∷ xs) (ih ∙ ap (λ (m : ℕ). range_with_len (a + 1) n ++ m ∷ []) e)

-- the least over a list, or nothing for none
least_some : (ℕ → ℤ) → List ℕ → Option ℤ
least_some g [] = None
least_some g (k ∷ ks) = Some (least_over g (k ∷ ks))

unwrap_least_some : (g : ℕ → ℤ) (xs : List ℕ) → unwrap_or (least_some g xs) (pos 0) ≡ least_over g xs
unfolding least_over least_some
unwrap_least_some g [] = refl
unwrap_least_some g (k ∷ ks) = refl

least_some_push : (g : ℕ → ℤ) (xs : List ℕ) (y : ℕ)
    → least_some g (xs ++ y ∷ []) ≡ lesser_of (least_some g xs) (Some (g y))
unfolding least_over least_some lesser_of
least_some_push g [] y = refl
least_some_push g (k ∷ ks) y =
    ap Some (ap (fold int_min (g k)) (map-append g ks (y ∷ [])) ∙ fold_push int_min (g k) (map g ks) (g y))

lesser_none : (q : Option ℤ) → lesser_of q None ≡ q
unfolding lesser_of
lesser_none None = refl
lesser_none (Some a) = refl

-- the price of a start, and the test that it has one, by place
abbrev value_at : (ℕ → Option ℤ) → ℕ → ℤ
value_at f s = unwrap_or (f (s - 1)) (pos 0)

abbrev has_at : (ℕ → Option ℤ) → ℕ → Bool
has_at f s = is_some (f (s - 1))

one_more : (f : ℕ → Option ℤ) (xs : List ℕ) (j : ℕ) (o : Option ℤ) → f (j - 1) ≡ o
    → lesser_of (least_some (value_at f) xs) o ≡ least_some (value_at f) (xs ++ filter (has_at f) (j ∷ []))
one_more f xs j None e =
    let no : has_at f j ≡ false = rw e refl in
    rw no (lesser_none (least_some (value_at f) xs) ∙ ap (least_some (value_at f)) (sym (append-nil xs)))
one_more f xs j (Some z) e =
    let yes : has_at f j ≡ true = rw e refl in
    let v : value_at f j ≡ z = rw e refl in
    rw yes (sym (least_some_push (value_at f) xs j ∙ ap (λ (y : ℤ). lesser_of (least_some (value_at f) xs) (Some y)) v))

-- the least entry is the least over the starts that have an entry
entries_least : (f : ℕ → Option ℤ) (a n : ℕ)
    → least_entry f a n ≡ least_some (value_at f) (filter (has_at f) (range_with_len (a + 1) n))
unfolding least_some
entries_least f a zero = least_entry-none f a
entries_least f a (suc n) =
    let ih = entries_least f a n in
    let grown : filter (has_at f) (range_with_len (a + 1) (suc n)) ≡ filter (has_at f) (range_with_len (a + 1)
    n) ++ filter (has_at f) (((a + 1) + n) ∷ []) = ap (filter (has_at f)) (range_more (a + 1) n)
    ∙ filter-append (has_at f) (range_with_len (a + 1) n) (((a + 1) + n) ∷ []) in
    let place : ((a + 1) + n) - 1 ≡ a + n = omega arith in
    least_entry-suc f a n ∙ ap (λ (o : Option ℤ). lesser_of o (f (a + n))) ih
    ∙ one_more f (filter (has_at f) (range_with_len (a + 1) n)) ((a + 1) + n) (f (a + n)) (ap f place)
    ∙ ap (least_some (value_at f)) (sym grown)

pub least_entry_is : (f : ℕ → Option ℤ) (a n : ℕ) → unwrap_or (least_entry f a n) (pos 0)
    ≡ least_over (λ s. unwrap_or (f (s - 1)) (pos 0)) (filter (λ s. is_some (f (s - 1))) (range_with_len (a + 1) n))
least_entry_is f a n = ap (λ (o : Option ℤ). unwrap_or o (pos 0)) (entries_least f a n)
    ∙ unwrap_least_some (value_at f) (filter (has_at f) (range_with_len (a + 1) n))

-- ---- over a table

-- the entries of a row as the code has them
pub row_read : (rows : List (Vec (Option ℤ) Global)) (i : ℕ) (v : Vec (Option ℤ) Global) → i < length rows
    → v ≡ get_or rows i v → get_or (map (λ r. r.items) rows) i [] ≡ v.items
row_read [] i v h e = absurd (omega (arith, h))
row_read (x ∷ rows) zero v h e = sym (ap (λ (y : Vec (Option ℤ) Global). y.items) e)
row_read (x ∷ rows) (suc i) v h e = row_read rows i v (omega (arith, h)) e

pub row_count : (a : Inside) (table : PriceRows) → view_of a ≡ table → length a.rows.items ≡ length table.rows
row_count a table e =
    sym (length-map a.rows.items (λ (r : Vec (Option ℤ) Global). r.items)) ∙ ap (λ (t : PriceRows). length t.rows) e

pub least_is : (table : PriceRows) (i : ℕ) (row : List (Option ℤ)) (span : Span) (r : ℤ) → row_of table i ≡ row
    → 1 ≤ span.from → r ≡ unwrap_or (least_entry (λ k. get_or row k None) (span.from - 1) (span.to - (span.from - 1)))
    (pos 0) → r ≡ least_over (λ s. unwrap_or (entry_of table i s) (pos 0)) (priced_in table i span)
unfolding priced_in
least_is table i row span r is from e =
    let first : (span.from - 1) + 1 ≡ span.from = omega arith in
    let many : span.to - (span.from - 1) ≡ span.to + 1 - span.from = omega arith in
    e ∙ least_entry_is (λ k. get_or row k None) (span.from - 1) (span.to - (span.from - 1)) ∙ rw (first, many, is) refl

-- ---- the loop over the entries of an interval

pub least_loop_none : (f : ℕ → Option ℤ) (a : ℕ) → None ≡ least_entry f a (a - a)
least_loop_none f a = let e : a - a ≡ 0 = omega arith in sym (ap (least_entry f a) e ∙ least_entry-none f a)

pub least_loop_more : (f : ℕ → Option ℤ) (a k : ℕ) (best new : Option ℤ) → a ≤ k → best ≡ least_entry f a (k - a)
    → new ≡ lesser_of best (f k) → new ≡ least_entry f a ((k + 1) - a)
least_loop_more f a k best new l h e =
    let m : (k + 1) - a ≡ (k - a) + 1 = omega arith in
    let p : a + (k - a) ≡ k = omega arith in
    e ∙ ap (λ (o : Option ℤ). lesser_of o (f k)) h ∙ ap (λ (j : ℕ). lesser_of (least_entry f a (k - a)) (f j)) (sym p)
    ∙ sym (least_entry_more f a (k - a)) ∙ ap (least_entry f a) (sym m)

pub loop_end : (a k b : ℕ) → a ≤ k → b ≤ k → (b < k → k ≡ a) → k - a ≡ b - a
loop_end a k b h l s = grind arith

pub least_loop_all : (f : ℕ → Option ℤ) (a k b : ℕ) (best : Option ℤ) (r : ℤ) → best ≡ least_entry f a (k - a)
    → k - a ≡ b - a → IsSmallPrice best → r ≡ unwrap_or best (pos 0)
    → by_bits r ≡ unwrap_or (least_entry f a (b - a)) (pos 0)
least_loop_all f a k b best r h e small is =
    back_from_abs r (rw is (small_value best small)) ∙ is
    ∙ ap (λ (o : Option ℤ). unwrap_or o (pos 0)) (h ∙ ap (least_entry f a) e)
  where
    small_value : (o : Option ℤ) → IsSmallPrice o → unsigned_abs (unwrap_or o (pos 0)) < 2 ^ 127
    small_value None s = omega arith
    small_value (Some z) s = omega (arith, s)

-- ---- the worth of a box

pub worth_is : (table : PriceRows) (box : List Span) (sum fixed : ℤ) → fixed ≡ table.fixed
    → sum ≡ sum_below (length table.rows) (λ i. least_over (λ s. unwrap_or (entry_of table i s) (pos 0))
    (priced_in table i (span_of box i))) → unsigned_abs sum ≤ 1024 * 8_000_000_000_000_000_000_000_000_000_000_000
    → unsigned_abs fixed < 10 ^ 36 → by_bits (by_bits sum +ℤ by_bits fixed) ≡ worth_in table box
unfolding worth_in
worth_is table box sum fixed p q h k =
    let a : by_bits sum ≡ sum = back_from_abs sum (omega (arith, h)) in
    let b : by_bits fixed ≡ fixed = back_from_abs fixed (omega (arith, k)) in
    let d : by_bits (sum +ℤ fixed) ≡ sum +ℤ fixed =
    back_from_abs (sum +ℤ fixed) (omega (arith, abs-sum sum fixed, h, k)) in
    rw (a, b, d)
    (ap (λ (x : ℤ). x +ℤ fixed) q
    ∙ ap (λ (x : ℤ). sum_below (length table.rows) (λ i. least_over (λ s. unwrap_or (entry_of table i s) (pos 0))
    (priced_in table i (span_of box i))) +ℤ x) p)
