-- Rows of prices, as the code fills them.
use Rattle.std.proofs.Common.{◌≡◌, ℕ, zero, suc, ◌+◌, ◌-◌, ◌*◌, ◌<◌, ◌≤◌, ◌^◌, refl, sym, ◌∙◌, ap, subst, arith, ℤ}
use Rattle.std.proofs.Common.{unsigned_abs, List, [], ◌∷◌, ◌++◌, length, get_or, map, Bool, true, false, Option, Some}
use Rattle.std.proofs.Common.{None, Vec}
use Rattle.std.specs.List.{range_with_len}
use Rattle.std.specs.declared.alloc.Global.{Global}
use Rattle.std.proofs.lemmas.List.{map-append}
use Rattle.std.proofs.lemmas.List.FromFn.{map-range_with_len_more}
use Rattle.fixed_num.proofs.Bits.{by_bits}
use Rattle.fixed_num.proofs.SignedLemmas.{back_from_abs}
use Rattle.instance_model.specs.Tables.{Tables, is_allowed, delta_of}
use Rattle.instance_model.specs.Fitting.{IsFitting}
use Rattle.instance_model.specs.Naturals.{count_sum}
use Rattle.duration_calendar.specs.declared.window.Window.{Window}
use Rattle.duration_calendar.specs.Windows.{run_of}
use Rattle.lagrange_bound.specs.Prices.{PriceList, IsPriceList}
use Rattle.lagrange_bound.specs.Worth.{price_of, ex_part}
use Rattle.lagrange_bound.specs.Lesser.{IsSmallPrice}
use Rattle.lagrange_bound.specs.ExSums.{ex_until, AreExSums, ArePrefixes, AreExBefore}
use Rattle.lagrange_bound.specs.Tabulated.{price_entry}
use Rattle.lagrange_bound.proofs.ExCountLemmas.{ex_few}
use Rattle.lagrange_bound.proofs.ExSumsLemmas.{prefix_is, ex_until_small, ex_part_until}

-- ---- one entry

-- what two sums before a run and at its end tell of its part
pub record IsRunPart (inst : Tables) (prices : PriceList) (i s low high : ℕ) : Type 0 where
  pub order : low ≤ high
  pub part : high - low ≡ ex_part inst prices.ex i s
  pub few : high - low ≤ 2 ^ 25 * 2_000_000_000

pub IsRunPart-from : (inst : Tables) (prices : PriceList) (i s : ℕ) (w : Window) (before : List ℕ) → IsFitting inst
    → IsPriceList inst prices → AreExBefore inst prices.ex i before → w ≡ run_of inst i s → 1 ≤ w.from → w.from ≤ w.past
    → w.past ≤ inst.periods + 1
    → IsRunPart inst prices i s (get_or before (w.from - 1) 0) (get_or before (w.past - 1) 0)
IsRunPart-from inst prices i s w before f h b is one order few =
    let from : w.from ≡ s = ap (λ (v : Window). v.from) is in
    let past : w.past ≡ s + delta_of inst i s = ap (λ (v : Window). v.past) is in
    let a : get_or before (w.from - 1) 0 ≡ ex_until inst prices.ex i (s - 1) =
    b.until (w.from - 1) (omega arith) ∙ ap (λ (n : ℕ). ex_until inst prices.ex i (n - 1)) from in
    let c : get_or before (w.past - 1) 0 ≡ ex_until inst prices.ex i ((s + delta_of inst i s) - 1) =
    b.until (w.past - 1) (omega arith) ∙ ap (λ (n : ℕ). ex_until inst prices.ex i (n - 1)) past in
    let part = ex_part_until inst prices.ex i s h.ex (omega (arith, from, one)) in
    let small = ex_until_small inst prices.ex i ((s + delta_of inst i s) - 1) h.ex in
    let count = ex_few inst prices f h in
    record {
      order = omega (arith, a, c, part);
      part = omega (arith, a, c, part);
      few = omega (arith, c, small, count);
    }

pub entry_refused : (base : ℕ → ℕ → ℤ) (inst : Tables) (prices : PriceList) (i s : ℕ) (b : Bool)
    → b ≡ is_allowed inst i s → b ≡ false → None ≡ price_entry base inst prices i s
entry_refused base inst prices i s b e q = let no : is_allowed inst i s ≡ false = sym e ∙ q in rw no refl

pub entry_priced : (base : ℕ → ℕ → ℤ) (inst : Tables) (prices : PriceList) (i s : ℕ) (b : Bool) (z : ℤ)
    → b ≡ is_allowed inst i s → b ≡ true → z ≡ price_of base inst prices i s
    → unsigned_abs z < 8_000_000_000_000_000_000_000_000_000_000_000
    → Some (by_bits z) ≡ price_entry base inst prices i s
entry_priced base inst prices i s b z e q is small =
    let yes : is_allowed inst i s ≡ true = sym e ∙ q in
    let back : by_bits z ≡ z = back_from_abs z (omega (arith, small)) in
    rw (yes, back, is) refl

pub entry_small : (z : ℤ) → unsigned_abs z < 8_000_000_000_000_000_000_000_000_000_000_000
    → unsigned_abs (by_bits z) < 8_000_000_000_000_000_000_000_000_000_000_000
entry_small z small = let back : by_bits z ≡ z = back_from_abs z (omega (arith, small)) in rw back small

-- ---- the sums of one intervention

pub AreExBefore-from : (inst : Tables) (prices : PriceList) (sums before : List ℕ) (i place n : ℕ)
    → IsPriceList inst prices → AreExSums inst prices.ex sums → i < length inst.names → n ≡ inst.periods → place ≡ i * n
    → ArePrefixes n sums place before → AreExBefore inst prices.ex i before
AreExBefore-from inst prices sums before i place n h s l en ep p =
    let place' : place ≡ i * inst.periods = ep ∙ ap (λ (m : ℕ). i * m) en in
    let p' : ArePrefixes inst.periods sums (i * inst.periods) before = subst
    (λ (m : ℕ). ArePrefixes m sums (i * inst.periods) before) en
    (subst (λ (k : ℕ). ArePrefixes n sums k before) place' p) in
    record {
      each = p'.each;
      until = λ t few. p'.until t few ∙ prefix_is inst prices.ex sums i t h.ex s l few;
    }

-- ---- lists that are pushed to

-- the entries so far are all small
pub AllSmall-none : (k : ℕ) → IsSmallPrice (get_or [] k None)
AllSmall-none k = tt

pub AllSmall-more : (xs ys : List (Option ℤ)) (x : Option ℤ) → ((k : ℕ) → IsSmallPrice (get_or xs k None))
    → IsSmallPrice x → ys ≡ xs ++ x ∷ [] → (k : ℕ) → IsSmallPrice (get_or ys k None)
AllSmall-more xs ys x all one is k =
    subst (λ (zs : List (Option ℤ)). IsSmallPrice (get_or zs k None)) (sym is) (at xs k all)
  where
    at : (zs : List (Option ℤ)) (j : ℕ) → ((k : ℕ) → IsSmallPrice (get_or zs k None))
        → IsSmallPrice (get_or (zs ++ x ∷ []) j None)
    at [] zero h = one
    at [] (suc j) h = tt
    at (z ∷ zs) zero h = h zero
    at (z ∷ zs) (suc j) h = at zs j (λ k. h (suc k))

pub row_more : (f : ℕ → Option ℤ) (s : ℕ) (xs ys : List (Option ℤ)) (x : Option ℤ) → 1 ≤ s
    → xs ≡ map f (range_with_len 1 (s - 1)) → x ≡ f s → ys ≡ xs ++ x ∷ [] → ys ≡ map f (range_with_len 1 ((s + 1) - 1))
row_more f s xs ys x one h e is =
    let n : (s + 1) - 1 ≡ (s - 1) + 1 = omega arith in
    is ∙ ap (λ (zs : List (Option ℤ)). zs ++ x ∷ []) h
    ∙ ap (λ (z : Option ℤ). map f (range_with_len 1 (s - 1)) ++ z ∷ []) e
    ∙ sym (map-range_with_len_more f 1 (s - 1) s (omega arith)) ∙ ap (λ (m : ℕ). map f (range_with_len 1 m)) (sym n)

-- ---- rows that are pushed to

abbrev pub items_of : List (Vec (Option ℤ) Global) → List (List (Option ℤ))
items_of rows = map (λ row. row.items) rows

-- each entry of each row is small
abbrev pub AllRowsSmall : List (List (Option ℤ)) → Type 0
AllRowsSmall rows = (i k : ℕ) → IsSmallPrice (get_or (get_or rows i []) k None)

pub rows_more : (f : ℕ → List (Option ℤ)) (i : ℕ) (xs ys : List (Vec (Option ℤ) Global)) (x : Vec (Option ℤ) Global)
    → items_of xs ≡ map f (range_with_len 0 i) → x.items ≡ f i → ys ≡ xs ++ x ∷ []
    → items_of ys ≡ map f (range_with_len 0 (i + 1))
rows_more f i xs ys x h e is =
    ap items_of is ∙ map-append (λ (row : Vec (Option ℤ) Global). row.items) xs (x ∷ [])
    ∙ ap (λ (zs : List (List (Option ℤ))). zs ++ x.items ∷ []) h
    ∙ ap (λ (z : List (Option ℤ)). map f (range_with_len 0 i) ++ z ∷ []) e
    ∙ sym (map-range_with_len_more f 0 i i (omega arith))

pub AllRowsSmall-more : (xs ys : List (Vec (Option ℤ) Global)) (x : Vec (Option ℤ) Global) → AllRowsSmall (items_of xs)
    → ((k : ℕ) → IsSmallPrice (get_or x.items k None)) → ys ≡ xs ++ x ∷ [] → AllRowsSmall (items_of ys)
AllRowsSmall-more xs ys x all one is i k = subst
    (λ (zs : List (Vec (Option ℤ) Global)). IsSmallPrice (get_or (get_or (items_of zs) i []) k None)) (sym is)
    (at xs i all)
  where
    at : (zs : List (Vec (Option ℤ) Global)) (j : ℕ) → AllRowsSmall (items_of zs)
        → IsSmallPrice (get_or (get_or (items_of (zs ++ x ∷ [])) j []) k None)
    at [] zero h = one k
    at [] (suc j) h = tt
    at (z ∷ zs) zero h = h zero k
    at (z ∷ zs) (suc j) h = at zs j (λ i k. h (suc i) k)

pub prefix_small : (inst : Tables) (prices : PriceList) (sums : List ℕ) (i n t : ℕ) → IsFitting inst
    → IsPriceList inst prices → AreExSums inst prices.ex sums → i < length inst.names → n ≡ inst.periods → t ≤ n
    → count_sum t (λ u. get_or sums (i * n + u) 0) ≤ 2 ^ 62
prefix_small inst prices sums i n t f h s l e few =
    let is : count_sum t (λ u. get_or sums (i * inst.periods + u) 0) ≡ ex_until inst prices.ex i t =
    prefix_is inst prices.ex sums i t h.ex s l (omega (arith, few, e)) in
    let same : count_sum t (λ u. get_or sums (i * n + u) 0) ≡ count_sum t (λ u. get_or sums (i * inst.periods + u) 0) =
    ap (λ (m : ℕ). count_sum t (λ u. get_or sums (i * m + u) 0)) e in
    let small = ex_until_small inst prices.ex i t h.ex in
    let count = ex_few inst prices f h in
    omega (arith, is, same, small, count)
