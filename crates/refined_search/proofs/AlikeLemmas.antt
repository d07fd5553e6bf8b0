-- Two refined price lists price alike exactly where their tables have the same rows and the same constant.
use Rattle.std.proofs.Common.{◌≡◌, ℕ, zero, suc, ◌+◌, ◌-◌, ◌<◌, ◌≤◌, refl, sym, ◌∙◌, ap, subst, arith, ℤ}
use Rattle.std.specs.Prelude.{Any}
use Rattle.std.proofs.Common.{List, [], ◌∷◌, length, get_or, map, Bool, true, false, IsTrue, cond, Option, Some, None}
use Rattle.std.specs.List.{range_with_len}
use Rattle.std.proofs.lemmas.List.FromFn.{get_or-map-range_with_len}
use Rattle.instance_model.specs.Tables.{Tables, tmax, is_allowed}
use Rattle.instance_model.proofs.EntryLemmas.{is_allowed_facts}
use Rattle.refined_prices.specs.RefinedLists.{RefinedList}
use Rattle.refined_prices.specs.RefinedWorth.{refined_price}
use Rattle.refined_prices.specs.tables.RefinedRows.{refined_entry, refined_row}
use Rattle.refined_search.specs.Alike.{PriceAlike}
use Rattle.refined_search.specs.Steps.{rows_of, AreRowsOf}

-- ---- functions that agree over a range

map_range : {A : Type 0} (f g : ℕ → A) (a n : ℕ) → ((k : ℕ) → a ≤ k → k < a + n → f k ≡ g k)
    → map f (range_with_len a n) ≡ map g (range_with_len a n)
map_range f g a zero h = refl
map_range {A} f g a (suc n) h =
    let rest = map_range f g (a + 1) n (λ k l m. h k (omega (arith, l)) (omega (arith, m))) in
    let here : f a ≡ g a = h a (omega arith) (omega arith) in
    ap (λ (x : A). x ∷ map f (range_with_len (a + 1) n)) here ∙ ap (λ (xs : List A). g a ∷ xs) rest

-- ---- the entries of one start

some_same : (x y : ℤ) → Some x ≡ Some y → x ≡ y
some_same x y e = cc

entry_price : (inst : Tables) (a b : RefinedList) (i s : ℕ) (allowed : Bool) → IsTrue allowed
    → cond allowed (Some (refined_price inst a i s)) None ≡ cond allowed (Some (refined_price inst b i s)) None
    → refined_price inst a i s ≡ refined_price inst b i s
entry_price inst a b i s true t e = some_same (refined_price inst a i s) (refined_price inst b i s) e
entry_price inst a b i s false t e = absurd (cc)

price_entry : (inst : Tables) (a b : RefinedList) (i s : ℕ) (allowed : Bool)
    → (IsTrue allowed → refined_price inst a i s ≡ refined_price inst b i s)
    → cond allowed (Some (refined_price inst a i s)) None ≡ cond allowed (Some (refined_price inst b i s)) None
price_entry inst a b i s true h = ap (λ (z : ℤ). Some z) (h refl)
price_entry inst a b i s false h = refl

-- ---- rows

rows_price : (inst : Tables) (a b : RefinedList) → rows_of inst a ≡ rows_of inst b → (i s : ℕ) → i < length inst.names
    → IsTrue (is_allowed inst i s) → refined_price inst a i s ≡ refined_price inst b i s
rows_price inst a b e i s l t =
    let facts = is_allowed_facts inst i s t in
    let row : refined_row inst a i ≡ refined_row inst b i =
    sym (get_or-map-range_with_len (refined_row inst a) 0 (length inst.names) i i [] l (omega arith))
    ∙ ap (λ (rows : List (List (Option ℤ))). get_or rows i []) e
    ∙ get_or-map-range_with_len (refined_row inst b) 0 (length inst.names) i i [] l (omega arith) in
    let one : 1 ≤ s = facts.0 in
    let few : s ≤ tmax inst i = facts.1 in
    let entry : refined_entry inst a i s ≡ refined_entry inst b i s =
    sym (get_or-map-range_with_len (refined_entry inst a i) 1 (tmax inst i) (s - 1) s None (omega (arith, one, few))
    (omega (arith, one)))
    ∙ ap (λ (row : List (Option ℤ)). get_or row (s - 1) None) row
    ∙ get_or-map-range_with_len (refined_entry inst b i) 1 (tmax inst i) (s - 1) s None (omega (arith, one, few))
    (omega (arith, one)) in
    entry_price inst a b i s (is_allowed inst i s) t entry

price_rows : (inst : Tables) (a b : RefinedList)
    → ((i s : ℕ) → i < length inst.names → IsTrue (is_allowed inst i s)
    → refined_price inst a i s ≡ refined_price inst b i s) → rows_of inst a ≡ rows_of inst b
price_rows inst a b h =
    map_range (refined_row inst a) (refined_row inst b) 0 (length inst.names) (λ i _ l.
    map_range (refined_entry inst a i) (refined_entry inst b i) 1 (tmax inst i) (λ s _ _.
    price_entry inst a b i s (is_allowed inst i s) (h i s (omega (arith, l)))))

-- ---- both ways

pub alike_from_rows : (inst : Tables) (other list : RefinedList) (rows : List (List (Option ℤ))) (constant : ℤ)
    → AreRowsOf inst list rows constant → AreRowsOf inst other rows constant → PriceAlike inst other list
alike_from_rows inst other list rows constant a b = record {
  prices = rows_price inst other list (sym b.rows_are ∙ a.rows_are);
  constant = sym b.constant_is ∙ a.constant_is;
}

pub rows_from_alike : (inst : Tables) (other list : RefinedList) (rows : List (List (Option ℤ))) (constant : ℤ)
    → AreRowsOf inst list rows constant → PriceAlike inst other list → AreRowsOf inst other rows constant
rows_from_alike inst other list rows constant a h = record {
  rows_are = a.rows_are ∙ sym (price_rows inst other list h.prices);
  constant_is = a.constant_is ∙ sym h.constant;
}

-- a list prices alike with itself
pub alike_itself : (inst : Tables) (list : RefinedList) → PriceAlike inst list list
alike_itself inst list = record { prices = λ i s l t. refl; constant = refl }

-- ---- one of several lists that prices alike, or none

pub any_first : {A : Type 0} (P : A → Type 0) (x : A) (xs : List A) → P x → Any P (x ∷ xs)
any_first P x xs p = (0, x, omega arith, refl, p)

pub any_behind : {A : Type 0} (P : A → Type 0) (y : A) (xs : List A) → Any P xs → Any P (y ∷ xs)
any_behind P y xs (k, x, l, e, p) = (suc k, x, omega (arith, l), e, p)

pub none_of_all : (inst : Tables) (list first : RefinedList) (lists : List RefinedList)
    → (PriceAlike inst first list → ⊥)
    → ((k : ℕ) (d : RefinedList) → k < length lists → PriceAlike inst (get_or lists k d) list → ⊥)
    → Any (λ other. PriceAlike inst other list) (first ∷ lists) → ⊥
none_of_all inst list first lists unlike none (zero, x, l, e, alike) =
    unlike (subst (λ (other : RefinedList). PriceAlike inst other list) (sym e) alike)
none_of_all inst list first lists unlike none (suc k, x, l, e, alike) =
    none k x (omega (arith, l)) (subst (λ (other : RefinedList). PriceAlike inst other list) (sym e) alike)
