-- The least and the greatest load of an interval and of a box, as the code finds them.
use Rattle.std.proofs.Common.{◌≡◌, ℕ, ◌+◌, ◌-◌, ◌<◌, ◌≤◌, refl, sym, ◌∙◌, ap, subst, arith, ℤ, pos, ◌<ℤ◌, ◌⊎◌, inl, inr}
use Rattle.std.proofs.Common.{Bool, true, false, cond, List, [], ◌∷◌, ◌++◌, length, map, fold, filter, Option, Some}
use Rattle.std.proofs.Common.{None, IsTrue, int_lt, unsigned_abs}
use Rattle.std.specs.List.{range_with_len}
use Rattle.std.specs.Int.{int_min, int_max}
use Rattle.std.proofs.lemmas.List.{map-append}
use Rattle.std.proofs.lemmas.List.Sums.{fold-append}
use Rattle.std.proofs.lemmas.List.FromFn.{filter_of_map_range_with_len_more}
use Rattle.std.proofs.Math.Nat.{eq-or-lt_of_le}
use borrow.Author.Differences.{below_in, lt_out, lt-true, true_is_lt}
use Rattle.fixed_num.proofs.Bits.{by_bits}
use Rattle.fixed_num.proofs.SignedLemmas.{back_from_abs}
use Rattle.instance_model.specs.Tables.{Tables, is_allowed, in_run, load_of, upper_of, lower_of}
use Rattle.instance_model.specs.Plans.{load_at}
use Rattle.lagrange_bound.specs.declared.span.Span.{Span}
use Rattle.lagrange_bound.specs.Least.{least_over}
use Rattle.lagrange_bound.specs.Boxes.{span_of, starts_in, HasStarts}
use Rattle.certificate_lines.specs.declared.line.Side.{Side}
use Rattle.certificate_lines.specs.declared.line.Side.TheVariants.{Over, Under}
use Rattle.certificate_tree.specs.Loads.{greatest_over, load_by_start, least_load, greatest_load}
use Rattle.certificate_tree.specs.Extremes.{extreme_with, extreme_over, some_extreme, extreme_load}
use Rattle.certificate_tree.specs.Holding.{BandHolds}

-- ---- the load at a start
pub load_idle : (inst : Tables) (c t i s : ℕ) (b : Bool) (z : ℤ) → b ≡ in_run inst i s t → b ≡ false → z ≡ pos 0
    → z ≡ load_by_start inst c t i s
unfolding load_at
load_idle inst c t i s b z e n h = rw (sym e, n) h

pub load_running : (inst : Tables) (c t i s : ℕ) (b : Bool) (z : ℤ) → b ≡ in_run inst i s t → b ≡ true
    → z ≡ load_of inst i s c t → z ≡ load_by_start inst c t i s
unfolding load_at
load_running inst c t i s b z e n h = rw (sym e, n) h

-- ---- one more start
map_same : (xs : List ℕ) → map (λ i. i) xs ≡ xs
map_same [] = refl
map_same (x ∷ xs) = ap (λ (ys : List ℕ). x ∷ ys) (map_same xs)

filter_more : (p : ℕ → Bool) (a n j : ℕ) → a + n ≡ j
    → filter p (range_with_len a (n + 1)) ≡ filter p (range_with_len a n) ++ cond (p j) (j ∷ []) []
filter_more p a n j e = ap (filter p) (sym (map_same (range_with_len a (n + 1))))
    ∙ filter_of_map_range_with_len_more p (λ i. i) a n j e
    ∙ ap (λ (xs : List ℕ). filter p xs ++ cond (p j) (j ∷ []) []) (map_same (range_with_len a n))

append-nil : {A : Type 0} (xs : List A) → xs ++ [] ≡ xs
append-nil [] = refl
append-nil (x ∷ xs) = ap (λ (ys : List _). x ∷ ys) (append-nil xs)

some_extreme_more : (side : Side) (f : ℕ → ℤ) (ks : List ℕ) (k : ℕ)
    → some_extreme side f (ks ++ k ∷ []) ≡ Some (extreme_with side (some_extreme side f ks) (f k))
unfolding least_over greatest_over
some_extreme_more Over f [] k = refl
some_extreme_more Under f [] k = refl
some_extreme_more Over f (j ∷ ks) k =
    ap Some (ap (fold int_min (f j)) (map-append f ks (k ∷ [])) ∙ fold-append int_min (f j) (map f ks) (f k ∷ []))
some_extreme_more Under f (j ∷ ks) k =
    ap Some (ap (fold int_max (f j)) (map-append f ks (k ∷ [])) ∙ fold-append int_max (f j) (map f ks) (f k ∷ []))

pub start_taken : (side : Side) (f : ℕ → ℤ) (p : ℕ → Bool) (a s : ℕ) (best : Option ℤ) (load z : ℤ) → a ≤ s
    → best ≡ some_extreme side f (filter p (range_with_len a (s - a))) → p s ≡ true → load ≡ f s
    → z ≡ extreme_with side best load → Some z ≡ some_extreme side f (filter p (range_with_len a (s + 1 - a)))
start_taken side f p a s best load z l h t e d =
    let n : s + 1 - a ≡ s - a + 1 = omega (arith, l) in
    let m : a + (s - a) ≡ s = omega (arith, l) in
    ap Some (d ∙ ap (extreme_with side best) e ∙ ap (λ (o : Option ℤ). extreme_with side o (f s)) h)
    ∙ sym
    (ap (λ (k : ℕ). some_extreme side f (filter p (range_with_len a k))) n
    ∙ ap (some_extreme side f) (filter_more p a (s - a) s m ∙ ap (λ (b : Bool). filter p (range_with_len a (s - a))
    ++ cond b (s ∷ []) []) t) ∙ some_extreme_more side f (filter p (range_with_len a (s - a))) s)

pub start_passed : (side : Side) (f : ℕ → ℤ) (p : ℕ → Bool) (a s : ℕ) (best : Option ℤ) → a ≤ s
    → best ≡ some_extreme side f (filter p (range_with_len a (s - a))) → p s ≡ false
    → best ≡ some_extreme side f (filter p (range_with_len a (s + 1 - a)))
start_passed side f p a s best l h t =
    let n : s + 1 - a ≡ s - a + 1 = omega (arith, l) in
    let m : a + (s - a) ≡ s = omega (arith, l) in
    h ∙ sym (ap (λ (k : ℕ). some_extreme side f (filter p (range_with_len a k))) n
    ∙ ap (some_extreme side f)
    (filter_more p a (s - a) s m ∙ ap (λ (b : Bool). filter p (range_with_len a (s - a)) ++ cond b (s ∷ []) []) t
    ∙ append-nil (filter p (range_with_len a (s - a)))))

pub all_taken : (side : Side) (f : ℕ → ℤ) (inst : Tables) (i : ℕ) (span : Span) (s : ℕ) (best : Option ℤ)
    → s - span.from ≡ span.to + 1 - span.from → best ≡ some_extreme side f (filter (is_allowed inst i)
    (range_with_len span.from (s - span.from))) → best ≡ some_extreme side f (starts_in inst i span)
unfolding starts_in
all_taken side f inst i span s best e h =
    subst (λ (k : ℕ). best ≡ some_extreme side f (filter (is_allowed inst i) (range_with_len span.from k))) e h

-- ---- where there is a start, and where there is none
pub extreme_found : (side : Side) (f : ℕ → ℤ) (ks : List ℕ) (o : Option ℤ) (z : ℤ) → o ≡ some_extreme side f ks
    → o ≡ Some z → (0 < length ks) × (z ≡ extreme_over side f ks)
extreme_found side f [] o z e h = absurd (none_some z (sym e ∙ h))
  where
    none_some : (z : ℤ) → None ≡ Some z → ⊥
    none_some z e = cc
extreme_found side f (k ∷ ks) o z e h = (omega arith, some_same z (extreme_over side f (k ∷ ks)) (sym h ∙ e))
  where
    some_same : (a b : ℤ) → Some a ≡ Some b → a ≡ b
    some_same a b e = cc

pub extreme_missing : (side : Side) (f : ℕ → ℤ) (ks : List ℕ) (o : Option ℤ) → o ≡ some_extreme side f ks
    → o ≡ None → length ks ≡ 0
extreme_missing side f [] o e h = refl
extreme_missing side f (k ∷ ks) o e h = absurd (none_some (extreme_over side f (k ∷ ks)) (sym h ∙ e))
  where
    none_some : (z : ℤ) → None ≡ Some z → ⊥
    none_some z e = cc

-- ---- the load of a box against its limit
lt_yes : (a b : ℤ) → a <ℤ b → int_lt a b ≡ true
lt_yes a b h = sym (true_is_lt a b (lt_out a b h))

lt_from : (a b : ℤ) → int_lt a b ≡ true → a <ℤ b
lt_from a b e = below_in a b (lt-true a b e)

pub band_over : (inst : Tables) (box : List Span) (c t : ℕ) (load upper : ℤ) → load ≡ extreme_load inst box c t Over
    → upper ≡ upper_of inst c t → unsigned_abs load ≤ 102_400_000_000_000_000_000_000
    → unsigned_abs upper < 200_000_000_000_000_000_000 → HasStarts inst box
    → (IsTrue (int_lt (by_bits upper) (by_bits load)) → BandHolds inst box c t Over)
    × (BandHolds inst box c t Over → IsTrue (int_lt (by_bits upper) (by_bits load)))
unfolding least_load
band_over inst box c t load upper e f h k s =
    let bl = back_from_abs load (omega (arith, h)) in
    let bu = back_from_abs upper (omega (arith, k)) in
    rw (bl, bu, e, f) (
      λ y. record { starts = s; load = lt_from (upper_of inst c t) (extreme_load inst box c t Over) y },
      λ b. lt_yes (upper_of inst c t) (extreme_load inst box c t Over) b.load,
    )

pub band_under : (inst : Tables) (box : List Span) (c t : ℕ) (load lower : ℤ) → load ≡ extreme_load inst box c t Under
    → lower ≡ lower_of inst c t → unsigned_abs load ≤ 102_400_000_000_000_000_000_000
    → unsigned_abs lower < 200_000_000_000_000_000_000 → HasStarts inst box
    → (IsTrue (int_lt (by_bits load) (by_bits lower)) → BandHolds inst box c t Under)
    × (BandHolds inst box c t Under → IsTrue (int_lt (by_bits load) (by_bits lower)))
unfolding greatest_load
band_under inst box c t load lower e f h k s =
    let bl = back_from_abs load (omega (arith, h)) in
    let bo = back_from_abs lower (omega (arith, k)) in
    rw (bl, bo, e, f) (
      λ y. record { starts = s; load = lt_from (extreme_load inst box c t Under) (lower_of inst c t) y },
      λ b. lt_yes (extreme_load inst box c t Under) (lower_of inst c t) b.load,
    )

-- ---- over all interventions
pub starts_more : (inst : Tables) (box : List Span) (n : ℕ)
    → ((j : ℕ) → j < n → 0 < length (starts_in inst j (span_of box j))) → 0 < length (starts_in inst n (span_of box n))
    → (j : ℕ) → j < n + 1 → 0 < length (starts_in inst j (span_of box j))
starts_more inst box n h k j l = let m : j ≤ n = omega (arith, l) in at (eq-or-lt_of_le m)
  where
    at : (j ≡ n) ⊎ (j < n) → 0 < length (starts_in inst j (span_of box j))
    at (inl e) = subst (λ (i : ℕ). 0 < length (starts_in inst i (span_of box i))) (sym e) k
    at (inr m) = h j m

pub extreme_at : (inst : Tables) (box : List Span) (c t : ℕ) (side : Side) (i : ℕ) (span : Span) (o : Option ℤ) (z : ℤ)
    → span ≡ span_of box i → o ≡ some_extreme side (load_by_start inst c t i) (starts_in inst i span) → o ≡ Some z
    → (0 < length (starts_in inst i (span_of box i)))
    × (z ≡ extreme_over side (load_by_start inst c t i) (starts_in inst i (span_of box i)))
extreme_at inst box c t side i span o z e h k = subst
    (λ (x : Span). (0 < length (starts_in inst i x))
    × (z ≡ extreme_over side (load_by_start inst c t i) (starts_in inst i x))) e
    (extreme_found side (load_by_start inst c t i) (starts_in inst i span) o z h k)
