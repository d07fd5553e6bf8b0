-- The sums of the offsets of each group, and what the offsets cost.
use Rattle.std.proofs.Common.{◌≡◌, ◌≢◌, ℕ, zero, suc, ◌+◌, ◌-◌, ◌*◌, ◌<◌, ◌≤◌, ◌⊎◌, inl, inr, refl, sym, ◌∙◌, ap, subst}
use Rattle.std.proofs.Common.{arith, Bool, true, false, cond, ◌&&◌, ◌==◌, List, [], ◌∷◌, length, get_or, set, take, max}
use Rattle.std.proofs.Common.{replicate, All, AllPairs, Option, ℤ, pos, ◌-ℤ◌, ◌*ℤ◌, ◌^◌, unsigned_abs, to_z}
use Rattle.std.specs.List.{AllByRecursion}
use Rattle.std.specs.Int.{w128}
use Rattle.std.proofs.lemmas.Bool.{false≢true, cases_eq}
use Rattle.std.proofs.lemmas.Bool.Decides.{Decides-eqb, nat_tests}
use Rattle.std.proofs.lemmas.Int.{to_z_pos}
use Rattle.std.proofs.lemmas.List.{take_all, get_or-set_same, get_or-set_other, length-replicate, length-set}
use Rattle.std.proofs.lemmas.List.Elements.{All-from_recursion}
use Rattle.std.proofs.lemmas.Nat.{same_from_place}
use Rattle.fixed_num.proofs.Bits.{by_bits}
use Rattle.fixed_num.proofs.SignedLemmas.{back_from_abs, signed_arith}
use Rattle.instance_model.specs.Naturals.{count_sum}
use Rattle.instance_model.specs.Tables.{Tables}
use Rattle.instance_model.specs.Fitting.{IsFitting}
use Rattle.instance_model.proofs.EntryLemmas.{count_sum_same}
use Rattle.lagrange_bound.proofs.ExLemmas.{count_sum-add, count_sum-none}
use Rattle.lagrange_bound.specs.Worth.{fixed_part}
use Rattle.refined_prices.specs.declared.group_tail.GroupTail.{GroupTail}
use Rattle.refined_prices.specs.declared.offset.Offset.{Offset}
use Rattle.refined_prices.specs.declared.clique.Clique.{Clique}
use Rattle.refined_prices.specs.Offsets.{group_tail_at, group_count, is_offset_of, offset_of, IsOffset, OffsetBefore}
use Rattle.refined_prices.specs.Groups.{greatest_below}
use Rattle.refined_prices.specs.GroupBases.{offset_most, offset_cost}
use Rattle.refined_prices.specs.Cliques.{IsPricedClique, clique_total}
use Rattle.refined_prices.specs.RefinedLists.{RefinedList}
use Rattle.refined_prices.specs.RefinedWorth.{limit_constant, refined_constant}
use Rattle.refined_prices.proofs.GroupSizes.{offset_of_small, count_sum_within}
use Rattle.refined_prices.specs.tables.OffsetRows.{AreWithin, group_place}
use Rattle.refined_prices.specs.tables.OffsetSums.{group_total, AreOffsetSums}
use Rattle.refined_prices.proofs.TablesOffsetRowLemmas.{place_in_row}

-- ---- the offsets of a group, over all interventions

zero_add : (n : ℕ) → 0 + n ≡ n
zero_add n = omega arith

picked_none : (m j v : ℕ) → m ≤ j → count_sum m (λ i. cond (j == i) v 0) ≡ 0
unfolding count_sum
picked_none zero j v h = refl
picked_none (suc m) j v h =
    let no : (j == m) ≡ false = other j m (omega (arith, h)) in
    let ih = picked_none m j v (omega (arith, h)) in
    rw (no, ih) refl
  where
    other : (a b : ℕ) → b < a → (a == b) ≡ false
    other a b l = grind (arith, nat_tests)

picked : (n j v : ℕ) → j < n → count_sum n (λ i. cond (j == i) v 0) ≡ v
unfolding count_sum
picked zero j v l = absurd (omega (arith, l))
picked (suc n) j v l = by (j == n) refl (λ m. picked n j v m)
  where
    by : (b : Bool) → (j == n) ≡ b → (j < n → count_sum n (λ i. cond (j == i) v 0) ≡ v)
        → count_sum n (λ i. cond (j == i) v 0) + cond (j == n) v 0 ≡ v
    by true e _ =
        let q : j ≡ n = (Decides-eqb j n).0 e in
        let z = picked_none n j v (omega (arith, q)) in
        rw (e, z) (zero_add v)
    by false e more =
        let ne : j ≡ n → ⊥ = λ q. false≢true (sym e ∙ (Decides-eqb j n).1 q) in
        let ih = more (omega (arith, l, ne)) in
        rw e (omega (arith, ih))

-- offsets in range of which each stands before each later one
record AreInOrder (n : ℕ) (xs : List Offset) : Type 0 where
  ascend : AllPairs OffsetBefore xs
  numbers : All (λ x. x.intervention < n) xs

rest_in_order : (n : ℕ) (x : Offset) (xs : List Offset) → AreInOrder n (x ∷ xs) → AreInOrder n xs
rest_in_order n x xs h = record {
  ascend = λ i j d l w. h.ascend (suc i) (suc j) d (omega (arith, l)) (omega (arith, w));
  numbers = λ k d l. h.numbers (suc k) d (omega (arith, l));
}

-- a key that stands before all offsets has none
none_behind : (xs : List Offset) (t i g : ℕ) → ((k : ℕ) (d : Offset) → k < length xs
    → is_offset_of t i g (get_or xs k d) ≡ false) → offset_of xs t i g ≡ 0
unfolding offset_of
none_behind [] t i g h = refl
none_behind (x ∷ xs) t i g h =
    let no : is_offset_of t i g x ≡ false = h zero x (omega arith) in
    let rest = none_behind xs t i g (λ k d l. h (suc k) d (omega (arith, l))) in
    rw no rest

false_from : (b : Bool) → (b ≡ true → ⊥) → b ≡ false
false_from true h = absurd (h refl)
false_from false h = refl

later_none : (n t i g : ℕ) (x : Offset) (xs : List Offset) → AreInOrder n (x ∷ xs) → is_offset_of t i g x ≡ true
    → offset_of xs t i g ≡ 0
later_none n t i g x xs h e = none_behind xs t i g
    (λ k d l. false_from (is_offset_of t i g (get_or xs k d))
    (λ f. other x.period x.intervention x.group (get_or xs k d).period (get_or xs k d).intervention
    (get_or xs k d).group e f (h.ascend zero (suc k) d (omega arith) (omega (arith, l)))))
  where
    other : (a b d u v w : ℕ) → ((a == t) && (b == i) && (d == g)) ≡ true → ((u == t) && (v == i) && (w == g)) ≡ true
        → (a < u) ⊎ ((a ≡ u) × ((b < v) ⊎ ((b ≡ v) × (d < w)))) → ⊥
    other a b d u v w e f o = grind (arith, nat_tests)

-- the sum of a group is that over all interventions
group_total_is : (n t g : ℕ) (xs : List Offset) → AreInOrder n xs
    → group_total xs t g ≡ count_sum n (λ i. offset_of xs t i g)
unfolding group_total offset_of
group_total_is n t g [] h = sym (count_sum-none n)
group_total_is n t g (x ∷ xs) h =
    let ih = group_total_is n t g xs (rest_in_order n x xs h) in
    let low : x.intervention < n = h.numbers zero x (omega arith) in
    let value : ℕ = cond ((x.period == t) && (x.group == g)) x.value 0 in
    ap (λ (m : ℕ). cond ((x.period == t) && (x.group == g)) x.value 0 + m) ih
    ∙ ap (λ (m : ℕ). m + count_sum n (λ i. offset_of xs t i g))
    (sym (picked n x.intervention (cond ((x.period == t) && (x.group == g)) x.value 0) low))
    ∙ sym (count_sum-add n (λ i. cond (x.intervention == i) (cond ((x.period == t) && (x.group == g)) x.value 0) 0)
    (λ i. offset_of xs t i g))
    ∙ count_sum_same n
    (λ i. cond (x.intervention == i) (cond ((x.period == t) && (x.group == g)) x.value 0) 0 + offset_of xs t i g)
    (λ i. cond (is_offset_of t i g x) x.value (offset_of xs t i g))
    (λ i l. by i (x.period == t) (x.intervention == i) (x.group == g) refl refl refl)
  where
    key : (i : ℕ) → (x.period == t) ≡ true → (x.intervention == i) ≡ true → (x.group == g) ≡ true
        → is_offset_of t i g x ≡ true
    key i p q r = rw (p, q, r) refl

    by : (i : ℕ) (a b c : Bool) → (x.period == t) ≡ a → (x.intervention == i) ≡ b → (x.group == g) ≡ c
        → cond (x.intervention == i) (cond ((x.period == t) && (x.group == g)) x.value 0) 0 + offset_of xs t i g
        ≡ cond (is_offset_of t i g x) x.value (offset_of xs t i g)
    by i true true true p q r =
        let none = later_none n t i g x xs h (key i p q r) in
        rw (p, q, r) (omega (arith, none))
    by i true true false p q r = rw (p, q, r) (zero_add (offset_of xs t i g))
    by i true false c p q r = rw (p, q) (zero_add (offset_of xs t i g))
    by i false true c p q r = rw (p, q) (zero_add (offset_of xs t i g))
    by i false false c p q r = rw (p, q) (zero_add (offset_of xs t i g))

-- ---- the sums, offset by offset

group_total_more : (xs : List Offset) (k t g : ℕ) (d : Offset) → k < length xs
    → group_total (take (k + 1) xs) t g ≡ group_total (take k xs) t g
    + cond (((get_or xs k d).period == t) && ((get_or xs k d).group == g)) (get_or xs k d).value 0
unfolding group_total
group_total_more [] k t g d l = absurd (omega (arith, l))
group_total_more (x ∷ xs) zero t g d l = omega arith
group_total_more (x ∷ xs) (suc k) t g d l =
    let next : suc k + 1 ≡ suc (k + 1) = omega arith in
    let ih = group_total_more xs k t g d (omega (arith, l)) in
    rw next (omega (arith, ih))

-- the sums of the first offsets
abbrev pub AreSumsSoFar : Tables → List Offset → ℕ → ℕ → List ℕ → Type 0
AreSumsSoFar inst xs width k numbers = AreOffsetSums inst (take k xs) width numbers

zeros_at : (n k : ℕ) → get_or (replicate {A = ℕ} n 0) k 0 ≡ 0
zeros_at zero k = refl
zeros_at (suc n) zero = refl
zeros_at (suc n) (suc k) = zeros_at n k

pub AreSumsSoFar-none : (inst : Tables) (xs : List Offset) (width n : ℕ) (numbers : List ℕ)
    → numbers ≡ replicate {A = ℕ} n 0 → n ≡ inst.periods * width → AreSumsSoFar inst xs width 0 numbers
unfolding group_total
AreSumsSoFar-none inst xs width n numbers is e = record {
  each = ap length is ∙ length-replicate n 0 ∙ e;
  at = λ t g one few l. ap (λ (ys : List ℕ). get_or ys (group_place width t g) 0) is
      ∙ zeros_at n (group_place width t g);
}

taken_in_order : (inst : Tables) (tails : List (Option GroupTail)) (xs : List Offset) (k : ℕ)
    → AllByRecursion (IsOffset inst tails) xs → AllPairs OffsetBefore xs
    → AreInOrder (length inst.names) (take k xs)
taken_in_order inst tails xs k all pairs = record {
  ascend = λ i j d l w. at i j d l w;
  numbers = λ j d l. number j d l;
}
  where
    inner : (k j : ℕ) (xs : List Offset) → j < length (take k xs) → (j < length xs) × (j < k)
    inner zero j [] l = absurd (omega (arith, l))
    inner (suc k) j [] l = absurd (omega (arith, l))
    inner zero j (x ∷ xs) l = absurd (omega (arith, l))
    inner (suc k) zero (x ∷ xs) l = (omega arith, omega arith)
    inner (suc k) (suc j) (x ∷ xs) l =
        let w = inner k j xs (omega (arith, l)) in
        let a = w.0 in let b = w.1 in
        (omega (arith, a), omega (arith, b))

    read : (k j : ℕ) (xs : List Offset) (d : Offset) → j < length (take k xs) → get_or (take k xs) j d ≡ get_or xs j d
    read zero j [] d l = absurd (omega (arith, l))
    read (suc k) j [] d l = absurd (omega (arith, l))
    read zero j (x ∷ xs) d l = absurd (omega (arith, l))
    read (suc k) zero (x ∷ xs) d l = refl
    read (suc k) (suc j) (x ∷ xs) d l = read k j xs d (omega (arith, l))

    number : (j : ℕ) (d : Offset) → j < length (take k xs)
        → (get_or (take k xs) j d).intervention < length inst.names
    number j d l = subst (λ (x : Offset). x.intervention < length inst.names) (sym (read k j xs d l))
        (All-from_recursion (IsOffset inst tails) xs all j d (inner k j xs l).0).number

    at : (i j : ℕ) (d : Offset) → i < j → j < length (take k xs)
        → OffsetBefore (get_or (take k xs) i d) (get_or (take k xs) j d)
    at i j d l w =
        subst (λ (x : Offset). OffsetBefore x (get_or (take k xs) j d)) (sym (read k i xs d (omega (arith, l, w))))
        (subst (OffsetBefore (get_or xs i d)) (sym (read k j xs d w)) (pairs i j d l (inner k j xs w).0))

taken_in_range : (inst : Tables) (tails : List (Option GroupTail)) (k : ℕ) (xs : List Offset)
    → AllByRecursion (IsOffset inst tails) xs → AllByRecursion (IsOffset inst tails) (take k xs)
taken_in_range inst tails zero [] all = tt
taken_in_range inst tails (suc k) [] all = tt
taken_in_range inst tails zero (x ∷ xs) all = tt
taken_in_range inst tails (suc k) (x ∷ xs) all = (all.0, taken_in_range inst tails k xs all.1)

-- a sum of a group is far from the end of 64 bits
pub group_total_small : (inst : Tables) (tails : List (Option GroupTail)) (xs : List Offset) (k t g : ℕ)
    → IsFitting inst → AllByRecursion (IsOffset inst tails) xs → AllPairs OffsetBefore xs
    → group_total (take k xs) t g ≤ 1024 * 1_000_000_000
group_total_small inst tails xs k t g fit all pairs =
    let is = group_total_is (length inst.names) t g (take k xs) (taken_in_order inst tails xs k all pairs) in
    let small = count_sum_within (length inst.names) 1_000_000_000 (λ i. offset_of (take k xs) t i g)
    (λ i. offset_of_small inst tails (take k xs) t i g (taken_in_range inst tails k xs all)) in
    let few = fit.names.few in
    omega (arith, is, small, few)

same_place : (width t g u h : ℕ) → 1 ≤ t → 1 ≤ u → g < width → h < width
    → group_place width t g ≡ group_place width u h → (t ≡ u) × (g ≡ h)
same_place width t g u h one one' low low' e =
    let s = same_from_place (t - 1) g (u - 1) h width low low' e in
    let first = s.0 in
    (omega (arith, first, one, one'), s.1)

pub AreSumsSoFar-more : (inst : Tables) (tails : List (Option GroupTail)) (xs : List Offset) (width k : ℕ)
    (x : Offset) (old new : List ℕ) → AreWithin tails width → IsOffset inst tails x → k < length xs
    → ((d : Offset) → x ≡ get_or xs k d) → AreSumsSoFar inst xs width k old
    → new ≡ set old (group_place width x.period x.group) (get_or old (group_place width x.period x.group) 0 + x.value)
    → AreSumsSoFar inst xs width (k + 1) new
AreSumsSoFar-more inst tails xs width k x old new w ok l is h e = record {
  each = ap length e ∙ length-set old (group_place width x.period x.group)
      (get_or old (group_place width x.period x.group) 0 + x.value) ∙ h.each;
  at = λ t g one few low. ap (λ (ys : List ℕ). get_or ys (group_place width t g) 0) e
      ∙ at t g one few low (cases_eq (group_place width x.period x.group) (group_place width t g))
      ∙ ap (λ (n : ℕ). n + cond ((x.period == t) && (x.group == g)) x.value 0) (h.at t g one few low)
      ∙ ap (λ (y : Offset). group_total (take k xs) t g + cond ((y.period == t) && (y.group == g)) y.value 0) (is x)
      ∙ sym (group_total_more xs k t g x l);
}
  where
    group_low : x.group < width
    group_low = let a = ok.group in let b = w.each x.period in omega (arith, a, b)

    miss : (t g : ℕ) → (x.period ≡ t → x.group ≡ g → ⊥) → ((x.period == t) && (x.group == g)) ≡ false
    miss t g apart = by (x.period == t) (x.group == g) refl refl
      where
        by : (a c : Bool) → (x.period == t) ≡ a → (x.group == g) ≡ c → ((x.period == t) && (x.group == g)) ≡ false
        by true true p r = absurd (apart ((Decides-eqb x.period t).0 p) ((Decides-eqb x.group g).0 r))
        by true false p r = rw (p, r) refl
        by false c p r = rw p refl

    at : (t g : ℕ) → 1 ≤ t → t ≤ inst.periods → g < width
        → (group_place width x.period x.group ≡ group_place width t g)
        ⊎ (group_place width x.period x.group ≡ group_place width t g → ⊥)
        → get_or (set old (group_place width x.period x.group)
        (get_or old (group_place width x.period x.group) 0 + x.value)) (group_place width t g) 0
        ≡ get_or old (group_place width t g) 0 + cond ((x.period == t) && (x.group == g)) x.value 0
    at t g one few low (inl same) =
        let s = same_place width x.period x.group t g ok.from one group_low low same in
        let a : (x.period == t) ≡ true = (Decides-eqb x.period t).1 s.0 in
        let c : (x.group == g) ≡ true = (Decides-eqb x.group g).1 s.1 in
        let each = h.each in
        let within : group_place width x.period x.group < length old =
        omega (arith, place_in_row inst tails width x w ok, each) in
        subst (λ (m : ℕ). get_or (set old (group_place width x.period x.group)
        (get_or old (group_place width x.period x.group) 0 + x.value)) m 0
        ≡ get_or old (group_place width x.period x.group) 0 + x.value) same
        (get_or-set_same old (group_place width x.period x.group)
        (get_or old (group_place width x.period x.group) 0 + x.value) 0 within)
        ∙ ap (λ (m : ℕ). get_or old m 0 + x.value) same
        ∙ rw (a, c) refl
    at t g one few low (inr other) =
        let elsewhere = miss t g (λ p q. other (ap (λ (u : ℕ). group_place width u x.group) p
        ∙ ap (group_place width t) q)) in
        let apart : group_place width t g ≢ group_place width x.period x.group = λ f. other (sym f) in
        get_or-set_other old (group_place width x.period x.group) (group_place width t g)
        (get_or old (group_place width x.period x.group) 0 + x.value) 0 apart
        ∙ rw elsewhere (omega arith)

pub AreOffsetSums-all : (inst : Tables) (xs : List Offset) (width k : ℕ) (numbers : List ℕ) → length xs ≤ k
    → AreSumsSoFar inst xs width k numbers → AreOffsetSums inst xs width numbers
AreOffsetSums-all inst xs width k numbers l h =
    subst (λ (ys : List Offset). AreOffsetSums inst ys width numbers) (take_all k xs l) h

-- the sums at a place of the next offset
pub sum_at_place : (inst : Tables) (tails : List (Option GroupTail)) (xs : List Offset) (width k : ℕ) (x : Offset)
    (numbers : List ℕ) → IsFitting inst → AllByRecursion (IsOffset inst tails) xs → AllPairs OffsetBefore xs
    → AreWithin tails width → IsOffset inst tails x → AreSumsSoFar inst xs width k numbers
    → get_or numbers (group_place width x.period x.group) 0 ≤ 1024 * 1_000_000_000
sum_at_place inst tails xs width k x numbers fit all pairs w ok h =
    let a = ok.group in let b = w.each x.period in
    let is = h.at x.period x.group ok.from ok.to (omega (arith, a, b)) in
    let small = group_total_small inst tails xs k x.period x.group fit all pairs in
    omega (arith, is, small)

-- ---- the greatest sum of a group

pub greatest_more : (n m : ℕ) (f : ℕ → ℕ) (x y : ℕ) → m ≡ greatest_below n f → x ≡ f n → y ≡ max m x
    → y ≡ greatest_below (n + 1) f
unfolding greatest_below
greatest_more n m f x y a b c = c ∙ ap (λ (k : ℕ). max k x) a ∙ ap (max (greatest_below n f)) b ∙ step
  where
    step : max (greatest_below n f) (f n) ≡ greatest_below (n + 1) f
    step = let next : n + 1 ≡ suc n = omega arith in rw next refl

pub greatest_none : (f : ℕ → ℕ) → 0 ≡ greatest_below 0 f
unfolding greatest_below
greatest_none f = refl

-- the sum of a group as the list has it
pub sum_read : (inst : Tables) (tails : List (Option GroupTail)) (xs : List Offset) (width t g from : ℕ)
    (numbers : List ℕ) → AllByRecursion (IsOffset inst tails) xs → AllPairs OffsetBefore xs
    → AreOffsetSums inst xs width numbers → 1 ≤ t → t ≤ inst.periods → g < width → from ≡ (t - 1) * width
    → get_or numbers (from + g) 0 ≡ count_sum (length inst.names) (λ i. offset_of xs t i g)
sum_read inst tails xs width t g from numbers all pairs h one few low e =
    ap (λ (k : ℕ). get_or numbers (k + g) 0) e ∙ h.at t g one few low
    ∙ ap (λ (ys : List Offset). group_total ys t g) (sym (take_all (length xs) xs (omega arith)))
    ∙ group_total_is (length inst.names) t g (take (length xs) xs)
    (taken_in_order inst tails xs (length xs) all pairs)
    ∙ ap (λ (ys : List Offset). count_sum (length inst.names) (λ i. offset_of ys t i g))
    (take_all (length xs) xs (omega arith))

pub most_is : (inst : Tables) (tails : List (Option GroupTail)) (xs : List Offset) (t n m : ℕ)
    → n ≡ group_count (group_tail_at tails t)
    → m ≡ greatest_below n (λ g. count_sum (length inst.names) (λ i. offset_of xs t i g))
    → m ≡ offset_most inst tails xs t
unfolding offset_most
most_is inst tails xs t n m e h =
    h ∙ ap (λ (k : ℕ). greatest_below k (λ g. count_sum (length inst.names) (λ i. offset_of xs t i g))) e

-- ---- the cost

-- what the offsets of period u + 1 cost
abbrev pub cost_at : Tables → List (Option GroupTail) → List Offset → ℕ → ℕ
cost_at inst tails xs u = (1_000_000 - inst.alpha) * 1_000_000_000 * offset_most inst tails xs (u + 1)

pub cost_is : (inst : Tables) (tails : List (Option GroupTail)) (xs : List Offset) (n cost : ℕ) → n ≡ inst.periods
    → cost ≡ count_sum n (cost_at inst tails xs) → cost ≡ offset_cost inst tails xs
unfolding offset_cost
cost_is inst tails xs n cost e h = h ∙ ap (λ (k : ℕ). count_sum k (cost_at inst tails xs)) e

-- ---- cliques

clique_total_more : (xs : List Clique) (k : ℕ) (d : Clique) → k < length xs
    → clique_total (take (k + 1) xs) ≡ clique_total (take k xs) + (get_or xs k d).value
unfolding clique_total
clique_total_more [] k d l = absurd (omega (arith, l))
clique_total_more (x ∷ xs) zero d l = omega arith
clique_total_more (x ∷ xs) (suc k) d l =
    let next : suc k + 1 ≡ suc (k + 1) = omega arith in
    let ih = clique_total_more xs k d (omega (arith, l)) in
    rw next (omega (arith, ih))

-- the prices of the first cliques
pub record IsTotalSoFar (xs : List Clique) (k sum : ℕ) : Type 0 where
  pub value : sum ≡ clique_total (take k xs)
  pub small : sum ≤ k * 1_000_000_000

pub IsTotalSoFar-none : (xs : List Clique) → IsTotalSoFar xs 0 0
unfolding clique_total
IsTotalSoFar-none xs = record { value = refl; small = omega arith }

pub IsTotalSoFar-more : (xs : List Clique) (k sum : ℕ) (x : Clique) → k < length xs
    → ((d : Clique) → x ≡ get_or xs k d) → x.value ≤ 1_000_000_000 → IsTotalSoFar xs k sum
    → IsTotalSoFar xs (k + 1) (sum + x.value)
IsTotalSoFar-more xs k sum x l is small h =
    let a = h.value in let b = h.small in
    let more = clique_total_more xs k x l in
    let same : x.value ≡ (get_or xs k x).value = ap (λ (y : Clique). y.value) (is x) in
    record { value = omega (arith, a, more, same); small = omega (arith, b, small) }

pub IsTotalSoFar-all : (xs : List Clique) (k sum : ℕ) → length xs ≤ k → IsTotalSoFar xs k sum
    → sum ≡ clique_total xs
IsTotalSoFar-all xs k sum l h = h.value ∙ ap clique_total (take_all k xs l)

pub clique_value_small : (inst : Tables) (xs : List Clique) (k : ℕ) (x : Clique)
    → AllByRecursion (IsPricedClique inst) xs → k < length xs → ((d : Clique) → x ≡ get_or xs k d)
    → x.value ≤ 1_000_000_000
clique_value_small inst xs k x all l is = subst (λ (y : Clique). y.value ≤ 1_000_000_000) (sym (is x))
    (All-from_recursion (IsPricedClique inst) xs all k x l).small

-- ---- all that is added whatever the starts are

pub constant_bits : (fixed : ℤ) (cliques cost : ℕ) → unsigned_abs fixed < 10 ^ 36
    → cliques ≤ 4096 * 1_000_000_000 → cost < 10 ^ 30
    → by_bits (by_bits (by_bits fixed -ℤ by_bits (pos 1_000_000_000_000 *ℤ to_z w128 cliques)) -ℤ to_z w128 cost)
    ≡ (fixed -ℤ pos (1_000_000_000_000 * cliques)) -ℤ pos cost
constant_bits fixed cliques cost hf hc hk =
    let x : to_z w128 cliques ≡ pos cliques = to_z_pos w128 cliques (omega (arith, hc)) in
    let y : pos 1_000_000_000_000 *ℤ pos cliques ≡ pos (1_000_000_000_000 * cliques) = omega (arith, signed_arith) in
    let k : to_z w128 cost ≡ pos cost = to_z_pos w128 cost (omega (arith, hk)) in
    let u : by_bits fixed ≡ fixed = back_from_abs fixed (omega (arith, hf)) in
    let n : by_bits (pos (1_000_000_000_000 * cliques)) ≡ pos (1_000_000_000_000 * cliques) =
    back_from_abs (pos (1_000_000_000_000 * cliques)) (omega (arith, hc)) in
    let o : by_bits (fixed -ℤ pos (1_000_000_000_000 * cliques)) ≡ fixed -ℤ pos (1_000_000_000_000 * cliques) =
    back_from_abs (fixed -ℤ pos (1_000_000_000_000 * cliques)) (omega (arith, signed_arith, hf, hc)) in
    rw (x, y, k, u, n, o) (back_from_abs ((fixed -ℤ pos (1_000_000_000_000 * cliques)) -ℤ pos cost)
    (omega (arith, signed_arith, hf, hc, hk)))

pub constant_is : (inst : Tables) (list : RefinedList) (fixed z : ℤ) (cliques cost : ℕ)
    → fixed ≡ fixed_part inst list.prices → cliques ≡ clique_total list.cliques
    → cost ≡ offset_cost inst list.tails list.offsets
    → z ≡ (fixed -ℤ pos (1_000_000_000_000 * cliques)) -ℤ pos cost → z ≡ refined_constant inst list
unfolding refined_constant limit_constant
constant_is inst list fixed z cliques cost p q r e = e ∙ rw (p, q, r) refl
