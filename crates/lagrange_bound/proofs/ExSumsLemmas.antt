-- Sums of the prices of exclusions, by intervention and period, and up to a period.
use Rattle.std.proofs.Common.{◌≡◌, ℕ, zero, suc, ◌+◌, ◌-◌, ◌*◌, ◌<◌, ◌≤◌, refl, sym, ◌∙◌, ap, subst, arith, List, []}
use Rattle.std.proofs.Common.{◌∷◌, ◌++◌, length, get_or, set, take, replicate, sum_by, Bool, true, false, cond}
use Rattle.std.proofs.Common.{eqb, leb, ltb, ◌&&◌, ◌≢◌}
use Rattle.std.specs.List.{AllByRecursion}
use Rattle.std.proofs.lemmas.Bool.Decides.{nat_tests}
use Rattle.std.proofs.lemmas.Nat.{same_from_place, mul-add-lt}
use Rattle.std.proofs.lemmas.List.{get_or-set_same, get_or-set_other, get_or-replicate, get_or_past, length-replicate}
use Rattle.std.proofs.lemmas.List.{get_or_append_left, get_or_push, length-append, take_all}
use Rattle.std.proofs.Math.ListN.{length-set}
use Rattle.std.proofs.lemmas.List.Sums.{sum_by_more}
use Rattle.std.proofs.lemmas.List.Recursion.{is_sum_by}
use Rattle.instance_model.specs.declared.parts.Exclusion.{Exclusion}
use Rattle.instance_model.specs.Naturals.{count_sum}
use Rattle.instance_model.proofs.EntryLemmas.{count_sum-zero, count_sum_more, count_sum_same}
use Rattle.instance_model.specs.Tables.{Tables, exclusion_of, in_run, delta_of}
use Rattle.lagrange_bound.specs.declared.ex_price.ExPrice.{ExPrice}
use Rattle.lagrange_bound.specs.Prices.{IsExPrice}
use Rattle.lagrange_bound.specs.Worth.{times_named, ex_share, ex_part}
use Rattle.lagrange_bound.specs.ExSums.{named_value, value_at, ex_at, ex_until, sum_place, AreExSums, ArePrefixes}

-- ---- one price is added at two places

pub added_at : (w i t j u v : ℕ) (xs : List ℕ) → t < w → u < w → i * w + t < length xs
    → get_or (set xs (i * w + t) (get_or xs (i * w + t) 0 + v)) (j * w + u) 0
    ≡ get_or xs (j * w + u) 0 + cond (eqb i j && eqb t u) v 0
added_at w i t j u v xs ht hu within = at (eqb i j && eqb t u) refl
  where
    at : (b : Bool) → eqb i j && eqb t u ≡ b → get_or (set xs (i * w + t) (get_or xs (i * w + t) 0 + v)) (j * w + u) 0
        ≡ get_or xs (j * w + u) 0 + cond b v 0
    at true e =
        let p : i ≡ j = grind (arith, nat_tests) in
        let q : t ≡ u = grind (arith, nat_tests) in
        rw (sym p, sym q) (get_or-set_same xs (i * w + t) (get_or xs (i * w + t) 0 + v) 0 within)
    at false e =
        let other : j * w + u ≢ i * w + t = λ same. let s = same_from_place j u i t w hu ht same in
        apart (sym s.0) (sym s.1) e in
        get_or-set_other xs (i * w + t) (j * w + u) (get_or xs (i * w + t) 0 + v) 0 other ∙ (omega arith)
      where
        apart : i ≡ j → t ≡ u → eqb i j && eqb t u ≡ false → ⊥
        apart p q r = grind (arith, nat_tests)

shares : (a b c : Bool) (v : ℕ) → cond (a && c) v 0 + cond (b && c) v 0 ≡ cond c (v * (cond a 1 0 + cond b 1 0)) 0
shares true true true v = omega arith
shares true false true v = omega arith
shares false true true v = omega arith
shares false false true v = omega arith
shares true true false v = omega arith
shares true false false v = omega arith
shares false true false v = omega arith
shares false false false v = omega arith

pub same_period : (p t : ℕ) → 1 ≤ p → 1 ≤ t → eqb (p - 1) (t - 1) ≡ eqb p t
same_period p t h k = at (eqb (p - 1) (t - 1)) (eqb p t) refl refl
  where
    at : (a b : Bool) → eqb (p - 1) (t - 1) ≡ a → eqb p t ≡ b → eqb (p - 1) (t - 1) ≡ eqb p t
    at true true e f = e ∙ sym f
    at false false e f = e ∙ sym f
    at true false e f = absurd (grind (arith, nat_tests))
    at false true e f = absurd (grind (arith, nat_tests))

pub added_both : (inst : Tables) (x : ExPrice) (xs mid new : List ℕ) (e : Exclusion) (w : ℕ) → w ≡ inst.periods
    → e ≡ exclusion_of inst x.exclusion → 1 ≤ x.period → x.period ≤ inst.periods
    → length xs ≡ length inst.names * inst.periods → e.first < length inst.names → e.second < length inst.names
    → mid ≡ set xs (e.first * w + (x.period - 1)) (get_or xs (e.first * w + (x.period - 1)) 0 + x.value)
    → new ≡ set mid (e.second * w + (x.period - 1)) (get_or mid (e.second * w + (x.period - 1)) 0 + x.value) → (i t : ℕ)
    → i < length inst.names → 1 ≤ t → t ≤ inst.periods
    → get_or new (sum_place inst i t) 0 ≡ get_or xs (sum_place inst i t) 0 + value_at inst x i t
added_both inst x xs mid new e w ew ee one few each hf hs em en i t hi from to =
    let p : x.period - 1 < inst.periods = omega arith in
    let q : t - 1 < inst.periods = omega arith in
    let em' : mid ≡ set xs (e.first * inst.periods + (x.period - 1)) (get_or xs
    (e.first * inst.periods + (x.period - 1)) 0 + x.value) = rw ew at em in
    let en' : new ≡ set mid (e.second * inst.periods + (x.period - 1)) (get_or mid
    (e.second * inst.periods + (x.period - 1)) 0 + x.value) = rw ew at en in
    let hf' : e.first * inst.periods + (x.period - 1) < length xs =
    omega (arith, each, mul-add-lt e.first inst.periods (x.period - 1) (length inst.names) hf p) in
    let same : length mid ≡ length xs = ap length em'
    ∙ length-set xs (e.first * inst.periods + (x.period - 1))
    (get_or xs (e.first * inst.periods + (x.period - 1)) 0 + x.value) in
    let hs' : e.second * inst.periods + (x.period - 1) < length mid =
    omega (arith, each, same, mul-add-lt e.second inst.periods (x.period - 1) (length inst.names) hs p) in
    let a = added_at inst.periods e.first (x.period - 1) i (t - 1) x.value xs p q hf' in
    let b = added_at inst.periods e.second (x.period - 1) i (t - 1) x.value mid p q hs' in
    let r = same_period x.period t one from in
    let s = shares (eqb e.first i) (eqb e.second i) (eqb x.period t) x.value in
    let a' : get_or mid (sum_place inst i t) 0 ≡ get_or xs (sum_place inst i t) 0 + cond (eqb e.first i
    && eqb x.period t) x.value 0 = ap (λ (ys : List ℕ). get_or ys (sum_place inst i t) 0) em' ∙ a
    ∙ ap (λ (y : Bool). get_or xs (sum_place inst i t) 0 + cond (eqb e.first i && y) x.value 0) r in
    let b' : get_or new (sum_place inst i t) 0 ≡ get_or mid (sum_place inst i t) 0 + cond (eqb e.second i
    && eqb x.period t) x.value 0 = ap (λ (ys : List ℕ). get_or ys (sum_place inst i t) 0) en' ∙ b
    ∙ ap (λ (y : Bool). get_or mid (sum_place inst i t) 0 + cond (eqb e.second i && y) x.value 0) r in
    let value : cond (eqb x.period t) (x.value * times_named e i) 0 ≡ value_at inst x i t =
    ap (λ (y : Exclusion). cond (eqb x.period t) (x.value * times_named y i) 0) ee in
    let total : get_or new (sum_place inst i t) 0 ≡ get_or xs (sum_place inst i t) 0 + cond (eqb x.period t) (x.value
    * times_named e i) 0 = omega (arith, a', b', s) in
    total ∙ ap (λ (n : ℕ). get_or xs (sum_place inst i t) 0 + n) value

-- ---- all prices are added

pub ex_at-sum_by : (inst : Tables) (xs : List ExPrice) (i t : ℕ)
    → ex_at inst xs i t ≡ sum_by (λ x. value_at inst x i t) xs
unfolding ex_at
ex_at-sum_by inst xs i t = is_sum_by (λ ys. ex_at inst ys i t) (λ x. value_at inst x i t) refl (λ _ _. refl) xs

ex_at_more : (inst : Tables) (xs : List ExPrice) (k i t : ℕ) (d : ExPrice) → k < length xs
    → ex_at inst (take (k + 1) xs) i t ≡ ex_at inst (take k xs) i t + value_at inst (get_or xs k d) i t
ex_at_more inst xs k i t d l =
    ex_at-sum_by inst (take (k + 1) xs) i t ∙ sum_by_more (λ x. value_at inst x i t) xs k d l
    ∙ ap (λ (n : ℕ). n + value_at inst (get_or xs k d) i t) (sym (ex_at-sum_by inst (take k xs) i t))

pub zeros_at : (n k : ℕ) → get_or (replicate {A = ℕ} n 0) k 0 ≡ 0
zeros_at n k = at (leb n k) refl
  where
    at : (b : Bool) → leb n k ≡ b → get_or (replicate {A = ℕ} n 0) k 0 ≡ 0
    at true e = get_or_past (replicate {A = ℕ} n 0) k 0 (let h : n ≤ k = grind (arith, nat_tests) in
        omega (arith, length-replicate {A = ℕ} n 0))
    at false e = get_or-replicate n k 0 0 (grind (arith, nat_tests))

pub AreExSums-none : (inst : Tables) (sums : List ℕ) (n : ℕ) → sums ≡ replicate n 0
    → n ≡ length inst.names * inst.periods → AreExSums inst [] sums
unfolding ex_at
AreExSums-none inst sums n e m =
    record {
      each = ap length e ∙ length-replicate n 0 ∙ m;
      at = λ i t h from to. ap (λ (ys : List ℕ). get_or ys (sum_place inst i t) 0) e ∙ zeros_at n (sum_place inst i t);
    }

pub AreExSums-more : (inst : Tables) (xs : List ExPrice) (k : ℕ) (d : ExPrice) (old new : List ℕ) → k < length xs
    → AreExSums inst (take k xs) old → length new ≡ length old
    → ((i t : ℕ) → i < length inst.names → 1 ≤ t → t ≤ inst.periods → get_or new (sum_place inst i t) 0
    ≡ get_or old (sum_place inst i t) 0 + value_at inst (get_or xs k d) i t) → AreExSums inst (take (k + 1) xs) new
AreExSums-more inst xs k d old new l h same added =
    record {
      each = same ∙ h.each;
      at = λ i t hi from to. added i t hi from to ∙ ap (λ (n : ℕ). n + value_at inst (get_or xs k d) i t) (h.at i t hi
          from to) ∙ sym (ex_at_more inst xs k i t d l);
    }

pub AreExSums-all : (inst : Tables) (xs ys : List ExPrice) (n : ℕ) (sums : List ℕ) → AreExSums inst (take n xs) sums
    → n ≡ length xs → xs ≡ ys → AreExSums inst ys sums
AreExSums-all inst xs ys n sums h e same =
    let whole : take n xs ≡ ys = ap (λ (m : ℕ). take m xs) e ∙ take_all (length xs) xs (omega arith) ∙ same in
    subst (λ (zs : List ExPrice). AreExSums inst zs sums) whole h

pub small_more : (a old new : ℕ) → new ≤ old + 2_000_000_000 → old ≤ a * 2_000_000_000 → new ≤ (a + 1) * 2_000_000_000
small_more a old new h k = omega arith

-- ---- sums of the first numbers

pub ArePrefixes-none : (numbers : List ℕ) (from : ℕ) (xs : List ℕ) → xs ≡ 0 ∷ [] → ArePrefixes 0 numbers from xs
ArePrefixes-none numbers from xs e =
    record {
      each = ap length e;
      until = λ t l. at t (omega arith);
    }
  where
    at : (t : ℕ) → t ≡ 0 → get_or xs t 0 ≡ count_sum t (λ u. get_or numbers (from + u) 0)
    at t z = rw (z, e) (sym (count_sum-zero (λ u. get_or numbers (from + u) 0)))

pub ArePrefixes-more : (n : ℕ) (numbers : List ℕ) (from : ℕ) (xs ys : List ℕ) (sum : ℕ) → ArePrefixes n numbers from xs
    → sum ≡ count_sum (n + 1) (λ u. get_or numbers (from + u) 0) → ys ≡ xs ++ sum ∷ []
    → ArePrefixes (n + 1) numbers from ys
ArePrefixes-more n numbers from xs ys sum h e is =
    record {
      each = ap length is ∙ length-append xs (sum ∷ []) ∙ (omega (arith, h.each));
      until = λ t l. ap (λ (zs : List ℕ). get_or zs t 0) is ∙ at t l (leb t n) refl;
    }
  where
    at : (t : ℕ) → t ≤ n + 1 → (b : Bool) → leb t n ≡ b
        → get_or (xs ++ sum ∷ []) t 0 ≡ count_sum t (λ u. get_or numbers (from + u) 0)
    at t l true q =
        let low : t ≤ n = grind (arith, nat_tests) in
        get_or_append_left xs (sum ∷ []) 0 t (omega (arith, h.each, low)) ∙ h.until t low
    at t l false q =
        let high : t ≡ n + 1 = grind (arith, nat_tests) in
        get_or_push xs sum 0 t (omega (arith, h.each, high)) ∙ e
        ∙ ap (λ (m : ℕ). count_sum m (λ u. get_or numbers (from + u) 0)) (sym high)

pub sum_more : (numbers : List ℕ) (from n sum : ℕ) → sum ≡ count_sum n (λ u. get_or numbers (from + u) 0)
    → sum + get_or numbers (from + n) 0 ≡ count_sum (n + 1) (λ u. get_or numbers (from + u) 0)
sum_more numbers from n sum e =
    ap (λ (m : ℕ). m + get_or numbers (from + n) 0) e ∙ sym (count_sum_more n (λ u. get_or numbers (from + u) 0))

-- ---- what is counted up to a period

until_step : (p t v : ℕ) → cond (leb p (t + 1)) v 0 ≡ cond (leb p t) v 0 + cond (eqb p (t + 1)) v 0
until_step p t v = at (leb p (t + 1)) (leb p t) (eqb p (t + 1)) refl refl refl
  where
    at : (a b c : Bool) → leb p (t + 1) ≡ a → leb p t ≡ b → eqb p (t + 1) ≡ c → cond a v 0 ≡ cond b v 0 + cond c v 0
    at true true false e f g = omega arith
    at true false true e f g = omega arith
    at false false false e f g = omega arith
    at true true true e f g = absurd (grind (arith, nat_tests))
    at true false false e f g = absurd (grind (arith, nat_tests))
    at false true c e f g = absurd (grind (arith, nat_tests))
    at false false true e f g = absurd (grind (arith, nat_tests))

ex_until_more : (inst : Tables) (xs : List ExPrice) (i t : ℕ)
    → ex_until inst xs i (t + 1) ≡ ex_until inst xs i t + ex_at inst xs i (t + 1)
unfolding ex_until ex_at
ex_until_more inst [] i t = refl
ex_until_more inst (x ∷ xs) i t =
    let ih = ex_until_more inst xs i t in
    let one = until_step x.period t (named_value inst x i) in
    omega (arith, ih, one)

ex_until_none : (inst : Tables) (xs : List ExPrice) (i : ℕ) → AllByRecursion (IsExPrice inst) xs
    → ex_until inst xs i 0 ≡ 0
unfolding ex_until
ex_until_none inst [] i all = refl
ex_until_none inst (x ∷ xs) i all =
    let ih : ex_until inst xs i 0 ≡ 0 = ex_until_none inst xs i all.1 in
    let some = all.0.from in
    let no : leb x.period 0 ≡ false = none_before x.period some in
    rw (no, ih) refl
  where
    none_before : (p : ℕ) → 1 ≤ p → leb p 0 ≡ false
    none_before p h = at (leb p 0) refl
      where
        at : (b : Bool) → leb p 0 ≡ b → leb p 0 ≡ false
        at true e = absurd (grind (arith, nat_tests))
        at false e = e

count_is : (inst : Tables) (xs : List ExPrice) (i t : ℕ) → AllByRecursion (IsExPrice inst) xs
    → count_sum t (λ u. ex_at inst xs i (u + 1)) ≡ ex_until inst xs i t
count_is inst xs i zero all = count_sum-zero (λ u. ex_at inst xs i (u + 1)) ∙ sym (ex_until_none inst xs i all)
count_is inst xs i (suc t) all =
    let ih = count_is inst xs i t all in
    let n : suc t ≡ t + 1 = omega arith in
    ap (λ (m : ℕ). count_sum m (λ u. ex_at inst xs i (u + 1))) n ∙ count_sum_more t (λ u. ex_at inst xs i (u + 1))
    ∙ ap (λ (m : ℕ). m + ex_at inst xs i (t + 1)) ih ∙ sym (ex_until_more inst xs i t)
    ∙ ap (ex_until inst xs i) (sym n)

pub prefix_is : (inst : Tables) (xs : List ExPrice) (sums : List ℕ) (i t : ℕ) → AllByRecursion (IsExPrice inst) xs
    → AreExSums inst xs sums → i < length inst.names → t ≤ inst.periods
    → count_sum t (λ u. get_or sums (i * inst.periods + u) 0) ≡ ex_until inst xs i t
prefix_is inst xs sums i t all h l few =
    count_sum_same t (λ u. get_or sums (i * inst.periods + u) 0) (λ u. ex_at inst xs i (u + 1)) (λ u w.
    let place : i * inst.periods + u ≡ i * inst.periods + ((u + 1) - 1) = omega arith in
    ap (λ (k : ℕ). get_or sums k 0) place ∙ h.at i (u + 1) l (omega arith) (omega arith)) ∙ count_is inst xs i t all

named_value_small : (inst : Tables) (x : ExPrice) (i : ℕ) → IsExPrice inst x → named_value inst x i ≤ 2_000_000_000
named_value_small inst x i h =
    at (eqb (exclusion_of inst x.exclusion).first i) (eqb (exclusion_of inst x.exclusion).second i) x.value h.small
  where
    at : (a b : Bool) (v : ℕ) → v ≤ 1_000_000_000 → v * (cond a 1 0 + cond b 1 0) ≤ 2_000_000_000
    at true true v s = omega arith
    at true false v s = omega arith
    at false true v s = omega arith
    at false false v s = omega arith

pub ex_until_small : (inst : Tables) (xs : List ExPrice) (i t : ℕ) → AllByRecursion (IsExPrice inst) xs
    → ex_until inst xs i t ≤ length xs * 2_000_000_000
unfolding ex_until
ex_until_small inst [] i t all = omega arith
ex_until_small inst (x ∷ xs) i t all =
    let ih = ex_until_small inst xs i t all.1 in
    let one = named_value_small inst x i all.0 in
    let part = part_small (leb x.period t) (named_value inst x i) one in
    omega (arith, ih, part)
  where
    part_small : (b : Bool) (v : ℕ) → v ≤ 2_000_000_000 → cond b v 0 ≤ 2_000_000_000
    part_small true v s = s
    part_small false v s = omega arith

run_part : (p s d v : ℕ) → 1 ≤ p → 1 ≤ s → cond (leb s p && ltb p (s + d)) v 0 + cond (leb p (s - 1)) v 0
    ≡ cond (leb p ((s + d) - 1)) v 0
run_part p s d v one some = at (leb s p) (ltb p (s + d)) (leb p (s - 1)) (leb p ((s + d) - 1)) refl refl refl refl
  where
    at : (a b c f : Bool) → leb s p ≡ a → ltb p (s + d) ≡ b → leb p (s - 1) ≡ c → leb p ((s + d) - 1) ≡ f
        → cond (a && b) v 0 + cond c v 0 ≡ cond f v 0
    at true true false true e g h k = omega arith
    at true false false false e g h k = omega arith
    at false true true true e g h k = omega arith
    at true true true f e g h k = absurd (grind (arith, nat_tests))
    at true true false false e g h k = absurd (grind (arith, nat_tests))
    at true false true f e g h k = absurd (grind (arith, nat_tests))
    at true false false true e g h k = absurd (grind (arith, nat_tests))
    at false b false f e g h k = absurd (grind (arith, nat_tests))
    at false false true f e g h k = absurd (grind (arith, nat_tests))
    at false true true false e g h k = absurd (grind (arith, nat_tests))

pub ex_part_until : (inst : Tables) (xs : List ExPrice) (i s : ℕ) → AllByRecursion (IsExPrice inst) xs → 1 ≤ s
    → ex_part inst xs i s + ex_until inst xs i (s - 1) ≡ ex_until inst xs i ((s + delta_of inst i s) - 1)
unfolding ex_until ex_part ex_share in_run
ex_part_until inst [] i s all some = refl
ex_part_until inst (x ∷ xs) i s all some =
    let ih = ex_part_until inst xs i s all.1 some in
    let one = run_part x.period s (delta_of inst i s) (named_value inst x i) all.0.from some in
    omega (arith, ih, one)
