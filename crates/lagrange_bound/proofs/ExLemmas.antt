-- What the prices of exclusions add over a plan whose interventions keep apart.
use Rattle.std.proofs.Common.{◌≡◌, ℕ, zero, suc, ◌+◌, ◌*◌, ◌≤◌, refl, sym, ◌∙◌, ap, arith, ℤ, pos, ◌+ℤ◌, Bool, true}
use Rattle.std.proofs.Common.{false, cond, List, [], ◌∷◌, ◌==◌, IsTrue}
use Rattle.std.proofs.lemmas.Bool.Decides.{nat_tests}
use Rattle.std.specs.List.{AllByRecursion}
use Rattle.fixed_num.specs.Sums.{sum_below}
use Rattle.fixed_num.proofs.SumLemmas.{sum_below-suc, sum_below-zero}
use Rattle.instance_model.specs.Naturals.{count_sum}
use Rattle.instance_model.specs.Tables.{Tables, in_run, exclusion_of}
use Rattle.instance_model.proofs.EntryLemmas.{count_sum_same}
use Rattle.lagrange_bound.specs.declared.ex_price.ExPrice.{ExPrice}
use Rattle.lagrange_bound.specs.Worth.{ex_share, ex_part, ex_total}

pub count_sum-add : (n : ℕ) (f g : ℕ → ℕ) → count_sum n (λ i. f i + g i) ≡ count_sum n f + count_sum n g
unfolding count_sum
count_sum-add zero f g = refl
count_sum-add (suc n) f g = omega (arith, count_sum-add n f g)

pub count_sum-none : (n : ℕ) → count_sum n (λ i. 0) ≡ 0
unfolding count_sum
count_sum-none zero = refl
count_sum-none (suc n) = omega (arith, count_sum-none n)

-- a sum of natural numbers, k a piece, as one of whole numbers
pub sum_below-pos : (k n : ℕ) (f : ℕ → ℕ) → sum_below n (λ i. pos (k * f i)) ≡ pos (k * count_sum n f)
unfolding count_sum
sum_below-pos k zero f = sum_below-zero (λ i. pos (k * f i)) ∙ ap pos (omega arith)
sum_below-pos k (suc n) f =
    sum_below-suc n (λ i. pos (k * f i)) ∙ ap (λ (z : ℤ). z +ℤ pos (k * f n)) (sum_below-pos k n f) ∙ both
  where
    both : pos (k * count_sum n f) +ℤ pos (k * f n) ≡ pos (k * (count_sum n f + f n))
    both = ap pos (omega arith)

-- a sum in which only one place counts
picked_none : (m a : ℕ) (f : ℕ → ℕ) → m ≤ a → count_sum m (λ i. cond (a == i) (f i) 0) ≡ 0
unfolding count_sum
picked_none zero a f h = refl
picked_none (suc m) a f h = at (a == m) refl (picked_none m a f (omega (arith, h)))
  where
    at : (b : Bool) → (a == m) ≡ b → count_sum m (λ i. cond (a == i) (f i) 0) ≡ 0
        → count_sum m (λ i. cond (a == i) (f i) 0) + cond (a == m) (f m) 0 ≡ 0
    at true e n = absurd (let q : a ≡ m = grind (arith, nat_tests) in omega (arith, q, h))
    at false e n = rw e (omega (arith, n))

picked : (n a : ℕ) (f : ℕ → ℕ) → count_sum n (λ i. cond (a == i) (f i) 0) ≤ f a
unfolding count_sum
picked zero a f = omega arith
picked (suc n) a f = at (a == n) refl (picked n a f)
  where
    at : (b : Bool) → (a == n) ≡ b → count_sum n (λ i. cond (a == i) (f i) 0) ≤ f a
        → count_sum n (λ i. cond (a == i) (f i) 0) + cond (a == n) (f n) 0 ≤ f a
    at true e h =
        let q : a ≡ n = grind (arith, nat_tests) in
        let z = picked_none n a f (omega (arith, q)) in
        let s : cond (a == n) (f n) 0 ≡ f a = rw e (ap f (sym q)) in
        omega (arith, z, s)
    at false e h = rw e (omega (arith, h))

-- the two interventions of a price are not in progress together, at the starts s
abbrev pub AreApart : Tables → (ℕ → ℕ) → ExPrice → Type 0
AreApart inst s x = ¬
    (IsTrue (in_run inst (exclusion_of inst x.exclusion).first (s (exclusion_of inst x.exclusion).first) x.period)
    × IsTrue (in_run inst (exclusion_of inst x.exclusion).second (s (exclusion_of inst x.exclusion).second) x.period))

-- one price over the starts s
one_share : (inst : Tables) (n : ℕ) (s : ℕ → ℕ) (x : ExPrice) → AreApart inst s x
    → count_sum n (λ i. ex_share inst x i (s i)) ≤ x.value
unfolding ex_share
one_share inst n s x apart =
    let e = exclusion_of inst x.exclusion in
    let run : ℕ → Bool = λ i. in_run inst i (s i) x.period in
    let v : ℕ → ℕ = λ i. cond (run i) x.value 0 in
    let one = count_sum_same n (λ i. ex_share inst x i (s i))
    (λ i. cond (e.first == i) (v i) 0 + cond (e.second == i) (v i) 0)
    (λ i l. shape (run i) (e.first == i) (e.second == i) x.value) in
    let two = count_sum-add n (λ i. cond (e.first == i) (v i) 0) (λ i. cond (e.second == i) (v i) 0) in
    let p = picked n e.first v in
    let q = picked n e.second v in
    let w = both (run e.first) (run e.second) x.value apart in
    omega (arith, one, two, p, q, w)
  where
    shape : (r a b : Bool) (v : ℕ)
        → cond r (v * (cond a 1 0 + cond b 1 0)) 0 ≡ cond a (cond r v 0) 0 + cond b (cond r v 0) 0
    shape true true true v = omega arith
    shape true true false v = omega arith
    shape true false true v = omega arith
    shape true false false v = omega arith
    shape false true true v = omega arith
    shape false true false v = omega arith
    shape false false true v = omega arith
    shape false false false v = omega arith

    both : (a b : Bool) (v : ℕ) → ¬ (IsTrue a × IsTrue b) → cond a v 0 + cond b v 0 ≤ v
    both true true v h = absurd (h (refl, refl))
    both true false v h = omega arith
    both false true v h = omega arith
    both false false v h = omega arith

-- all prices over the starts s
pub ex_part-le : (inst : Tables) (n : ℕ) (s : ℕ → ℕ) (xs : List ExPrice) → AllByRecursion (AreApart inst s) xs
    → count_sum n (λ i. ex_part inst xs i (s i)) ≤ ex_total xs
unfolding ex_part ex_total
ex_part-le inst n s [] h = omega (arith, count_sum-none n)
ex_part-le inst n s (x ∷ xs) h =
    let one = count_sum-add n (λ i. ex_share inst x i (s i)) (λ i. ex_part inst xs i (s i)) in
    omega (arith, one, one_share inst n s x h.0, ex_part-le inst n s xs h.1)
