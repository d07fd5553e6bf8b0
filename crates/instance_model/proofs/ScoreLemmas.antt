-- The exact cost of a plan against its score.
use Rattle.std.proofs.Common.{◌≡◌, ℕ, zero, suc, ◌+◌, ◌*◌, ◌/◌, ◌<◌, ◌≤◌, refl, sym, ◌∙◌, ap, subst, arith, ℤ, pos}
use Rattle.std.proofs.Common.{◌+ℤ◌, ◌*ℤ◌, ◌<ℤ◌, ◌≤ℤ◌, List, Option}
use Rattle.std.proofs.lemmas.Nat.{mul-le}
use borrow.Author.Differences.{below_in, product_is, sum_is_lem}
use Rattle.fixed_num.specs.Sums.{sum_below}
use Rattle.fixed_num.specs.Floors.{floor_of}
use Rattle.fixed_num.proofs.SignedLemmas.{signed_arith, int_div_euclid-parts}
use Rattle.fixed_num.proofs.SumLemmas.{sum_below-zero, sum_below-suc, sum_below_mono}
use Rattle.fixed_num.proofs.FloorLemmas.{floor_of-le}
use Rattle.instance_model.specs.Naturals.{count_product}
use Rattle.instance_model.specs.Tables.{Tables, scenarios_of}
use Rattle.instance_model.specs.Fitting.{IsFitting}
use Rattle.instance_model.specs.Values.{sum_of_floors, numerator_of, score_of}
use Rattle.instance_model.specs.Exact.{scenario_product, sum_of_quotients, IsJustAbove}
use Rattle.instance_model.proofs.FitLemmas.{scenarios_of_small}
use Rattle.instance_model.proofs.QuotientLemmas.{sum_of_quotients-least, sum_of_quotients-most}
use Rattle.instance_model.proofs.QuotientLemmas.{scenario_product-divides, turn}

product_positive : (n : ℕ) (f : ℕ → ℕ) → ((k : ℕ) → k < n → 1 ≤ f k) → 1 ≤ count_product n f
unfolding count_product
product_positive zero f h = omega arith
product_positive (suc n) f h =
    mul-le 1 1 (count_product n f) (f n) (product_positive n f (λ k l. h k (omega arith))) (h n (omega arith))

scenario_product-positive : (inst : Tables) → IsFitting inst → 1 ≤ scenario_product inst
unfolding scenario_product
scenario_product-positive inst fit = product_positive inst.periods (λ u. scenarios_of inst (u + 1))
    (λ u l. (scenarios_of_small inst (u + 1) fit (omega arith) (omega arith)).0)

factor_positive : (inst : Tables) (u : ℕ) → IsFitting inst → u < inst.periods
    → 1 ≤ scenario_product inst / scenarios_of inst (u + 1)
factor_positive inst u fit l =
    at (scenario_product inst / scenarios_of inst (u + 1))
    (scenario_product-divides inst u l (scenarios_of_small inst (u + 1) fit (omega arith) (omega arith)).0)
    (scenario_product-positive inst fit)
  where
    at : (p : ℕ) → p * scenarios_of inst (u + 1) ≡ scenario_product inst → 1 ≤ scenario_product inst → 1 ≤ p
    at zero e h = absurd (omega (arith, e, h))
    at (suc p) e h = omega arith

strict : (n : ℕ) (f g : ℕ → ℤ) → ((k : ℕ) → k < n → f k <ℤ g k) → sum_below n f ≤ℤ sum_below n g
strict n f g h = sum_below_mono n f g (λ k l. weaken (f k) (g k) (h k l))
  where
    weaken : (a b : ℤ) → a <ℤ b → a ≤ℤ b
    weaken a b h = omega (arith, signed_arith, h)

-- a sum of at least one term is less where each term is
sum_below_strict : (n : ℕ) (f g : ℕ → ℤ) → 1 ≤ n → ((k : ℕ) → k < n → f k <ℤ g k) → sum_below n f <ℤ sum_below n g
sum_below_strict zero f g some h = absurd (omega (arith, some))
sum_below_strict (suc n) f g some h =
    let rest = strict n f g (λ k l. h k (omega arith)) in
    let here : f n <ℤ g n = h n (omega arith) in
    rw (sum_below-suc n f, sum_below-suc n g) (add (sum_below n f) (sum_below n g) (f n) (g n) rest here)
  where
    add : (a b c d : ℤ) → a ≤ℤ b → c <ℤ d → (a +ℤ c) <ℤ (b +ℤ d)
    add a b c d h k = omega (arith, signed_arith, h, k)

times_strict : (p : ℕ) (a : ℤ) → 1 ≤ p → (a *ℤ pos p) <ℤ ((a +ℤ pos 1) *ℤ pos p)
times_strict p a some =
    let s = sum_is_lem a (pos 1) in
    let e = ap (λ (t : ℕ). t * p) s in
    let one = product_is a (pos p) in
    let two = product_is (a +ℤ pos 1) (pos p) in
    below_in (a *ℤ pos p) ((a +ℤ pos 1) *ℤ pos p) (omega (arith, e, one, two, some))

floor_next : (v : ℤ) (n : ℕ) → 0 < n → (v +ℤ pos 1) ≤ℤ (pos (1 * n) *ℤ (floor_of v n +ℤ pos 1))
floor_next v n some =
    let q = floor_of v n in
    let p = int_div_euclid-parts v n some in
    let one : 1 * n ≡ n = omega arith in
    let s = sum_is_lem q (pos 1) in
    let su = ap (λ (t : ℕ). n * t) s in
    let d = product_is (pos n) (q +ℤ pos 1) in
    rw one (omega (arith, signed_arith, p, su, d))

floor_least : (v : ℤ) (n : ℕ) → 0 < n → (pos (1 * n) *ℤ floor_of v n) ≤ℤ v
floor_least v n some =
    let one : 1 * n ≡ n = omega arith in
    rw one (subst (λ (z : ℤ). z ≤ℤ v) (sym (turn (floor_of v n) n)) (floor_of-le v n some))

sum_below-ones : (n : ℕ) (g : ℕ → ℤ) → sum_below n (λ k. g k +ℤ pos 1) ≡ sum_below n g +ℤ pos n
sum_below-ones zero g = rw (sum_below-zero g, sum_below-zero (λ k. g k +ℤ pos 1)) refl
sum_below-ones (suc n) g =
    rw (sum_below-suc n g, sum_below-suc n (λ k. g k +ℤ pos 1), sum_below-ones n g) (step (sum_below n g) (g n))
  where
    step : (a b : ℤ) → (a +ℤ pos n) +ℤ (b +ℤ pos 1) ≡ (a +ℤ b) +ℤ pos (suc n)
    step a b = omega (arith, signed_arith)

pub IsJustAbove-score : (inst : Tables) (plan : List (Option ℕ)) → IsFitting inst
    → IsJustAbove inst (score_of inst plan) (sum_of_quotients inst (numerator_of inst plan))
unfolding sum_of_floors sum_of_quotients
IsJustAbove-score inst plan fit =
    let v : ℕ → ℤ = numerator_of inst plan in
    let low : ℕ → ℤ = λ t. floor_of (v t) (scenarios_of inst t) in
    let n : (t : ℕ) → 1 ≤ t → t ≤ inst.periods → 1 ≤ scenarios_of inst t =
    λ t one few. (scenarios_of_small inst t fit one few).0 in
    let p = scenario_product inst in
    let unit : 1 * p ≡ p = omega arith in
    let l =
    sum_of_quotients-least inst 1 low v n (λ t one few. floor_least (v t) (scenarios_of inst t) (n t one few)) in
    let m = sum_of_quotients-most inst 1 (λ t. low t +ℤ pos 1) (λ t. v t +ℤ pos 1) n
    (λ t one few. floor_next (v t) (scenarios_of inst t) (n t one few)) in
    let s = sum_below_strict inst.periods (λ u. v (u + 1) *ℤ pos (p / scenarios_of inst (u + 1)))
    (λ u. (v (u + 1) +ℤ pos 1) *ℤ pos (p / scenarios_of inst (u + 1))) fit.some_periods
    (λ u k. times_strict (p / scenarios_of inst (u + 1)) (v (u + 1)) (factor_positive inst u fit k)) in
    record {
      least = subst (λ (z : ℤ). z ≤ℤ sum_of_quotients inst v)
          (ap (λ (k : ℕ). pos k *ℤ sum_below inst.periods (λ u. low (u + 1))) unit
          ∙ turn (sum_below inst.periods (λ u. low (u + 1))) p) l;
      most = subst (λ (z : ℤ). sum_of_quotients inst v <ℤ z)
          (ap (λ (k : ℕ). pos k *ℤ sum_below inst.periods (λ u. low (u + 1) +ℤ pos 1)) unit
          ∙ turn (sum_below inst.periods (λ u. low (u + 1) +ℤ pos 1)) p
          ∙ ap (λ (z : ℤ). z *ℤ pos p) (sum_below-ones inst.periods (λ u. low (u + 1))))
          (chain (sum_of_quotients inst v) (sum_of_quotients inst (λ t. v t +ℤ pos 1)) _ s m);
    }
  where
    chain : (x y z : ℤ) → x <ℤ y → y ≤ℤ z → x <ℤ z
    chain x y z h k = omega (arith, signed_arith, h, k)
