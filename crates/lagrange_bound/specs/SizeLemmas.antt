-- How large terms and bases can be. It stands here, since laws that an impl gives rest on it, which may not come from
-- proofs/.
use Rattle.std.proofs.Common.{ℕ, ◌+◌, ◌-◌, ◌*◌, ◌<◌, ◌≤◌, ◌^◌, ◌≡◌, arith, ℤ, pos, ◌-ℤ◌, ◌*ℤ◌, Bool, true, false, cond}
use Rattle.std.proofs.Common.{List, [], ◌∷◌, Option, Some, None, refl, unsigned_abs}
use Rattle.fixed_num.specs.Sums.{sum_below}
use Rattle.fixed_num.proofs.FloorLemmas.{floor_within}
use Rattle.fixed_num.proofs.SignedLemmas.{signed_arith, abs-product}
use Rattle.fixed_num.proofs.SumLemmas.{abs-sum, sum_below-within}
use Rattle.instance_model.specs.Tables.{Tables, scenarios_of, in_run, risk_of}
use Rattle.instance_model.specs.Fitting.{IsFitting}
use Rattle.instance_model.proofs.FitLemmas.{scenarios_of_small, risk_of_small}
use Rattle.lagrange_bound.specs.declared.tail.Tail.{Tail}
use Rattle.lagrange_bound.specs.Least.{least_over}
use Rattle.lagrange_bound.specs.TailLemmas.{least_over_reached}
use Rattle.lagrange_bound.specs.Bases.{tail_part, weighed, term_of, base_of}

least_over_small : (f : ℕ → ℤ) (m : ℕ) (ks : List ℕ) → ((k : ℕ) → unsigned_abs (f k) ≤ m)
    → unsigned_abs (least_over f ks) ≤ m
unfolding least_over
least_over_small f m [] h = omega arith
least_over_small f m (k ∷ ks) h = let w = least_over_reached f (k ∷ ks) (omega arith) in rw w.2 (h w.0)

-- m bounds each number: n * m bounds the sum of n, and 2000 times that a tail's part
tail_part_small : (n m : ℕ) (f : ℕ → ℤ) (tail : Option Tail) → ((k : ℕ) → unsigned_abs (f k) ≤ m)
    → ((x : Tail) → tail ≡ Some x → x.weight ≤ 1000) → unsigned_abs (tail_part n f tail) ≤ 1000 * (2 * (n * m))
unfolding tail_part
tail_part_small n m f None h w = omega arith
tail_part_small n m f (Some tail) h w =
    let s = sum_below-within n m (λ k. f (k + 1)) (λ k l. h (k + 1)) in
    let p = abs-product (pos n) (least_over f tail.places) n m (omega arith) (least_over_small f m tail.places h) in
    abs-product (pos tail.weight) (pos n *ℤ least_over f tail.places -ℤ sum_below n (λ k. f (k + 1))) 1000 (2 * (n * m))
    (w tail refl) (less (pos n *ℤ least_over f tail.places) (sum_below n (λ k. f (k + 1))) (n * m) p s)
  where
    less : (a b : ℤ) (m : ℕ) → unsigned_abs a ≤ m → unsigned_abs b ≤ m → unsigned_abs (a -ℤ b) ≤ 2 * m
    less a b m h k = omega (arith, signed_arith, h, k)

weighed_small : (alpha n m : ℕ) (f : ℕ → ℤ) (tail : Option Tail) → alpha ≤ 1_000_000
    → ((k : ℕ) → unsigned_abs (f k) ≤ m) → ((x : Tail) → tail ≡ Some x → x.weight ≤ 1000)
    → unsigned_abs (weighed alpha n f tail) ≤ 3_000_000_000 * (n * m)
unfolding weighed
weighed_small alpha n m f tail ha h w =
    let s = sum_below-within n m (λ k. f (k + 1)) (λ k l. h (k + 1)) in
    let p = tail_part_small n m f tail h w in
    let x = abs-product (pos (1000 * alpha)) (sum_below n (λ k. f (k + 1))) 1_000_000_000 (n * m)
    (omega (arith, ha)) s in
    let y =
    abs-product (pos (1_000_000 - alpha)) (tail_part n f tail) 1_000_000 (1000 * (2 * (n * m))) (omega arith) p in
    let t =
    abs-sum (pos (1000 * alpha) *ℤ sum_below n (λ k. f (k + 1))) (pos (1_000_000 - alpha) *ℤ tail_part n f tail) in
    omega (arith, x, y, t)

pub term_of_small : (inst : Tables) (tail : Option Tail) (i s t : ℕ) → IsFitting inst → 1 ≤ t → t ≤ inst.periods
    → ((x : Tail) → tail ≡ Some x → x.weight ≤ 1000)
    → unsigned_abs (term_of inst tail i s t) ≤ 300_000_000_000_000_000_000_000_000
unfolding term_of
term_of_small inst tail i s t fit one few w =
    let n = scenarios_of inst t in
    let some = scenarios_of_small inst t fit one few in
    let z = weighed_small inst.alpha n 100_000_000_000_000_000_000 (risk_of inst i s t) tail fit.alpha
    (λ k. weaken (unsigned_abs (risk_of inst i s t k)) (risk_of_small inst i s t k fit)) w in
    floor_within (weighed inst.alpha n (risk_of inst i s t) tail) (1000 * n) 300_000_000_000_000_000_000_000_000
    (omega (arith, some)) (omega (arith, z))
  where
    weaken : (n : ℕ) → n < 100_000_000_000_000_000_000 → n ≤ 100_000_000_000_000_000_000
    weaken n h = omega (arith, h)

-- a base, where each tail weighs at most 1000 thousandths
pub base_of_small : (inst : Tables) (tails : ℕ → Option Tail) (i s : ℕ) → IsFitting inst
    → ((t : ℕ) → 1 ≤ t → t ≤ inst.periods → (x : Tail) → tails t ≡ Some x → x.weight ≤ 1000)
    → unsigned_abs (base_of inst tails i s) < 10 ^ 30
unfolding base_of
base_of_small inst tails i s fit w =
    let all = sum_below-within inst.periods 300_000_000_000_000_000_000_000_000
    (λ u. cond (in_run inst i s (u + 1)) (term_of inst (tails (u + 1)) i s (u + 1)) (pos 0))
    (λ u l. at (in_run inst i s (u + 1)) (term_of inst (tails (u + 1)) i s (u + 1))
    (term_of_small inst (tails (u + 1)) i s (u + 1) fit (omega arith) (omega (arith, l))
    (w (u + 1) (omega arith) (omega (arith, l))))) in
    omega (arith, all, fit.few_periods)
  where
    at : (b : Bool) (z : ℤ) → unsigned_abs z ≤ 300_000_000_000_000_000_000_000_000
        → unsigned_abs (cond b z (pos 0)) ≤ 300_000_000_000_000_000_000_000_000
    at true z h = h
    at false z h = omega arith
