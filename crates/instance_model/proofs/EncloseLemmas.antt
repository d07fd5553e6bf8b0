-- The printed values enclose the exact values of every reading of the risks.
--
-- In a period with e soft starts in progress, each scenario sum of a reading is within e / 2 counts of the kept one. So
-- are the mean and each place in order, and the excess is within e counts. The periods are then added up.
use Rattle.std.proofs.Common.{◌≡◌, ℕ, zero, suc, ◌+◌, ◌-◌, ◌*◌, ◌<◌, ◌≤◌, refl, sym, ◌∙◌, ap, subst, arith, ℤ, pos}
use Rattle.std.proofs.Common.{◌+ℤ◌, ◌-ℤ◌, ◌*ℤ◌, ◌≤ℤ◌, Bool, true, false, cond, ◌&&◌, List, length, unsigned_abs, Option}
use Rattle.std.proofs.Common.{Some, None, IfSome, IsTrue, leb}
use Rattle.std.specs.Int.{int_max}
use Rattle.std.proofs.Math.Nat.{mul_assoc, mul_comm, mul_left_comm, add-mul, mul-le-mul_left}
use Rattle.std.proofs.lemmas.List.{get_or_past}
use Rattle.std.proofs.lemmas.List.FromFn.{length-map-range_with_len}
use Rattle.std.proofs.lemmas.Bool.Decides.{nat_tests}
use borrow.Author.Differences.{same_in, product_is}
use Rattle.fixed_num.specs.Sums.{sum_below, total, list_of}
use Rattle.fixed_num.specs.Floors.{floor_of, ceil_of}
use Rattle.fixed_num.specs.Rank.{mth_smallest}
use Rattle.fixed_num.proofs.SignedLemmas.{signed_arith}
use Rattle.fixed_num.proofs.SumLemmas.{*ℤ-+ℤ, total-list_of, sum_below-zero, sum_below-suc}
use Rattle.fixed_num.proofs.FloorLemmas.{floor_of-le, IsCeil-ceil_of}
use Rattle.instance_model.specs.Naturals.{count_sum, ceil_div_of}
use Rattle.instance_model.specs.Tables.{Tables, scenarios_of, rank_of, durations, delta_of, is_allowed, in_run, risk_of}
use Rattle.instance_model.specs.Tables.{soft_of}
use Rattle.instance_model.specs.Fitting.{IsFitting}
use Rattle.instance_model.specs.Plans.{start_of, RunsAreAllowed, risk_at, scenario_sum, scenario_sums, soft_at}
use Rattle.instance_model.specs.Plans.{soft_count}
use Rattle.instance_model.specs.Values.{excess_in, numerator_in, risk_total, excess_of, numerator_of, sum_of_floors}
use Rattle.instance_model.specs.Values.{sum_of_ceils, cost_slack, mean_slack, excess_floors, excess_ceils, cost_low_of}
use Rattle.instance_model.specs.Values.{cost_high_of, mean_low_of, mean_high_of, excess_low_of, excess_high_of}
use Rattle.instance_model.specs.Exact.{scenario_product, sum_of_quotients, with_risks, RoundsTo, IsReading, Encloses}
use Rattle.instance_model.specs.Exact.{EnclosesReading}
use Rattle.instance_model.proofs.FitLemmas.{scenarios_of_small, rank_of_from}
use Rattle.instance_model.proofs.DeviationLemmas.{Near, Near-zero, Near-add, Near-sum, Near-scale, Near-less, Near-max}
use Rattle.instance_model.proofs.DeviationLemmas.{scale_mono, scale-max, mul-add, distribute}
use Rattle.instance_model.proofs.RankLemmas.{mth_smallest-near}
use Rattle.instance_model.proofs.QuotientLemmas.{sum_of_quotients-least, sum_of_quotients-most, Encloses-from, spread}
use Rattle.instance_model.proofs.QuotientLemmas.{turn}

-- ---- what other risk numbers leave as it is
in_run-with_risks : (inst : Tables) (xs : List ℤ) (i s t : ℕ) → in_run (with_risks inst xs) i s t ≡ in_run inst i s t
unfolding in_run delta_of durations
in_run-with_risks inst xs i s t = refl

scenarios_of-with_risks : (inst : Tables) (xs : List ℤ) (t : ℕ)
    → scenarios_of (with_risks inst xs) t ≡ scenarios_of inst t
unfolding scenarios_of
scenarios_of-with_risks inst xs t = refl

rank_of-with_risks : (inst : Tables) (xs : List ℤ) (t : ℕ) → rank_of (with_risks inst xs) t ≡ rank_of inst t
unfolding rank_of scenarios_of
rank_of-with_risks inst xs t = refl

-- ---- one risk
start_allowed : (inst : Tables) (plan : List (Option ℕ)) (i s : ℕ) → RunsAreAllowed inst plan → start_of plan i ≡ Some s
    → is_allowed inst i s ≡ true
unfolding RunsAreAllowed
start_allowed inst plan i s h e = at (leb (length plan) i) refl
  where
    at : (b : Bool) → leb (length plan) i ≡ b → is_allowed inst i s ≡ true
    at true l = absurd (no (get_or_past plan i None (grind (arith, nat_tests))))
      where
        no : start_of plan i ≡ None → ⊥
        no n = clash (sym e ∙ n)
          where
            clash : Some s ≡ None → ⊥
            clash x = cc
    at false l =
        subst (λ (o : Option ℕ). IfSome o (λ r. IsTrue (is_allowed inst i r))) e (h i (grind (arith, nat_tests)))

rounds_near : (f : ℕ) (soft : Bool) (x c : ℤ) → RoundsTo f soft x c → Near f (cond soft 1 0) x c
rounds_near f true x c h = record { near = let m : f * 1 ≡ f = omega arith in rw m h }
rounds_near f false x c h = record { near = rw (zero_off (pos f *ℤ c) x h) (omega arith) }
  where
    zero_off : (y x : ℤ) → x ≡ y → x -ℤ y ≡ pos 0
    zero_off y x e = omega (arith, signed_arith, e)

risk_near : (inst : Tables) (f : ℕ) (numbers : List ℤ) (t k i : ℕ) (o : Option ℕ) → IsReading inst f numbers
    → i < length inst.names → 1 ≤ k → k ≤ scenarios_of inst t → ((s : ℕ) → o ≡ Some s → is_allowed inst i s ≡ true)
    → Near f (soft_at inst t i o) (risk_at (with_risks inst numbers) t k i o) (risk_at inst t k i o)
unfolding risk_at soft_at
risk_near inst f numbers t k i None r l one few a = Near-zero f
risk_near inst f numbers t k i (Some s) r l one few a =
    rw (in_run-with_risks inst numbers i s t)
    (at (in_run inst i s t) (soft_of inst i s t) (risk_of (with_risks inst numbers) i s t k) (risk_of inst i s t k)
    (λ e. r.rounds i s t k l (a s refl) e one few))
  where
    at : (b soft : Bool) (x c : ℤ) → (b ≡ true → RoundsTo f soft x c)
        → Near f (cond (b && soft) 1 0) (cond b x (pos 0)) (cond b c (pos 0))
    at true soft x c h = rounds_near f soft x c (h refl)
    at false soft x c h = Near-zero f

-- ---- one period
scenario_near : (inst : Tables) (plan : List (Option ℕ)) (f : ℕ) (numbers : List ℤ) (t k : ℕ) → RunsAreAllowed inst plan
    → IsReading inst f numbers → 1 ≤ k → k ≤ scenarios_of inst t
    → Near f (soft_count inst plan t) (scenario_sum (with_risks inst numbers) plan t k) (scenario_sum inst plan t k)
unfolding scenario_sum soft_count
scenario_near inst plan f numbers t k a r one few =
    Near-sum f (length inst.names) (λ i. soft_at inst t i (start_of plan i))
    (λ i. risk_at (with_risks inst numbers) t k i (start_of plan i)) (λ i. risk_at inst t k i (start_of plan i))
    (λ i l. risk_near inst f numbers t k i (start_of plan i) r l one few (λ s e. start_allowed inst plan i s a e))

sums_are : (inst : Tables) (plan : List (Option ℕ)) (numbers : List ℤ) (t : ℕ)
    → scenario_sums (with_risks inst numbers) plan t
    ≡ list_of (scenarios_of inst t) (λ k. scenario_sum (with_risks inst numbers) plan t (k + 1))
unfolding scenario_sums
sums_are inst plan numbers t = ap (λ (n : ℕ). list_of n (λ k. scenario_sum (with_risks inst numbers) plan t (k + 1)))
    (scenarios_of-with_risks inst numbers t)

sums_kept : (inst : Tables) (plan : List (Option ℕ)) (t : ℕ)
    → scenario_sums inst plan t ≡ list_of (scenarios_of inst t) (λ k. scenario_sum inst plan t (k + 1))
unfolding scenario_sums
sums_kept inst plan t = refl

count_sum-constant : (n e : ℕ) → count_sum n (λ k. e) ≡ n * e
unfolding count_sum
count_sum-constant zero e = omega arith
count_sum-constant (suc n) e = omega (arith, count_sum-constant n e)

-- the lists of one period, as functions of the scenario
total_near : (f n e : ℕ) (x c : ℕ → ℤ) → ((k : ℕ) → k < n → Near f e (x k) (c k))
    → Near f (n * e) (total (list_of n x)) (total (list_of n c))
total_near f n e x c h =
    rw (total-list_of n x, total-list_of n c, ← count_sum-constant n e) (Near-sum f n (λ k. e) x c h)

excess_near : (f n e m : ℕ) (x c : ℕ → ℤ) → 1 ≤ m → m ≤ n → ((k : ℕ) → k < n → Near f e (x k) (c k))
    → Near f (n * e + n * e) (excess_in m (list_of n x)) (excess_in m (list_of n c))
unfolding excess_in
excess_near f n e m x c one few h =
    let q = Near-scale f e n (mth_smallest m (list_of n x)) (mth_smallest m (list_of n c))
    (mth_smallest-near f e n m x c one few h) in
    let s = total_near f n e x c h in
    rw (length-map-range_with_len x 0 n, length-map-range_with_len c 0 n)
    (Near-max f (n * e + n * e) (pos n *ℤ mth_smallest m (list_of n x) -ℤ total (list_of n x))
    (pos n *ℤ mth_smallest m (list_of n c) -ℤ total (list_of n c))
    (Near-less f (n * e) (n * e) (pos n *ℤ mth_smallest m (list_of n x)) (total (list_of n x))
    (pos n *ℤ mth_smallest m (list_of n c)) (total (list_of n c)) q s))

weights : (a n e : ℕ) → a ≤ 1_000_000 → a * (n * e) + (1_000_000 - a) * (n * e + n * e) ≡ n * (e * (2_000_000 - a))
weights a n e h =
    let w = 1_000_000 - a in
    let one : 2_000_000 - a ≡ a + w + w = omega arith in
    let two = add-mul (a + w) w (n * e) in
    let three = add-mul a w (n * e) in
    let four = mul-add w (n * e) (n * e) in
    let five : n * (e * (2_000_000 - a)) ≡ (2_000_000 - a) * (n * e) =
    sym (mul_assoc n e (2_000_000 - a)) ∙ mul_comm (n * e) (2_000_000 - a) in
    let six : (2_000_000 - a) * (n * e) ≡ (a + w + w) * (n * e) = ap (λ (x : ℕ). x * (n * e)) one in
    omega (arith, two, three, four, five, six)

numerator_near : (f n e m a : ℕ) (x c : ℕ → ℤ) → a ≤ 1_000_000 → 1 ≤ m → m ≤ n
    → ((k : ℕ) → k < n → Near f e (x k) (c k))
    → Near f (n * (e * (2_000_000 - a))) (numerator_in a m (list_of n x)) (numerator_in a m (list_of n c))
unfolding numerator_in
numerator_near f n e m a x c small one few h =
    rw (← weights a n e small)
    (Near-add f (a * (n * e)) ((1_000_000 - a) * (n * e + n * e)) (pos a *ℤ total (list_of n x))
    (pos (1_000_000 - a) *ℤ excess_in m (list_of n x)) (pos a *ℤ total (list_of n c))
    (pos (1_000_000 - a) *ℤ excess_in m (list_of n c))
    (Near-scale f (n * e) a (total (list_of n x)) (total (list_of n c)) (total_near f n e x c h))
    (Near-scale f (n * e + n * e) (1_000_000 - a) (excess_in m (list_of n x)) (excess_in m (list_of n c))
    (excess_near f n e m x c one few h)))

-- ---- the same of a plan
near_sums : (inst : Tables) (plan : List (Option ℕ)) (f : ℕ) (numbers : List ℤ) (t : ℕ) → RunsAreAllowed inst plan
    → IsReading inst f numbers → (k : ℕ) → k < scenarios_of inst t
    → Near f (soft_count inst plan t) (scenario_sum (with_risks inst numbers) plan t (k + 1))
    (scenario_sum inst plan t (k + 1))
near_sums inst plan f numbers t a r k l =
    scenario_near inst plan f numbers t (k + 1) a r (omega arith) (omega (arith, l))

pub risk_total-near : (inst : Tables) (plan : List (Option ℕ)) (f : ℕ) (numbers : List ℤ) (t : ℕ)
    → RunsAreAllowed inst plan → IsReading inst f numbers
    → Near f (scenarios_of inst t * soft_count inst plan t) (risk_total (with_risks inst numbers) plan t)
    (risk_total inst plan t)
risk_total-near inst plan f numbers t a r =
    rw (sums_are inst plan numbers t, sums_kept inst plan t)
    (total_near f (scenarios_of inst t) (soft_count inst plan t)
    (λ k. scenario_sum (with_risks inst numbers) plan t (k + 1)) (λ k. scenario_sum inst plan t (k + 1))
    (near_sums inst plan f numbers t a r))

pub excess_of-near : (inst : Tables) (plan : List (Option ℕ)) (f : ℕ) (numbers : List ℤ) (t : ℕ) → IsFitting inst
    → 1 ≤ t → t ≤ inst.periods → RunsAreAllowed inst plan → IsReading inst f numbers
    → Near f (scenarios_of inst t * soft_count inst plan t + scenarios_of inst t * soft_count inst plan t)
    (excess_of (with_risks inst numbers) plan t) (excess_of inst plan t)
excess_of-near inst plan f numbers t fit one few a r =
    let m = rank_of_from inst t fit one few in
    rw (rank_of-with_risks inst numbers t, sums_are inst plan numbers t, sums_kept inst plan t)
    (excess_near f (scenarios_of inst t) (soft_count inst plan t) (rank_of inst t)
    (λ k. scenario_sum (with_risks inst numbers) plan t (k + 1)) (λ k. scenario_sum inst plan t (k + 1)) m.0 m.1
    (near_sums inst plan f numbers t a r))

pub numerator_of-near : (inst : Tables) (plan : List (Option ℕ)) (f : ℕ) (numbers : List ℤ) (t : ℕ) → IsFitting inst
    → 1 ≤ t → t ≤ inst.periods → RunsAreAllowed inst plan → IsReading inst f numbers
    → Near f (scenarios_of inst t * (soft_count inst plan t * (2_000_000 - inst.alpha)))
    (numerator_of (with_risks inst numbers) plan t) (numerator_of inst plan t)
numerator_of-near inst plan f numbers t fit one few a r =
    let m = rank_of_from inst t fit one few in
    rw (rank_of-with_risks inst numbers t, sums_are inst plan numbers t, sums_kept inst plan t)
    (numerator_near f (scenarios_of inst t) (soft_count inst plan t) (rank_of inst t) inst.alpha
    (λ k. scenario_sum (with_risks inst numbers) plan t (k + 1)) (λ k. scenario_sum inst plan t (k + 1)) fit.alpha
    m.0 m.1 (near_sums inst plan f numbers t a r))

-- ---- from near to bounds, in one period
fold_factors : (f n : ℕ) (l : ℤ) → pos (f * n) *ℤ l ≡ pos f *ℤ (l *ℤ pos n)
fold_factors f n l = turn l (f * n) ∙ ap (λ (m : ℕ). l *ℤ pos m) (mul_comm f n) ∙ spread l n f

product_of_counts : (f n c : ℕ) → pos (f * n) *ℤ pos c ≡ pos (f * (n * c))
product_of_counts f n c = same_in (pos (f * n) *ℤ pos c) (pos (f * (n * c)))
    (omega (arith, product_is (pos (f * n)) (pos c), mul_assoc f n c))

twice : (f n s c : ℕ) → s ≤ 2 * c → f * (n * s) ≤ 2 * (f * (n * c))
twice f n s c l =
    let a : n * s ≤ n * (2 * c) = mul-le-mul_left n l in
    let b : f * (n * s) ≤ f * (n * (2 * c)) = mul-le-mul_left f a in
    let e : f * (n * (2 * c)) ≡ 2 * (f * (n * c)) =
    ap (λ (x : ℕ). f * x) (mul_left_comm n 2 c) ∙ mul_left_comm f 2 (n * c) in
    omega (arith, b, e)

low_bound : (f n s c : ℕ) (x v : ℤ) → 0 < n → s ≤ 2 * c → Near f (n * s) x v
    → (pos (f * n) *ℤ (floor_of v n -ℤ pos c)) ≤ℤ x
low_bound f n s c x v some l h =
    let q = floor_of v n in
    let m = scale_mono f (q *ℤ pos n) v (floor_of-le v n some) in
    let e : pos (f * n) *ℤ (q -ℤ pos c) ≡ (pos f *ℤ (q *ℤ pos n)) -ℤ pos (f * (n * c)) = distribute (f * n) q (pos c)
    ∙ ap (λ (z : ℤ). z -ℤ (pos (f * n) *ℤ pos c)) (fold_factors f n q)
    ∙ ap (λ (z : ℤ). (pos f *ℤ (q *ℤ pos n)) -ℤ z) (product_of_counts f n c) in
    rw e (linear (f * (n * s)) (f * (n * c)) x (pos f *ℤ v) (pos f *ℤ (q *ℤ pos n)) h.near (twice f n s c l) m)
  where
    linear : (b d : ℕ) (x y w : ℤ) → 2 * unsigned_abs (x -ℤ y) ≤ b → b ≤ 2 * d → w ≤ℤ y → (w -ℤ pos d) ≤ℤ x
    linear b d x y w h k m = omega (arith, signed_arith, h, k, m)

high_bound : (f n s c : ℕ) (x v : ℤ) → 0 < n → s ≤ 2 * c → Near f (n * s) x v
    → x ≤ℤ (pos (f * n) *ℤ (ceil_of v n +ℤ pos c))
high_bound f n s c x v some l h =
    let q = ceil_of v n in
    let reached = subst (λ (z : ℤ). v ≤ℤ z) (turn q n) (IsCeil-ceil_of v n some).reached in
    let m = scale_mono f v (q *ℤ pos n) reached in
    let e : pos (f * n) *ℤ (q +ℤ pos c) ≡ (pos f *ℤ (q *ℤ pos n)) +ℤ pos (f * (n * c)) = *ℤ-+ℤ (pos (f * n)) q (pos c)
    ∙ ap (λ (z : ℤ). z +ℤ (pos (f * n) *ℤ pos c)) (fold_factors f n q)
    ∙ ap (λ (z : ℤ). (pos f *ℤ (q *ℤ pos n)) +ℤ z) (product_of_counts f n c) in
    rw e (linear (f * (n * s)) (f * (n * c)) x (pos f *ℤ v) (pos f *ℤ (q *ℤ pos n)) h.near (twice f n s c l) m)
  where
    linear : (b d : ℕ) (x y w : ℤ) → 2 * unsigned_abs (x -ℤ y) ≤ b → b ≤ 2 * d → y ≤ℤ w → x ≤ℤ (w +ℤ pos d)
    linear b d x y w h k m = omega (arith, signed_arith, h, k, m)

-- ---- over all periods
sum_below-less : (n : ℕ) (g : ℕ → ℤ) (c : ℕ → ℕ)
    → sum_below n (λ k. g k -ℤ pos (c k)) ≡ sum_below n g -ℤ pos (count_sum n c)
unfolding count_sum
sum_below-less zero g c = rw (sum_below-zero g, sum_below-zero (λ k. g k -ℤ pos (c k))) refl
sum_below-less (suc n) g c =
    rw (sum_below-suc n g, sum_below-suc n (λ k. g k -ℤ pos (c k)), sum_below-less n g c)
    (step (sum_below n g) (g n) (count_sum n c) (c n))
  where
    step : (a b : ℤ) (x y : ℕ) → (a -ℤ pos x) +ℤ (b -ℤ pos y) ≡ (a +ℤ b) -ℤ pos (x + y)
    step a b x y = omega (arith, signed_arith)

sum_below-plus : (n : ℕ) (g : ℕ → ℤ) (c : ℕ → ℕ)
    → sum_below n (λ k. g k +ℤ pos (c k)) ≡ sum_below n g +ℤ pos (count_sum n c)
unfolding count_sum
sum_below-plus zero g c = rw (sum_below-zero g, sum_below-zero (λ k. g k +ℤ pos (c k))) refl
sum_below-plus (suc n) g c =
    rw (sum_below-suc n g, sum_below-suc n (λ k. g k +ℤ pos (c k)), sum_below-plus n g c)
    (step (sum_below n g) (g n) (count_sum n c) (c n))
  where
    step : (a b : ℤ) (x y : ℕ) → (a +ℤ pos x) +ℤ (b +ℤ pos y) ≡ (a +ℤ b) +ℤ pos (x + y)
    step a b x y = omega (arith, signed_arith)

half_up : (s : ℕ) → s ≤ 2 * ceil_div_of s 2
half_up s = omega arith

some_scenarios : (inst : Tables) → IsFitting inst → (t : ℕ) → 1 ≤ t → t ≤ inst.periods → 1 ≤ scenarios_of inst t
some_scenarios inst fit t one few = (scenarios_of_small inst t fit one few).0

-- values that are near the kept ones, by a slack a period
near_encloses : (inst : Tables) (f k : ℕ) (s : ℕ → ℕ) (x v : ℕ → ℤ) → IsFitting inst → 0 < k
    → ((t : ℕ) → 1 ≤ t → t ≤ inst.periods → Near f (scenarios_of inst t * s t) (x t) (v t))
    → Encloses (floor_of (sum_of_floors inst v -ℤ pos (count_sum inst.periods (λ u. ceil_div_of (s (u + 1)) 2))) k)
    (ceil_of (sum_of_ceils inst v +ℤ pos (count_sum inst.periods (λ u. ceil_div_of (s (u + 1)) 2))) k)
    (sum_of_quotients inst x) (k * (f * scenario_product inst))
unfolding sum_of_floors sum_of_ceils
near_encloses inst f k s x v fit some h =
    let low : ℕ → ℤ = λ t. floor_of (v t) (scenarios_of inst t) -ℤ pos (ceil_div_of (s t) 2) in
    let high : ℕ → ℤ = λ t. ceil_of (v t) (scenarios_of inst t) +ℤ pos (ceil_div_of (s t) 2) in
    let n = some_scenarios inst fit in
    let l = sum_of_quotients-least inst f low x n (λ t one few. low_bound f (scenarios_of inst t) (s t)
    (ceil_div_of (s t) 2) (x t) (v t) (n t one few) (half_up (s t)) (h t one few)) in
    let m = sum_of_quotients-most inst f high x n (λ t one few. high_bound f (scenarios_of inst t) (s t)
    (ceil_div_of (s t) 2) (x t) (v t) (n t one few) (half_up (s t)) (h t one few)) in
    let el = sum_below-less inst.periods (λ u. floor_of (v (u + 1)) (scenarios_of inst (u + 1)))
    (λ u. ceil_div_of (s (u + 1)) 2) in
    let em = sum_below-plus inst.periods (λ u. ceil_of (v (u + 1)) (scenarios_of inst (u + 1)))
    (λ u. ceil_div_of (s (u + 1)) 2) in
    Encloses-from _ _ (sum_of_quotients inst x) k (f * scenario_product inst) some
    (subst (λ (z : ℤ). (pos (f * scenario_product inst) *ℤ z) ≤ℤ sum_of_quotients inst x) el l)
    (subst (λ (z : ℤ). sum_of_quotients inst x ≤ℤ (pos (f * scenario_product inst) *ℤ z)) em m)

cost_encloses : (inst : Tables) (plan : List (Option ℕ)) (f : ℕ) (numbers : List ℤ) → IsFitting inst
    → RunsAreAllowed inst plan → IsReading inst f numbers
    → Encloses (cost_low_of inst plan) (cost_high_of inst plan)
    (sum_of_quotients inst (numerator_of (with_risks inst numbers) plan))
    (inst.periods * 1_000_000 * f * scenario_product inst)
unfolding cost_slack
cost_encloses inst plan f numbers fit a r =
    rw (mul_assoc (inst.periods * 1_000_000) f (scenario_product inst))
    (near_encloses inst f (inst.periods * 1_000_000) (λ t. soft_count inst plan t * (2_000_000 - inst.alpha))
    (numerator_of (with_risks inst numbers) plan) (numerator_of inst plan) fit (omega (arith, fit.some_periods))
    (λ t one few. numerator_of-near inst plan f numbers t fit one few a r))

mean_encloses : (inst : Tables) (plan : List (Option ℕ)) (f : ℕ) (numbers : List ℤ) → IsFitting inst
    → RunsAreAllowed inst plan → IsReading inst f numbers → Encloses (mean_low_of inst plan) (mean_high_of inst
    plan) (sum_of_quotients inst (risk_total (with_risks inst numbers) plan)) (inst.periods * f * scenario_product inst)
unfolding mean_slack
mean_encloses inst plan f numbers fit a r =
    rw (mul_assoc inst.periods f (scenario_product inst))
    (near_encloses inst f inst.periods (soft_count inst plan) (risk_total (with_risks inst numbers) plan)
    (risk_total inst plan) fit (omega (arith, fit.some_periods))
    (λ t one few. risk_total-near inst plan f numbers t a r))

excess_positive : (m : ℕ) (sums : List ℤ) → pos 0 ≤ℤ excess_in m sums
unfolding excess_in
excess_positive m sums = at (pos (length sums) *ℤ mth_smallest m sums -ℤ total sums)
  where
    at : (z : ℤ) → pos 0 ≤ℤ int_max (pos 0) z
    at z = omega (arith, signed_arith)

excess_near_twice : (inst : Tables) (plan : List (Option ℕ)) (f : ℕ) (numbers : List ℤ) (t : ℕ) → IsFitting inst → 1 ≤ t
    → t ≤ inst.periods → RunsAreAllowed inst plan → IsReading inst f numbers
    → Near f (scenarios_of inst t * (soft_count inst plan t + soft_count inst plan t))
    (excess_of (with_risks inst numbers) plan t) (excess_of inst plan t)
excess_near_twice inst plan f numbers t fit one few a r = rw (mul-add (scenarios_of inst t) (soft_count inst plan t)
    (soft_count inst plan t)) (excess_of-near inst plan f numbers t fit one few a r)

low_or_zero : (n : ℕ) (z x : ℤ) → pos 0 ≤ℤ x → (pos n *ℤ z) ≤ℤ x → (pos n *ℤ int_max (pos 0) z) ≤ℤ x
low_or_zero n z x p h = rw (scale-max n z) (both (pos n *ℤ z) x p h)
  where
    both : (y x : ℤ) → pos 0 ≤ℤ x → y ≤ℤ x → int_max (pos 0) y ≤ℤ x
    both y x p h = omega (arith, signed_arith, p, h)

excess_encloses : (inst : Tables) (plan : List (Option ℕ)) (f : ℕ) (numbers : List ℤ) → IsFitting inst
    → RunsAreAllowed inst plan → IsReading inst f numbers → Encloses (excess_low_of inst plan) (excess_high_of inst
    plan) (sum_of_quotients inst (excess_of (with_risks inst numbers) plan)) (inst.periods * f * scenario_product inst)
unfolding excess_floors excess_ceils
excess_encloses inst plan f numbers fit a r =
    let x : ℕ → ℤ = excess_of (with_risks inst numbers) plan in
    let v : ℕ → ℤ = excess_of inst plan in
    let e : ℕ → ℕ = soft_count inst plan in
    let low : ℕ → ℤ = λ t. int_max (pos 0) (floor_of (v t) (scenarios_of inst t) -ℤ pos (e t)) in
    let high : ℕ → ℤ = λ t. ceil_of (v t) (scenarios_of inst t) +ℤ pos (e t) in
    let n = some_scenarios inst fit in
    let l = sum_of_quotients-least inst f low x n (λ t one few.
    low_or_zero (f * scenarios_of inst t) (floor_of (v t) (scenarios_of inst t) -ℤ pos (e t)) (x t)
    (excess_positive (rank_of (with_risks inst numbers) t) (scenario_sums (with_risks inst numbers) plan t))
    (low_bound f (scenarios_of inst t) (e t + e t) (e t) (x t) (v t) (n t one few) (omega arith)
    (excess_near_twice inst plan f numbers t fit one few a r))) in
    let m = sum_of_quotients-most inst f high x n (λ t one few. high_bound f (scenarios_of inst t) (e t + e t) (e t)
    (x t) (v t) (n t one few) (omega arith) (excess_near_twice inst plan f numbers t fit one few a r)) in
    rw (mul_assoc inst.periods f (scenario_product inst))
    (Encloses-from (sum_below inst.periods (λ u. low (u + 1))) (sum_below inst.periods (λ u. high (u + 1)))
    (sum_of_quotients inst x) inst.periods (f * scenario_product inst) (omega (arith, fit.some_periods)) l m)

pub EnclosesReading-from : (inst : Tables) (plan : List (Option ℕ)) (f : ℕ) (numbers : List ℤ) → IsFitting inst
    → RunsAreAllowed inst plan → IsReading inst f numbers → EnclosesReading inst plan f numbers
EnclosesReading-from inst plan f numbers fit a r =
    record {
      cost = cost_encloses inst plan f numbers fit a r;
      mean = mean_encloses inst plan f numbers fit a r;
      excess = excess_encloses inst plan f numbers fit a r;
    }

-- ---- the kept counts are a reading
counts_round : (soft : Bool) (c : ℤ) → RoundsTo 1 soft c c
counts_round true c = let z : c -ℤ pos 1 *ℤ c ≡ pos 0 = omega (arith, signed_arith) in rw z (omega arith)
counts_round false c = omega (arith, signed_arith)

pub IsReading-counts : (inst : Tables) → IsReading inst 1 inst.risks
IsReading-counts inst = record {
  some = omega arith;
  each = refl;
  rounds = λ i s t k l a ru one few. counts_round (soft_of inst i s t) (risk_of inst i s t k);
}
