-- What the calls over a period make.
use Rattle.std.proofs.Common.{◌≡◌, ℕ, ◌-◌, ◌≤◌, refl, ◌∙◌, ap, arith, ℤ, pos, ◌+ℤ◌, ◌-ℤ◌, ◌*ℤ◌, List, Option, Some}
use Rattle.std.proofs.Common.{None, unsigned_abs, to_z, of_z, Bool, true, false, cond}
use Rattle.std.specs.Int.{w128, int_max}
use Rattle.fixed_num.specs.Sums.{total}
use Rattle.fixed_num.specs.Rank.{mth_smallest}
use Rattle.fixed_num.proofs.Bits.{by_bits}
use Rattle.fixed_num.proofs.SignedLemmas.{back_from_abs}
use Rattle.instance_model.specs.Tables.{Tables, scenarios_of, rank_of, in_run, soft_of}
use Rattle.instance_model.specs.Plans.{soft_at, scenario_sums, soft_count}
use Rattle.instance_model.specs.Values.{excess_in, numerator_in, excess_of, numerator_of}
use Rattle.instance_model.proofs.PlanLemmas.{length-scenario_sums}
use Rattle.plan_score.specs.Periods.{IsPeriod}

-- ---- what one intervention adds

pub soft_at-none : (inst : Tables) (t i : ℕ) (o : Option ℕ) → o ≡ None → 0 ≡ soft_at inst t i o
unfolding soft_at
soft_at-none inst t i o e = rw e refl

pub soft_at-idle : (inst : Tables) (t i s : ℕ) (o : Option ℕ) → o ≡ Some s → in_run inst i s t ≡ false
    → 0 ≡ soft_at inst t i o
unfolding soft_at
soft_at-idle inst t i s o e h = rw (e, h) refl

pub soft_at-running : (inst : Tables) (t i s : ℕ) (o : Option ℕ) (b : Bool) → o ≡ Some s → in_run inst i s t ≡ true
    → b ≡ soft_of inst i s t → cond b 1 0 ≡ soft_at inst t i o
unfolding soft_at
soft_at-running inst t i s o b e h q = rw (e, h, q) refl

-- ---- what the sums of a period come to

excess_is : (inst : Tables) (plan : List (Option ℕ)) (t n r : ℕ) (q sum e : ℤ) → n ≡ scenarios_of inst t
    → r ≡ rank_of inst t → q ≡ mth_smallest r (scenario_sums inst plan t) → sum ≡ total (scenario_sums inst plan t)
    → e ≡ int_max (pos 0) (pos n *ℤ q -ℤ sum) → e ≡ excess_of inst plan t
unfolding excess_in
excess_is inst plan t n r q sum e a b d f h = rw (h, a, d, b, f, length-scenario_sums inst plan t) refl

numerator_is : (inst : Tables) (plan : List (Option ℕ)) (t a : ℕ) (sum e w : ℤ) → a ≡ inst.alpha
    → sum ≡ total (scenario_sums inst plan t) → e ≡ excess_of inst plan t
    → w ≡ (pos a *ℤ sum) +ℤ (pos (1_000_000 - a) *ℤ e) → w ≡ numerator_of inst plan t
unfolding numerator_in
numerator_is inst plan t a sum e w p q r h = rw (h, p, q, r) refl

pub IsPeriod-made : (inst : Tables) (plan : List (Option ℕ)) (t n r a g : ℕ) (xs ys : List ℤ) (sum q e w : ℤ) → ys ≡ xs
    → xs ≡ scenario_sums inst plan t → n ≡ scenarios_of inst t → r ≡ rank_of inst t → a ≡ inst.alpha → sum ≡ total ys
    → q ≡ mth_smallest r xs → e ≡ int_max (pos 0) (pos n *ℤ by_bits q -ℤ by_bits sum)
    → w ≡ (pos a *ℤ by_bits sum) +ℤ (pos (1_000_000 - a) *ℤ by_bits e)
    → unsigned_abs q ≤ 102_400_000_000_000_000_000_000 → unsigned_abs sum ≤ 104_857_600_000_000_000_000_000_000
    → unsigned_abs e ≤ 209_715_200_000_000_000_000_000_000
    → unsigned_abs w ≤ 314_572_800_000_000_000_000_000_000_000_000 → g ≡ soft_count inst plan t → g ≤ 1024
    → IsPeriod inst plan t (record {
      total = to_z w128 (of_z w128 sum);
      excess = to_z w128 (of_z w128 e);
      numerator = to_z w128 (of_z w128 w);
      soft = g;
    })
IsPeriod-made inst plan t n r a g xs ys sum q e w y x en er ea es eq ee ew sq ss se sw eg sg =
    let bs = back_from_abs sum (omega (arith, ss)) in
    let bq = back_from_abs q (omega (arith, sq)) in
    let be = back_from_abs e (omega (arith, se)) in
    let bw = back_from_abs w (omega (arith, sw)) in
    let s : sum ≡ total (scenario_sums inst plan t) = es ∙ ap total (y ∙ x) in
    let m : q ≡ mth_smallest r (scenario_sums inst plan t) = eq ∙ ap (mth_smallest r) x in
    let ee' : e ≡ int_max (pos 0) (pos n *ℤ q -ℤ sum) = ee
    ∙ ap (λ (x : ℤ). int_max (pos 0) (pos n *ℤ x -ℤ by_bits sum)) bq
    ∙ ap (λ (x : ℤ). int_max (pos 0) (pos n *ℤ q -ℤ x)) bs in
    let ew' : w ≡ (pos a *ℤ sum) +ℤ (pos (1_000_000 - a) *ℤ e) = ew
    ∙ ap (λ (x : ℤ). (pos a *ℤ x) +ℤ (pos (1_000_000 - a) *ℤ by_bits e)) bs
    ∙ ap (λ (x : ℤ). (pos a *ℤ sum) +ℤ (pos (1_000_000 - a) *ℤ x)) be in
    let ex = excess_is inst plan t n r q sum e en er m s ee' in
    record {
      total = bs ∙ s;
      excess = be ∙ ex;
      numerator = bw ∙ numerator_is inst plan t a sum e w ea s ex ew';
      soft = eg;
      total_small = rw bs ss;
      excess_small = rw be se;
      numerator_small = rw bw sw;
      soft_small = sg;
    }
