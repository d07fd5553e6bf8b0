-- A plan of allowed starts has no violation exactly where it is feasible.
use Rattle.std.proofs.Common.{◌≡◌, ℕ, zero, suc, ◌+◌, ◌-◌, ◌*◌, ◌<◌, ◌≤◌, refl, sym, ◌∙◌, subst, arith, ℤ, pos, ◌+ℤ◌}
use Rattle.std.proofs.Common.{◌≤ℤ◌, Bool, true, false, cond, List, [], ◌∷◌, length, get_or, map, Option, Some, None}
use Rattle.std.proofs.Common.{is_some, ltb}
use Rattle.std.proofs.lemmas.Bool.Decides.{nat_tests}
use Rattle.fixed_num.specs.Sums.{sum_below}
use Rattle.fixed_num.proofs.SignedLemmas.{signed_arith}
use Rattle.fixed_num.proofs.SumLemmas.{sum_below-zero, sum_below-suc, sum_below_same, sum_below-none}
use Rattle.instance_model.specs.declared.rule.Rule.{Rule}
use Rattle.instance_model.specs.Naturals.{count_sum}
use Rattle.instance_model.specs.Tables.{Tables}
use Rattle.instance_model.specs.Plans.{start_of, HasAllowedStart, AreAllowedStarts}
use Rattle.instance_model.specs.Rules.{clash_rule_at, IsFeasible, IsWithinBand}
use Rattle.instance_model.specs.Keys.{band_gap, band_gaps, clash_count, violation_of}
use Rattle.instance_model.proofs.RuleLemmas.{keeps_apart, clash_rule_at-none, KeepsRules-from, IsFeasible-from}

-- ---- sums of numbers that are not negative
sum_below-positive : (n : ℕ) (f : ℕ → ℤ) → ((k : ℕ) → k < n → pos 0 ≤ℤ f k) → pos 0 ≤ℤ sum_below n f
sum_below-positive zero f h = rw (sum_below-zero f) (omega (arith, signed_arith))
sum_below-positive (suc n) f h =
    let ih : pos 0 ≤ℤ sum_below n f = sum_below-positive n f (λ k l. h k (omega arith)) in
    let e : pos 0 ≤ℤ f n = h n (omega arith) in
    rw (sum_below-suc n f) (omega (arith, signed_arith))

sum_below-each_zero : (n : ℕ) (f : ℕ → ℤ) → ((k : ℕ) → k < n → pos 0 ≤ℤ f k) → sum_below n f ≡ pos 0
    → (k : ℕ) → k < n → f k ≡ pos 0
sum_below-each_zero zero f h z k l = absurd (omega (arith, l))
sum_below-each_zero (suc n) f h z k l =
    let before : pos 0 ≤ℤ sum_below n f = sum_below-positive n f (λ j m. h j (omega arith)) in
    let here : pos 0 ≤ℤ f n = h n (omega arith) in
    let whole = rw (sum_below-suc n f) at z in
    let rest : sum_below n f ≡ pos 0 = omega (arith, signed_arith, whole) in
    let last : f n ≡ pos 0 = omega (arith, signed_arith, whole) in
    at (ltb k n) refl last (λ m. sum_below-each_zero n f (λ j m. h j (omega arith)) rest k m)
  where
    at : (b : Bool) → ltb k n ≡ b → f n ≡ pos 0 → (k < n → f k ≡ pos 0) → f k ≡ pos 0
    at true e last ih = ih (grind (arith, nat_tests))
    at false e last ih = let m : k ≡ n = grind (arith, nat_tests) in subst (λ (j : ℕ). f j ≡ pos 0) (sym m) last

sum_below-all_zero : (n : ℕ) (f : ℕ → ℤ) → ((k : ℕ) → k < n → f k ≡ pos 0) → sum_below n f ≡ pos 0
sum_below-all_zero n f h = sum_below_same n f (λ k. pos 0) h ∙ sum_below-none n

count_sum-each_zero : (n : ℕ) (f : ℕ → ℕ) → count_sum n f ≡ 0 → (k : ℕ) → k < n → f k ≡ 0
unfolding count_sum
count_sum-each_zero zero f z k l = absurd (omega (arith, l))
count_sum-each_zero (suc n) f z k l =
    at (ltb k n) refl (omega (arith, z)) (λ m. count_sum-each_zero n f (omega (arith, z)) k m)
  where
    at : (b : Bool) → ltb k n ≡ b → f n ≡ 0 → (k < n → f k ≡ 0) → f k ≡ 0
    at true e last ih = ih (grind (arith, nat_tests))
    at false e last ih = let m : k ≡ n = grind (arith, nat_tests) in subst (λ (j : ℕ). f j ≡ 0) (sym m) last

count_sum-all_zero : (n : ℕ) (f : ℕ → ℕ) → ((k : ℕ) → k < n → f k ≡ 0) → count_sum n f ≡ 0
unfolding count_sum
count_sum-all_zero zero f h = refl
count_sum-all_zero (suc n) f h = omega (arith, count_sum-all_zero n f (λ k l. h k (omega arith)), h n (omega arith))

-- ---- bands
band_gap-positive : (inst : Tables) (plan : List (Option ℕ)) (c t : ℕ) → pos 0 ≤ℤ band_gap inst plan c t
unfolding band_gap
band_gap-positive inst plan c t = omega (arith, signed_arith)

within-from_gap : (inst : Tables) (plan : List (Option ℕ)) (c t : ℕ) → band_gap inst plan c t ≡ pos 0
    → IsWithinBand inst plan c t
unfolding band_gap
within-from_gap inst plan c t e =
    record { not_below = omega (arith, signed_arith, e); not_above = omega (arith, signed_arith, e) }

band_gap-zero : (inst : Tables) (plan : List (Option ℕ)) (c t : ℕ) → IsWithinBand inst plan c t
    → band_gap inst plan c t ≡ pos 0
unfolding band_gap
band_gap-zero inst plan c t w =
    let a = w.not_below in
    let b = w.not_above in
    omega (arith, signed_arith, a, b)

row_positive : (inst : Tables) (plan : List (Option ℕ)) (c : ℕ)
    → pos 0 ≤ℤ sum_below inst.periods (λ u. band_gap inst plan c (u + 1))
row_positive inst plan c =
    sum_below-positive inst.periods (λ u. band_gap inst plan c (u + 1)) (λ u l. band_gap-positive inst plan c (u + 1))

band_gaps-positive : (inst : Tables) (plan : List (Option ℕ)) → pos 0 ≤ℤ band_gaps inst plan
unfolding band_gaps
band_gaps-positive inst plan = sum_below-positive (length inst.resource_names)
    (λ c. sum_below inst.periods (λ u. band_gap inst plan c (u + 1))) (λ c l. row_positive inst plan c)

loads-from_gaps : (inst : Tables) (plan : List (Option ℕ)) → band_gaps inst plan ≡ pos 0 → (c t : ℕ)
    → c < length inst.resource_names → 1 ≤ t → t ≤ inst.periods → IsWithinBand inst plan c t
unfolding band_gaps
loads-from_gaps inst plan z c t l one few =
    let row = sum_below-each_zero (length inst.resource_names)
    (λ c. sum_below inst.periods (λ u. band_gap inst plan c (u + 1))) (λ c l. row_positive inst plan c) z c l in
    let here = sum_below-each_zero inst.periods (λ u. band_gap inst plan c (u + 1))
    (λ u l. band_gap-positive inst plan c (u + 1)) row (t - 1) (omega arith) in
    let d : t - 1 + 1 ≡ t = omega arith in
    within-from_gap inst plan c t (rw d at here)

band_gaps-zero : (inst : Tables) (plan : List (Option ℕ)) → ((c t : ℕ) → c < length inst.resource_names → 1 ≤ t
    → t ≤ inst.periods → IsWithinBand inst plan c t) → band_gaps inst plan ≡ pos 0
unfolding band_gaps
band_gaps-zero inst plan h =
    sum_below-all_zero (length inst.resource_names) (λ c. sum_below inst.periods (λ u. band_gap inst plan c (u + 1)))
    (λ c l. sum_below-all_zero inst.periods (λ u. band_gap inst plan c (u + 1))
    (λ u m. band_gap-zero inst plan c (u + 1) (h c (u + 1) l (omega arith) (omega arith))))

-- ---- exclusions
abbrev flag : Bool → ℕ
flag b = cond b 1 0

no_clash-from_count : (inst : Tables) (plan : List (Option ℕ)) → clash_count inst plan ≡ 0 → (e : ℕ)
    → e < length inst.exclusion_names → clash_rule_at inst plan e ≡ None
unfolding clash_count
no_clash-from_count inst plan z e l = at (clash_rule_at inst plan e) refl
    (count_sum-each_zero (length inst.exclusion_names) (λ j. flag (is_some (clash_rule_at inst plan j))) z e l)
  where
    at : (o : Option Rule) → clash_rule_at inst plan e ≡ o → flag (is_some o) ≡ 0 → o ≡ None
    at (Some r) p h = absurd (omega (arith, h))
    at None p h = refl

clash_count-zero : (inst : Tables) (plan : List (Option ℕ))
    → ((e : ℕ) → e < length inst.exclusion_names → clash_rule_at inst plan e ≡ None) → clash_count inst plan ≡ 0
unfolding clash_count
clash_count-zero inst plan h = count_sum-all_zero (length inst.exclusion_names)
    (λ j. flag (is_some (clash_rule_at inst plan j))) (λ e l. let n : clash_rule_at inst plan e ≡ None = h e l in
    rw n refl)

-- ---- starts
start_of-starts : (starts : List ℕ) (i : ℕ) → i < length starts
    → start_of (map Some starts) i ≡ Some (get_or starts i 0)
start_of-starts [] i h = absurd (omega (arith, h))
start_of-starts (s ∷ starts) zero h = refl
start_of-starts (s ∷ starts) (suc i) h = start_of-starts starts i (omega (arith, h))

-- a list of allowed starts, as a plan
pub has_allowed_start : (inst : Tables) (starts : List ℕ) → AreAllowedStarts inst starts → (i : ℕ)
    → i < length inst.names → HasAllowedStart inst (map Some starts) i
has_allowed_start inst starts a i l =
    let m : i < length starts = omega (arith, l, a.each) in
    record { start = get_or starts i 0; given = start_of-starts starts i m; allowed = a.allowed i m }

-- ---- the law
zero_parts : (g : ℤ) (n : ℕ) → pos 0 ≤ℤ g → g +ℤ pos (1_000_000_000_000 * n) ≡ pos 0 → (g ≡ pos 0) × (n ≡ 0)
zero_parts g n h e = (omega (arith, signed_arith), omega (arith, signed_arith))

pub feasible-from_violation : (inst : Tables) (starts : List ℕ) → AreAllowedStarts inst starts
    → violation_of inst (map Some starts) ≡ pos 0 → IsFeasible inst (map Some starts)
unfolding violation_of
feasible-from_violation inst starts a z =
    let plan : List (Option ℕ) = map Some starts in
    let p = zero_parts (band_gaps inst plan) (clash_count inst plan) (band_gaps-positive inst plan) z in
    IsFeasible-from inst plan (record {
      starts = has_allowed_start inst starts a;
      loads = loads-from_gaps inst plan p.0;
      seasons = λ e t l. keeps_apart inst plan e (no_clash-from_count inst plan p.1 e l) t;
    })

pub violation_of-feasible : (inst : Tables) (plan : List (Option ℕ)) → IsFeasible inst plan
    → violation_of inst plan ≡ pos 0
unfolding violation_of
violation_of-feasible inst plan h =
    let k = KeepsRules-from inst plan h in
    let g = band_gaps-zero inst plan k.loads in
    let n = clash_count-zero inst plan (λ e l. clash_rule_at-none inst plan e (λ t. k.seasons e t l)) in
    rw (g, n) refl
