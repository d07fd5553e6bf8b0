-- How large what plans add up can be.
use Rattle.std.proofs.Common.{◌^◌, ◌≡◌, ℕ, ◌+◌, ◌*◌, ◌<◌, ◌≤◌, sym, arith, ℤ, pos, List, length, get_or, All, Bool}
use Rattle.std.proofs.Common.{true, false, cond, unsigned_abs, Option, Some, None, IfSome, IsTrue, subst}
use Rattle.std.specs.List.{range_with_len}
use Rattle.std.proofs.lemmas.List.Elements.{All-map, All-from_get_or}
use Rattle.std.proofs.lemmas.List.FromFn.{length-map-range_with_len}
use Rattle.fixed_num.proofs.SumLemmas.{sum_below-within}
use Rattle.instance_model.specs.Tables.{Tables, scenarios_of, risk_of, in_run, is_allowed, load_of}
use Rattle.instance_model.specs.Fitting.{IsFitting}
use Rattle.instance_model.specs.Plans.{start_of, risk_at, scenario_sum, scenario_sums, load_at, load_sum}
use Rattle.instance_model.specs.Plans.{RunsAreAllowed, HasAllowedStart, IsSmallSum}
use Rattle.instance_model.specs.Rules.{first_start_rule}
use Rattle.instance_model.proofs.FitLemmas.{risk_of_small}
use Rattle.instance_model.proofs.CellLemmas.{load_of_small}
use Rattle.instance_model.proofs.RuleLemmas.{starts_are_allowed}

small_or_zero : (b : Bool) (z : ℤ) → unsigned_abs z < 10 ^ 20 → unsigned_abs (cond b z (pos 0)) ≤ 10 ^ 20
small_or_zero true z h = omega (arith, h)
small_or_zero false z h = omega arith

pub risk_at_small : (inst : Tables) (t k i : ℕ) (o : Option ℕ) → IsFitting inst
    → unsigned_abs (risk_at inst t k i o) ≤ 10 ^ 20
unfolding risk_at
risk_at_small inst t k i None f = omega arith
risk_at_small inst t k i (Some s) f =
    small_or_zero (in_run inst i s t) (risk_of inst i s t k) (risk_of_small inst i s t k f)

-- a scenario sum is below 10^24
pub scenario_sum_small : (inst : Tables) (plan : List (Option ℕ)) (t k : ℕ) → IsFitting inst
    → unsigned_abs (scenario_sum inst plan t k) ≤ 1024 * 10 ^ 20
unfolding scenario_sum
scenario_sum_small inst plan t k f =
    let one = sum_below-within (length inst.names) (10 ^ 20) (λ i. risk_at inst t k i (start_of plan i))
    (λ i h. risk_at_small inst t k i (start_of plan i) f) in
    omega (arith, one, f.names.few)

pub length-scenario_sums : (inst : Tables) (plan : List (Option ℕ)) (t : ℕ)
    → length (scenario_sums inst plan t) ≡ scenarios_of inst t
unfolding scenario_sums
length-scenario_sums inst plan t =
    length-map-range_with_len (λ k. scenario_sum inst plan t (k + 1)) 0 (scenarios_of inst t)

pub scenario_sums_small : (inst : Tables) (plan : List (Option ℕ)) (t : ℕ) → IsFitting inst
    → All IsSmallSum (scenario_sums inst plan t)
unfolding scenario_sums
scenario_sums_small inst plan t f =
    All-map IsSmallSum (λ k. scenario_sum inst plan t (k + 1)) (range_with_len 0 (scenarios_of inst t))
    (All-from_get_or (λ k. IsSmallSum (scenario_sum inst plan t (k + 1))) (range_with_len 0 (scenarios_of inst t)) 0
    (λ i h. record {
      small = scenario_sum_small inst plan t (get_or (range_with_len 0 (scenarios_of inst t)) i 0 + 1) f;
    }))

pub load_at_small : (inst : Tables) (c t i : ℕ) (o : Option ℕ) → IsFitting inst → i < length inst.names
    → unsigned_abs (load_at inst c t i o) ≤ 10 ^ 20
unfolding load_at
load_at_small inst c t i None f l = omega arith
load_at_small inst c t i (Some s) f l =
    small_or_zero (in_run inst i s t) (load_of inst i s c t) (load_of_small inst i s c t f l)

-- a load is below 10^24
pub load_sum_small : (inst : Tables) (plan : List (Option ℕ)) (c t : ℕ) → IsFitting inst
    → unsigned_abs (load_sum inst plan c t) ≤ 1024 * 10 ^ 20
unfolding load_sum
load_sum_small inst plan c t f =
    let one = sum_below-within (length inst.names) (10 ^ 20) (λ i. load_at inst c t i (start_of plan i))
    (λ i h. load_at_small inst c t i (start_of plan i) f h) in
    omega (arith, one, f.names.few)

-- a plan that breaks no rule on starts has allowed starts alone
pub RunsAreAllowed-from_none : (inst : Tables) (plan : List (Option ℕ)) → length plan ≡ length inst.names
    → first_start_rule inst plan ≡ None → RunsAreAllowed inst plan
unfolding RunsAreAllowed
RunsAreAllowed-from_none inst plan e h i l = at (starts_are_allowed inst plan h i (omega (arith, l, e)))
  where
    at : HasAllowedStart inst plan i → IfSome (start_of plan i) (λ s. IsTrue (is_allowed inst i s))
    at w = subst (λ (o : Option ℕ). IfSome o (λ s. IsTrue (is_allowed inst i s))) (sym w.given) w.allowed
