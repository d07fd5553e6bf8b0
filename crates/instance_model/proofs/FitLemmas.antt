-- What the conditions on an instance give.
use Rattle.std.proofs.Common.{◌≡◌, ℕ, ◌+◌, ◌-◌, ◌*◌, ◌<◌, ◌≤◌, refl, sym, ◌∙◌, ap, subst, arith, List, [], length}
use Rattle.std.proofs.Common.{get_or, All, Bool, true, false, unsigned_abs, Vec, leb, ℤ, pos, zero, suc, ◌∷◌, ◌^◌, to_z}
use Rattle.std.proofs.Common.{of_z}
use Rattle.std.proofs.lemmas.Nat.{mul-le}
use Rattle.std.proofs.Math.Nat.{mul-le-mul_right}
use Rattle.std.specs.Int.{w128}
use Rattle.fixed_num.proofs.SignedLemmas.{back_from_abs}
use Rattle.std.proofs.lemmas.Grind.{common_steps}
use Rattle.std.proofs.lemmas.List.{get_or_past, length-map}
use Rattle.std.specs.declared.alloc.Global.{Global}
use Rattle.instance_model.specs.declared.parts.Parts.{Parts}
use Rattle.instance_model.specs.View.{tables_of}
use Rattle.std.proofs.lemmas.List.Elements.{All-get_or}
use Rattle.std.proofs.lemmas.Bool.Decides.{nat_tests}
use Rattle.instance_model.specs.Tables.{Tables, scenarios_of, rank_of, durations, tmax, delta_of, allowed_of}
use Rattle.instance_model.specs.Tables.{is_allowed, risk_of, risk_place, entry_place, scenarios_before, periods_before}
use Rattle.instance_model.specs.Tables.{upper_of, lower_of}
use Rattle.instance_model.specs.Fitting.{IsFitting}
use Rattle.instance_model.proofs.EntryLemmas.{IsRunning, entry_place_below, scenarios_before_rises}
use Rattle.instance_model.proofs.EntryLemmas.{scenarios_before_more, periods_before_rises, periods_before_more}

pub tmax_small : (inst : Tables) (i : ℕ) → IsFitting inst → i < length inst.names
    → (1 ≤ tmax inst i) × (tmax inst i ≤ inst.periods)
unfolding tmax durations
tmax_small inst i f h = All-get_or (λ ds. (1 ≤ length ds) × (length ds ≤ inst.periods)) inst.delta i []
    (omega (arith, f.delta_each)) f.delta_some

pub scenarios_of_small : (inst : Tables) (t : ℕ) → IsFitting inst → 1 ≤ t → t ≤ inst.periods → (1 ≤ scenarios_of inst t)
    × (scenarios_of inst t ≤ 1024)
unfolding scenarios_of
scenarios_of_small inst t f h l =
    All-get_or (λ n. (1 ≤ n) × (n ≤ 1024)) inst.scenarios (t - 1) 0 (omega (arith, f.scenarios_each)) f.scenarios_few

-- the rank is 1 to the number of scenarios
pub rank_of_from : (inst : Tables) (t : ℕ) → IsFitting inst → 1 ≤ t → t ≤ inst.periods
    → (1 ≤ rank_of inst t) × (rank_of inst t ≤ scenarios_of inst t)
unfolding rank_of
rank_of_from inst t f h l =
    let n = scenarios_of_small inst t f h l in
    let a = mul-le 1 1 inst.quantile (scenarios_of inst t) f.some_quantile n.0 in
    let b : inst.quantile * scenarios_of inst t ≤ 1_000_000 * scenarios_of inst t =
    mul-le-mul_right (scenarios_of inst t) f.quantile in
    (omega (arith, a), omega (arith, b))

get_or_small : (b : ℕ) (xs : List ℤ) (i : ℕ) → 0 < b → All (λ z. unsigned_abs z < b) xs
    → unsigned_abs (get_or xs i (pos 0)) < b
get_or_small b xs i h all = at (leb (length xs) i) refl
  where
    at : (t : Bool) → leb (length xs) i ≡ t → unsigned_abs (get_or xs i (pos 0)) < b
    at true e = rw (get_or_past xs i (pos 0) (grind (arith, nat_tests))) h
    at false e = All-get_or (λ z. unsigned_abs z < b) xs i (pos 0) (grind (arith, nat_tests)) all

pub risk_of_small : (inst : Tables) (i s t k : ℕ) → IsFitting inst → unsigned_abs (risk_of inst i s t k) < 10 ^ 20
unfolding risk_of
risk_of_small inst i s t k f = get_or_small (10 ^ 20) inst.risks (risk_place inst i s t k) (omega arith) f.risks_small

pub upper_of_small : (inst : Tables) (c t : ℕ) → IsFitting inst → unsigned_abs (upper_of inst c t) < 2 * 10 ^ 20
unfolding upper_of
upper_of_small inst c t f =
    get_or_small (2 * 10 ^ 20) inst.upper (c * inst.periods + (t - 1)) (omega arith) f.upper_small

pub lower_of_small : (inst : Tables) (c t : ℕ) → IsFitting inst → unsigned_abs (lower_of inst c t) < 2 * 10 ^ 20
unfolding lower_of
lower_of_small inst c t f =
    get_or_small (2 * 10 ^ 20) inst.lower (c * inst.periods + (t - 1)) (omega arith) f.lower_small

-- ---- places
pub risk_place_below : (inst : Tables) (i s t k : ℕ) → IsFitting inst → i < length inst.names
    → is_allowed inst i s ≡ true → IsRunning inst i s t → 1 ≤ k → k ≤ scenarios_of inst t
    → risk_place inst i s t k < length inst.risks
unfolding risk_place
risk_place_below inst i s t k f h a r one few =
    let below = entry_place_below inst (scenarios_before inst) i s t (scenarios_before_rises inst) h a r in
    let more =
    scenarios_before_more inst t f.scenarios_each (omega (arith, r.start, r.from)) (omega (arith, r.to, r.ends)) in
    omega (arith, below, more, f.risks_each)

pub soft_place_below : (inst : Tables) (i s t : ℕ) → IsFitting inst → i < length inst.names → is_allowed inst i s ≡ true
    → IsRunning inst i s t → entry_place inst periods_before i s t < length inst.soft
soft_place_below inst i s t f h a r =
    let below = entry_place_below inst periods_before i s t periods_before_rises h a r in
    let more = periods_before_more t (omega (arith, r.start, r.from)) in
    omega (arith, below, more, f.soft_each)

-- ---- the tables as the code has them
pub durations_is : (p : Parts) (i : ℕ) (v : Vec ℕ Global) → i < length p.delta.items → v ≡ get_or p.delta.items i v
    → durations (tables_of p) i ≡ v.items
unfolding durations
durations_is p i v h e = grind (arith, common_steps)

pub is_allowed_is : (inst : Tables) (i s : ℕ) (ds : List ℕ) (r : Bool) → durations inst i ≡ ds
    → r ≡ allowed_of inst.periods ds s → is_allowed inst i s ≡ r
unfolding is_allowed
is_allowed_is inst i s ds r e a = rw e (sym a)

pub delta_of_is : (inst : Tables) (i s : ℕ) (ds : List ℕ) → durations inst i ≡ ds
    → delta_of inst i s ≡ get_or ds (s - 1) 0
unfolding delta_of
delta_of_is inst i s ds e = rw e refl

pub tmax_is : (inst : Tables) (i : ℕ) (ds : List ℕ) → durations inst i ≡ ds → tmax inst i ≡ length ds
unfolding tmax
tmax_is inst i ds e = ap length e

-- there are as many lists of durations as names
pub row_number : (p : Parts) (i : ℕ) → IsFitting (tables_of p) → i < length p.delta.items
    → i < length (tables_of p).names
row_number p i f h = omega (arith, f.delta_each, length-map p.delta.items (λ (v : Vec ℕ Global). v.items))

limit_place : (c r t n : ℕ) → c < r → 1 ≤ t → t ≤ n → c * n + (t - 1) < r * n
limit_place c r t n h one few =
    let whole : (c + 1) * n ≤ r * n = mul-le-mul_right n (omega arith) in
    omega (arith, whole)

get_or_default : (xs : List ℤ) (i : ℕ) (d e : ℤ) → i < length xs → get_or xs i d ≡ get_or xs i e
get_or_default [] i d e h = absurd (omega (arith, h))
get_or_default (x ∷ xs) zero d e h = refl
get_or_default (x ∷ xs) (suc i) d e h = get_or_default xs i d e (omega (arith, h))

-- the lower limit that is read, and comes back from its bits
pub lower_read : (p : Parts) (inst : Tables) (c t : ℕ) (v : ℤ) → tables_of p ≡ inst → IsFitting (tables_of p)
    → c < length inst.resource_names → 1 ≤ t → t ≤ inst.periods → v ≡ get_or p.lower.items (c * p.periods + (t - 1)) v
    → to_z w128 (of_z w128 v) ≡ lower_of inst c t
unfolding lower_of
lower_read p inst c t v e f =
    subst (λ (x : Tables). c < length x.resource_names → 1 ≤ t → t ≤ x.periods
    → v ≡ get_or p.lower.items (c * p.periods + (t - 1)) v
    → to_z w128 (of_z w128 v) ≡ get_or x.lower (c * x.periods + (t - 1)) (pos 0)) e at
  where
    at : c < length (tables_of p).resource_names → 1 ≤ t → t ≤ p.periods
        → v ≡ get_or p.lower.items (c * p.periods + (t - 1)) v
        → to_z w128 (of_z w128 v) ≡ get_or p.lower.items (c * p.periods + (t - 1)) (pos 0)
    at h one few r =
        let within : c * p.periods + (t - 1) < length p.lower.items =
        omega (arith, limit_place c (length (tables_of p).resource_names) t p.periods h one few, f.lower_each) in
        let same : v ≡ get_or p.lower.items (c * p.periods + (t - 1)) (pos 0) =
        r ∙ get_or_default p.lower.items (c * p.periods + (t - 1)) v (pos 0) within in
        let small = get_or_small (2 * 10 ^ 20) p.lower.items (c * p.periods + (t - 1)) (omega arith) f.lower_small in
        let bound : unsigned_abs v < 2 ^ 127 = rw same (omega (arith, small)) in
        back_from_abs v bound ∙ same

-- the upper limit that is read, and comes back from its bits
pub upper_read : (p : Parts) (inst : Tables) (c t : ℕ) (v : ℤ) → tables_of p ≡ inst → IsFitting (tables_of p)
    → c < length inst.resource_names → 1 ≤ t → t ≤ inst.periods → v ≡ get_or p.upper.items (c * p.periods + (t - 1)) v
    → to_z w128 (of_z w128 v) ≡ upper_of inst c t
unfolding upper_of
upper_read p inst c t v e f =
    subst (λ (x : Tables). c < length x.resource_names → 1 ≤ t → t ≤ x.periods
    → v ≡ get_or p.upper.items (c * p.periods + (t - 1)) v
    → to_z w128 (of_z w128 v) ≡ get_or x.upper (c * x.periods + (t - 1)) (pos 0)) e at
  where
    at : c < length (tables_of p).resource_names → 1 ≤ t → t ≤ p.periods
        → v ≡ get_or p.upper.items (c * p.periods + (t - 1)) v
        → to_z w128 (of_z w128 v) ≡ get_or p.upper.items (c * p.periods + (t - 1)) (pos 0)
    at h one few r =
        let within : c * p.periods + (t - 1) < length p.upper.items =
        omega (arith, limit_place c (length (tables_of p).resource_names) t p.periods h one few, f.upper_each) in
        let same : v ≡ get_or p.upper.items (c * p.periods + (t - 1)) (pos 0) =
        r ∙ get_or_default p.upper.items (c * p.periods + (t - 1)) v (pos 0) within in
        let small = get_or_small (2 * 10 ^ 20) p.upper.items (c * p.periods + (t - 1)) (omega arith) f.upper_small in
        let bound : unsigned_abs v < 2 ^ 127 = rw same (omega (arith, small)) in
        back_from_abs v bound ∙ same
