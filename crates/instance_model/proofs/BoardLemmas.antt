-- Boards, on which some interventions have a start: what they add up, and what changes with one start.
use Rattle.std.proofs.Common.{◌≡◌, ◌≢◌, ℕ, ◌+◌, ◌<◌, ◌≤◌, refl, sym, ◌∙◌, ap, subst, arith, ℤ, pos, ◌+ℤ◌, ◌-ℤ◌, List}
use Rattle.std.proofs.Common.{Option, Some, None, length, map, get_or, set, All, Bool, true, false, IsTrue, IfSome, eqb}
use Rattle.std.proofs.lemmas.Bool.Decides.{nat_tests}
use Rattle.std.proofs.lemmas.List.{get_or-map, length-map, length-set, get_or-set_same, get_or-set_other}
use Rattle.std.proofs.lemmas.List.Elements.{All-from_get_or}
use Rattle.fixed_num.specs.Sums.{sum_below, list_of}
use Rattle.fixed_num.proofs.SignedLemmas.{signed_arith}
use Rattle.fixed_num.proofs.SumLemmas.{sum_below-zero, sum_below_more, sum_below-within, sum_below-set, get_or-list_of}
use Rattle.fixed_num.proofs.SumLemmas.{length-list_of, list_of_same}
use Rattle.instance_model.specs.Fitting.{IsFitting}
use Rattle.instance_model.specs.Tables.{Tables, scenarios_of, in_run, delta_of, risk_of, load_of, is_allowed}
use Rattle.instance_model.specs.Plans.{start_of, risk_at, load_at, load_sum, scenario_sum, scenario_sums, sums_before}
use Rattle.instance_model.specs.Plans.{IsSmallSum, AreAllowedStarts, RunsAreAllowed}
use Rattle.instance_model.proofs.PlanLemmas.{risk_at_small}

-- ---- runs

pub in_run-before : (inst : Tables) (i s t : ℕ) → t < s → in_run inst i s t ≡ false
unfolding in_run
in_run-before inst i s t h = grind (arith, nat_tests)

pub in_run-behind : (inst : Tables) (i s t : ℕ) → s + delta_of inst i s ≤ t → in_run inst i s t ≡ false
unfolding in_run
in_run-behind inst i s t h = grind (arith, nat_tests)

-- ---- starts as a board

pub start_of-starts : (starts : List ℕ) (i : ℕ) → i < length starts
    → start_of (map Some starts) i ≡ Some (get_or starts i 0)
start_of-starts starts i h = get_or-map Some starts i 0 None h

pub RunsAreAllowed-starts : (inst : Tables) (starts : List ℕ) → AreAllowedStarts inst starts
    → RunsAreAllowed inst (map Some starts)
unfolding RunsAreAllowed
RunsAreAllowed-starts inst starts a i h =
    let low : i < length starts = omega (arith, h, length-map starts Some) in
    subst (λ (o : Option ℕ). IfSome o (λ s. IsTrue (is_allowed inst i s)))
    (sym (start_of-starts starts i low)) (a.allowed i low)

-- ---- one start of a board is another

pub RunsAreAllowed-set : (inst : Tables) (board : List (Option ℕ)) (i : ℕ) (o : Option ℕ) → RunsAreAllowed inst board
    → IfSome o (λ s. IsTrue (is_allowed inst i s)) → RunsAreAllowed inst (set board i o)
unfolding RunsAreAllowed
RunsAreAllowed-set inst board i o h a j l =
    let low : j < length board = omega (arith, l, length-set board i o) in
    at (eqb j i) refl low
  where
    at : (b : Bool) → eqb j i ≡ b → j < length board
        → IfSome (start_of (set board i o) j) (λ s. IsTrue (is_allowed inst j s))
    at true e low =
        let same : j ≡ i = grind (arith, nat_tests) in
        let w : start_of (set board i o) i ≡ o = get_or-set_same board i o None (rw same at low) in
        rw same (subst (λ (x : Option ℕ). IfSome x (λ s. IsTrue (is_allowed inst i s))) (sym w) a)
    at false e low =
        let other : j ≢ i = grind (arith, nat_tests) in
        let w : start_of (set board i o) j ≡ start_of board j = get_or-set_other board i j o None other in
        subst (λ (x : Option ℕ). IfSome x (λ s. IsTrue (is_allowed inst j s))) (sym w) (h j low)

pub load_sum-set : (inst : Tables) (board : List (Option ℕ)) (i c t : ℕ) (o : Option ℕ)
    → length board ≡ length inst.names → i < length inst.names → load_sum inst (set board i o) c t
    ≡ load_sum inst board c t +ℤ (load_at inst c t i o -ℤ load_at inst c t i (start_of board i))
unfolding load_sum
load_sum-set inst board i c t o each l =
    sum_below-set (length inst.names) i board o None (λ k x. load_at inst c t k x) l (omega (arith, each))

pub scenario_sum-set : (inst : Tables) (board : List (Option ℕ)) (i : ℕ) (o : Option ℕ) (t k : ℕ)
    → length board ≡ length inst.names → i < length inst.names → scenario_sum inst (set board i o) t k
    ≡ (scenario_sum inst board t k -ℤ risk_at inst t k i (start_of board i)) +ℤ risk_at inst t k i o
unfolding scenario_sum
scenario_sum-set inst board i o t k each l =
    sum_below-set (length inst.names) i board o None (λ j x. risk_at inst t k j x) l (omega (arith, each))
    ∙ shifted (sum_below (length inst.names) (λ j. risk_at inst t k j (start_of board j)))
    (risk_at inst t k i (start_of board i)) (risk_at inst t k i o)
  where
    shifted : (s a b : ℤ) → s +ℤ (b -ℤ a) ≡ (s -ℤ a) +ℤ b
    shifted s a b = omega (arith, signed_arith)

-- ---- what one intervention adds

pub risk_at-none : (inst : Tables) (t k i : ℕ) (o : Option ℕ) → o ≡ None → risk_at inst t k i o ≡ pos 0
unfolding risk_at
risk_at-none inst t k i o e = rw e refl

pub risk_at-idle : (inst : Tables) (t k i s : ℕ) (o : Option ℕ) → o ≡ Some s → in_run inst i s t ≡ false
    → risk_at inst t k i o ≡ pos 0
unfolding risk_at
risk_at-idle inst t k i s o e h = rw (e, h) refl

pub risk_at-running : (inst : Tables) (t k i s : ℕ) (o : Option ℕ) → o ≡ Some s → in_run inst i s t ≡ true
    → risk_at inst t k i o ≡ risk_of inst i s t k
unfolding risk_at
risk_at-running inst t k i s o e h = rw (e, h) refl

pub load_at-idle : (inst : Tables) (c t i s : ℕ) → in_run inst i s t ≡ false → load_at inst c t i (Some s) ≡ pos 0
unfolding load_at
load_at-idle inst c t i s e = rw e refl

pub load_at-running : (inst : Tables) (c t i s : ℕ) → in_run inst i s t ≡ true
    → load_at inst c t i (Some s) ≡ load_of inst i s c t
unfolding load_at
load_at-running inst c t i s e = rw e refl

-- ---- the sums of the interventions before one

pub length-sums_before : (inst : Tables) (board : List (Option ℕ)) (t i : ℕ)
    → length (sums_before inst board t i) ≡ scenarios_of inst t
unfolding sums_before
length-sums_before inst board t i =
    length-list_of (scenarios_of inst t) (λ k. sum_below i (λ j. risk_at inst t (k + 1) j (start_of board j)))

pub sums_before_small : (inst : Tables) (board : List (Option ℕ)) (t i : ℕ) → IsFitting inst → i ≤ length inst.names
    → All IsSmallSum (sums_before inst board t i)
unfolding sums_before
sums_before_small inst board t i f few =
    All-from_get_or IsSmallSum
    (list_of (scenarios_of inst t) (λ k. sum_below i (λ j. risk_at inst t (k + 1) j (start_of board j)))) (pos 0)
    (λ k l.
    let low : k < scenarios_of inst t = omega (
      arith,
      l,
      length-list_of (scenarios_of inst t) (λ k. sum_below i (λ j. risk_at inst t (k + 1) j (start_of board j))),
    ) in
    let one = sum_below-within i 100_000_000_000_000_000_000 (λ j. risk_at inst t (k + 1) j (start_of board j))
    (λ j m. risk_at_small inst t (k + 1) j (start_of board j) f) in
    subst IsSmallSum
    (sym (get_or-list_of (scenarios_of inst t) (λ k. sum_below i (λ j. risk_at inst t (k + 1) j (start_of board j)))
    k low)) (record { small = omega (arith, one, few, f.names.few) }))

pub sums_before-none : (inst : Tables) (board : List (Option ℕ)) (t : ℕ)
    → list_of (scenarios_of inst t) (λ k. pos 0) ≡ sums_before inst board t 0
unfolding sums_before
sums_before-none inst board t = list_of_same (scenarios_of inst t) (λ k. pos 0)
    (λ k. sum_below 0 (λ j. risk_at inst t (k + 1) j (start_of board j)))
    (λ k l. sym (sum_below-zero (λ j. risk_at inst t (k + 1) j (start_of board j))))

pub sums_before-all : (inst : Tables) (board : List (Option ℕ)) (t i : ℕ) → i ≡ length inst.names
    → sums_before inst board t i ≡ scenario_sums inst board t
unfolding sums_before scenario_sums scenario_sum
sums_before-all inst board t i e = rw e refl

-- one intervention more
pub sums_before_more : (inst : Tables) (board : List (Option ℕ)) (t i : ℕ) (f : ℕ → ℤ)
    → ((k : ℕ) → risk_at inst t (k + 1) i (start_of board i) ≡ f k)
    → list_of (scenarios_of inst t) (λ k. get_or (sums_before inst board t i) k (pos 0) +ℤ f k)
    ≡ sums_before inst board t (i + 1)
unfolding sums_before
sums_before_more inst board t i f h =
    list_of_same (scenarios_of inst t)
    (λ k.
    get_or (list_of (scenarios_of inst t) (λ k. sum_below i (λ j. risk_at inst t (k + 1) j (start_of board j)))) k
    (pos 0) +ℤ f k) (λ k. sum_below (i + 1) (λ j. risk_at inst t (k + 1) j (start_of board j)))
    (λ k l. ap (λ (x : ℤ). x +ℤ f k) (get_or-list_of (scenarios_of inst t)
    (λ k. sum_below i (λ j. risk_at inst t (k + 1) j (start_of board j))) k l)
    ∙ ap (λ (x : ℤ). sum_below i (λ j. risk_at inst t (k + 1) j (start_of board j)) +ℤ x) (sym (h k))
    ∙ sym (sum_below_more i (λ j. risk_at inst t (k + 1) j (start_of board j))))

-- one that is not in progress
pub sums_before_idle : (inst : Tables) (board : List (Option ℕ)) (t i : ℕ)
    → ((k : ℕ) → risk_at inst t (k + 1) i (start_of board i) ≡ pos 0)
    → sums_before inst board t i ≡ sums_before inst board t (i + 1)
unfolding sums_before
sums_before_idle inst board t i h =
    list_of_same (scenarios_of inst t) (λ k. sum_below i (λ j. risk_at inst t (k + 1) j (start_of board j)))
    (λ k. sum_below (i + 1) (λ j. risk_at inst t (k + 1) j (start_of board j)))
    (λ k l. sym (+ℤ-zero (sum_below i (λ j. risk_at inst t (k + 1) j (start_of board j))))
    ∙ ap (λ (x : ℤ). sum_below i (λ j. risk_at inst t (k + 1) j (start_of board j)) +ℤ x) (sym (h k))
    ∙ sym (sum_below_more i (λ j. risk_at inst t (k + 1) j (start_of board j))))
  where
    +ℤ-zero : (z : ℤ) → z +ℤ pos 0 ≡ z
    +ℤ-zero z = omega (arith, signed_arith)
