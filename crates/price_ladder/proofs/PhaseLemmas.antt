-- Starts, workloads and lists, as the first phase reads and changes them.
use Rattle.std.proofs.Common.{◌≡◌, ◌∙◌, ℕ, ◌+◌, ◌*◌, ◌<◌, ◌≤◌, ◌^◌, arith, sym, ap, subst, List, length, get_or, Bool}
use Rattle.std.proofs.Common.{true, false, ℤ, ◌+ℤ◌, ◌-ℤ◌, ◌≤ℤ◌, int_lt, unsigned_abs, eqb, refl, set}
use Rattle.std.proofs.Common.{◌≢◌, IsTrue}
use Rattle.std.proofs.lemmas.List.{get_or-set_same, get_or-set_other, length-set}
use Rattle.std.proofs.lemmas.Bool.Decides.{nat_tests}
use borrow.Author.Differences.{at_most_in, lt-false}
use Rattle.fixed_num.proofs.Bits.{by_bits}
use Rattle.fixed_num.proofs.SignedLemmas.{signed_arith, back_from_abs}
use Rattle.instance_model.specs.declared.parts.LoadCell.{LoadCell}
use Rattle.instance_model.specs.Tables.{Tables, is_allowed, in_run, delta_of}
use Rattle.instance_model.specs.Plans.{AreAllowedStarts}
use Rattle.instance_model.specs.Fitting.{AreCells, IsFitting}
use Rattle.instance_model.proofs.EntryLemmas.{is_allowed_facts}
use Rattle.instance_model.proofs.FitLemmas.{tmax_small}
use Rattle.lagrange_bound.specs.Prices.{PriceList, IsPriceList}
use Rattle.lagrange_bound.specs.Changes.{IsBandPlace}
use Rattle.lagrange_bound.specs.Worth.{fixed_part}
use Rattle.price_ladder.specs.Raised.{root_worth}
use Rattle.price_ladder.specs.Weights.{price_at}
use Rattle.price_ladder.specs.Kept.{kept_at, AreValues, AreLeast, sum_over}
use Rattle.price_ladder.specs.Tried.{IsTried}
use Rattle.price_ladder.proofs.KeptWorthLemmas.{worth_picked}

-- a start is a period
pub start_within : (inst : Tables) (i s : ℕ) → IsFitting inst → i < length inst.names → is_allowed inst i s ≡ true
    → (1 ≤ s) × (s ≤ inst.periods)
start_within inst i s fit l a =
    let w = is_allowed_facts inst i s a in
    let t = tmax_small inst i fit l in
    (w.0, omega (arith, w.1, t.1))

-- so is each period of a run
run_within : (inst : Tables) (i s t : ℕ) → is_allowed inst i s ≡ true → in_run inst i s t ≡ true
    → (1 ≤ t) × (t ≤ inst.periods)
unfolding in_run
run_within inst i s t a r =
    let facts = is_allowed_facts inst i s a in
    let from : s ≤ t = grind (arith, nat_tests) in
    let to : t < s + delta_of inst i s = grind (arith, nat_tests) in
    (omega (arith, facts.0, from), omega (arith, facts.2, to))

-- a workload is that of a band
pub cell_band : (inst : Tables) (i : ℕ) (cells : List LoadCell) (k : ℕ) (d : LoadCell) → AreCells inst i cells
    → k < length cells → IsBandPlace inst (get_or cells k d).resource (get_or cells k d).period
cell_band inst i cells k d c l =
    let t = run_within inst i (get_or cells k d).start (get_or cells k d).period (c.allowed k d l) (c.running k d l) in
    record { resource = c.resources k d l; from = t.0; to = t.1 }

-- another allowed start is chosen for an intervention
pub AreAllowedStarts-set : (inst : Tables) (starts : List ℕ) (i s : ℕ) → i < length inst.names
    → IsTrue (is_allowed inst i s) → AreAllowedStarts inst starts → AreAllowedStarts inst (set starts i s)
AreAllowedStarts-set inst starts i s l a h = record {
  each = length-set starts i s ∙ h.each;
  allowed = λ k m. at k (omega (arith, m, length-set starts i s)) (eqb k i) refl;
}
  where
    at : (k : ℕ) → k < length starts → (e : Bool) → eqb k i ≡ e
        → IsTrue (is_allowed inst k (get_or (set starts i s) k 0))
    at k m true q =
        let here : i ≡ k = grind (arith, nat_tests) in
        let now : get_or (set starts i s) i 0 ≡ s = get_or-set_same starts i s 0 (omega (arith, l, h.each)) in
        subst (λ (j : ℕ). IsTrue (is_allowed inst j (get_or (set starts i s) j 0))) here (rw now a)
    at k m false q =
        let other : k ≢ i = grind (arith, nat_tests) in
        rw (get_or-set_other starts i k s 0 other) (h.allowed k m)

-- whatever came of a try, the list is in range
pub tried_range : (inst : Tables) (old new : PriceList) (target : ℤ) (kind : PriceList → Type 0) (b : Bool)
    → IsPriceList inst old → IsTried inst old new target kind b → IsPriceList inst new
tried_range inst old new target kind true h t = t.in_range
tried_range inst old new target kind false h t = subst (IsPriceList inst) (sym t.0) h

-- what the worth is above the sum of the least prices
difference : (w s : ℤ) → unsigned_abs w < 10 ^ 37 → unsigned_abs s ≤ 1024 * 3 * 10 ^ 33
    → by_bits (by_bits w -ℤ by_bits s) ≡ w -ℤ s
difference w s h k =
    let a : by_bits w ≡ w = back_from_abs w (omega (arith, h)) in
    let b : by_bits s ≡ s = back_from_abs s (omega (arith, k)) in
    let d : by_bits (w -ℤ s) ≡ w -ℤ s = back_from_abs (w -ℤ s) (omega (arith, signed_arith, h, k)) in
    rw (a, b) d

pub fixed_is : (inst : Tables) (prices : PriceList) (entries : List ℤ) (choice : List ℕ) (w s : ℤ)
    → AreValues inst (price_at inst prices) entries → AreLeast inst entries choice → w ≡ root_worth inst prices
    → s ≡ sum_over inst (kept_at inst entries) choice → unsigned_abs w < 10 ^ 37
    → unsigned_abs s ≤ 1024 * 3 * 10 ^ 33 → by_bits (by_bits w -ℤ by_bits s) ≡ fixed_part inst prices
fixed_is inst prices entries choice w s values least e f h k =
    difference w s h k ∙ rest w s (fixed_part inst prices) (e ∙ worth_picked inst prices entries choice values least
    ∙ ap (λ (z : ℤ). z +ℤ fixed_part inst prices) (sym f))
  where
    rest : (w s x : ℤ) → w ≡ s +ℤ x → w -ℤ s ≡ x
    rest w s x e = omega (arith, signed_arith, e)

-- a worth that the code doesn't find less than another one
pub not_below : (w z x y : ℤ) → w ≡ x → z ≡ y → unsigned_abs w < 10 ^ 37 → unsigned_abs z < 10 ^ 37
    → int_lt (by_bits w) (by_bits z) ≡ false → y ≤ℤ x
not_below w z x y e f h k test =
    let a : by_bits w ≡ w = back_from_abs w (omega (arith, h)) in
    let b : by_bits z ≡ z = back_from_abs z (omega (arith, k)) in
    let l : int_lt w z ≡ false = rw (a, b) at test in
    rw (← e, ← f) (at_most_in z w (omega (arith, lt-false w z l)))
