-- A plan that keeps a lower limit keeps it also by the loads up to the cap.
use Rattle.std.proofs.Common.{◌≡◌, ℕ, zero, suc, ◌<◌, ◌⊎◌, inl, inr, refl, ap, arith, ℤ, pos, ◌+ℤ◌, ◌-ℤ◌, ◌≤ℤ◌, ◌<ℤ◌}
use Rattle.std.proofs.Common.{List, length, map, get_or, Some, IsTrue, Contains, true, false}
use Rattle.std.specs.Int.{int_min, int_max}
use Rattle.std.proofs.lemmas.Int.{by_lt_z}
use Rattle.fixed_num.specs.Sums.{sum_below}
use Rattle.fixed_num.proofs.SignedLemmas.{signed_arith}
use Rattle.fixed_num.proofs.SumLemmas.{sum_below-zero, sum_below-suc}
use Rattle.instance_model.specs.Tables.{Tables, tmax, is_allowed, lower_of}
use Rattle.instance_model.specs.Plans.{start_of, AreAllowedStarts, load_at, load_sum}
use Rattle.instance_model.proofs.BoardLemmas.{start_of-starts}
use Rattle.instance_model.proofs.EntryLemmas.{is_allowed_facts}
use Rattle.lagrange_bound.specs.Least.{least_over}
use Rattle.lagrange_bound.specs.TailLemmas.{least_over_le}
use Rattle.lagrange_bound.proofs.WorthLemmas.{in_starts}
use Rattle.refined_prices.specs.Caps.{allowed_starts, least_load, most_taken, cap_of, counted_load, counted_sum}
use Rattle.refined_prices.specs.Caps.{CapKeepsLowerLimit}

-- ---- over plain sums: the sum of some loads, of what they can take away at most, and of them up to a cap

-- the capped sum is never below what can be taken away; and either no load reaches the cap, or the capped sum is at
-- least the cap less that
record IsCapped (loads taken capped cap : ℤ) : Type 0 where
  least : (pos 0 -ℤ taken) ≤ℤ capped
  either : (capped ≡ loads) ⊎ ((cap -ℤ taken) ≤ℤ capped)

-- one load more
one_more : (loads taken capped cap x y : ℤ) → pos 0 ≤ℤ cap → pos 0 ≤ℤ y → (pos 0 -ℤ y) ≤ℤ x
    → IsCapped loads taken capped cap → IsCapped (loads +ℤ x) (taken +ℤ y) (capped +ℤ int_min x cap) cap
one_more loads taken capped cap x y some few least w =
    record { least = let a = w.least in omega (arith, signed_arith); either = at w.either (by_order x cap) }
  where
    by_order : (x cap : ℤ) → (cap <ℤ x) ⊎ (x ≤ℤ cap)
    by_order x cap = by_lt_z cap x inl inr

    at : (capped ≡ loads) ⊎ ((cap -ℤ taken) ≤ℤ capped) → (cap <ℤ x) ⊎ (x ≤ℤ cap)
        → (capped +ℤ int_min x cap ≡ loads +ℤ x) ⊎ ((cap -ℤ (taken +ℤ y)) ≤ℤ (capped +ℤ int_min x cap))
    at (inl e) (inr h) =
        let same : int_min x cap ≡ x = omega (arith, signed_arith) in
        inl (rw (e, same) refl)
    at (inl e) (inl h) = inr (let a = w.least in omega (arith, signed_arith))
    at (inr p) (inr h) = inr (omega (arith, signed_arith))
    at (inr p) (inl h) = inr (let a = w.least in omega (arith, signed_arith))

is_capped : (n : ℕ) (load taken : ℕ → ℤ) (cap : ℤ) → pos 0 ≤ℤ cap
    → ((i : ℕ) → i < n → (pos 0 ≤ℤ taken i) × ((pos 0 -ℤ taken i) ≤ℤ load i))
    → IsCapped (sum_below n load) (sum_below n taken) (sum_below n (λ i. int_min (load i) cap)) cap
is_capped zero load taken cap some h =
    rw (sum_below-zero load, sum_below-zero taken, sum_below-zero (λ i. int_min (load i) cap))
    (record { least = omega (arith, signed_arith); either = inl refl })
is_capped (suc n) load taken cap some h =
    let before = is_capped n load taken cap some (λ i l. h i (omega (arith, l))) in
    let last = h n (omega arith) in
    rw (sum_below-suc n load, sum_below-suc n taken, sum_below-suc n (λ i. int_min (load i) cap))
    (one_more (sum_below n load) (sum_below n taken) (sum_below n (λ i. int_min (load i) cap)) cap (load n) (taken n)
    some last.0 last.1 before)

-- a sum of numbers of which none is negative
pub not_below : (n : ℕ) (f : ℕ → ℤ) → ((i : ℕ) → i < n → pos 0 ≤ℤ f i) → pos 0 ≤ℤ sum_below n f
not_below zero f h = rw (sum_below-zero f) (omega (arith, signed_arith))
not_below (suc n) f h =
    let ih = not_below n f (λ i l. h i (omega (arith, l))) in
    let last = h n (omega arith) in
    rw (sum_below-suc n f) (omega (arith, signed_arith))

-- a lower limit that the sum of loads keeps is kept by the loads up to a cap, if the cap is at least the limit, or 0,
-- and what all can take away
pub capped-keeps : (n : ℕ) (load taken : ℕ → ℤ) (lower cap : ℤ)
    → ((i : ℕ) → i < n → (pos 0 ≤ℤ taken i) × ((pos 0 -ℤ taken i) ≤ℤ load i))
    → (int_max (pos 0) lower +ℤ sum_below n taken) ≤ℤ cap → lower ≤ℤ sum_below n load
    → lower ≤ℤ sum_below n (λ i. int_min (load i) cap)
capped-keeps n load taken lower cap h enough kept =
    let some : pos 0 ≤ℤ cap = let none = not_below n taken (λ i l. (h i l).0) in omega (arith, signed_arith) in
    at (is_capped n load taken cap some h).either
  where
    at : (sum_below n (λ i. int_min (load i) cap) ≡ sum_below n load)
        ⊎ ((cap -ℤ sum_below n taken) ≤ℤ sum_below n (λ i. int_min (load i) cap))
        → lower ≤ℤ sum_below n (λ i. int_min (load i) cap)
    at (inl e) = rw e kept
    at (inr p) = omega (arith, signed_arith)

-- ---- the loads of an instance

-- an allowed start is among the allowed starts
pub in_allowed_starts : (inst : Tables) (i s : ℕ) → IsTrue (is_allowed inst i s) → Contains (allowed_starts inst i) s
in_allowed_starts inst i s a =
    let facts = is_allowed_facts inst i s a in
    in_starts inst i s (record { from = 1; to = tmax inst i }) a facts.0 facts.1

-- no more is taken away than the most that can be
within_taken : (inst : Tables) (starts : List ℕ) (c t i : ℕ) → AreAllowedStarts inst starts → i < length inst.names
    → (pos 0 ≤ℤ most_taken inst c t i)
    × ((pos 0 -ℤ most_taken inst c t i) ≤ℤ load_at inst c t i (start_of (map Some starts) i))
unfolding most_taken least_load
within_taken inst starts c t i a l =
    let low : i < length starts = omega (arith, l, a.each) in
    let s = get_or starts i 0 in
    let least = least_over_le (λ s. load_at inst c t i (Some s)) (allowed_starts inst i) s
    (in_allowed_starts inst i s (a.allowed i low)) in
    let here : load_at inst c t i (start_of (map Some starts) i) ≡ load_at inst c t i (Some s) = ap (load_at inst c t i)
    (start_of-starts starts i low) in
    rw here (
      bound (least_over (λ s. load_at inst c t i (Some s)) (allowed_starts inst i)),
      reach (least_over (λ s. load_at inst c t i (Some s)) (allowed_starts inst i)) (load_at inst c t i (Some s)) least,
    )
  where
    bound : (z : ℤ) → pos 0 ≤ℤ int_max (pos 0) (pos 0 -ℤ z)
    bound z = omega (arith, signed_arith)

    reach : (z x : ℤ) → z ≤ℤ x → (pos 0 -ℤ int_max (pos 0) (pos 0 -ℤ z)) ≤ℤ x
    reach z x h = omega (arith, signed_arith)

pub CapKeepsLowerLimit-from : (inst : Tables) → CapKeepsLowerLimit inst
unfolding counted_sum counted_load cap_of load_sum
CapKeepsLowerLimit-from inst true starts c t a kept =
    capped-keeps (length inst.names) (λ i. load_at inst c t i (start_of (map Some starts) i)) (most_taken inst c t)
    (lower_of inst c t) (cap_of inst c t) (λ i l. within_taken inst starts c t i a l) (itself (cap_of inst c t)) kept
  where
    itself : (z : ℤ) → z ≤ℤ z
    itself z = omega (arith, signed_arith)
CapKeepsLowerLimit-from inst false starts c t a kept = kept
