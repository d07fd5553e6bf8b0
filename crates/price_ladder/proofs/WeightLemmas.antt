-- What one more of a number adds, as the code finds it.
use Rattle.std.proofs.Common.{◌≡◌, ℕ, ◌*◌, ◌<◌, ◌≤◌, ◌^◌, refl, sym, ◌∙◌, ap, arith, ℤ, pos, ◌-ℤ◌, ◌*ℤ◌, Some}
use Rattle.std.proofs.Common.{unsigned_abs, to_z, Bool, true, false, cond}
use Rattle.std.specs.Int.{w128}
use Rattle.std.proofs.lemmas.Int.{to_z_pos}
use Rattle.fixed_num.proofs.Bits.{by_bits}
use Rattle.fixed_num.proofs.SignedLemmas.{signed_arith, back_from_abs}
use Rattle.instance_model.specs.Tables.{Tables, in_run, exclusion_of, upper_of, lower_of}
use Rattle.instance_model.specs.Plans.{load_at}
use Rattle.lagrange_bound.specs.Worth.{times_named}
use Rattle.price_ladder.specs.declared.place.Place.{Place}
use Rattle.price_ladder.specs.declared.place.Place.TheVariants.{Upper, Lower, Excluded}
use Rattle.price_ladder.specs.Weights.{times_at, weight_of, fixed_weight}

pub times_idle : (inst : Tables) (e t i s : ℕ) → in_run inst i s t ≡ false → 0 ≡ times_at inst e t i s
unfolding times_at
times_idle inst e t i s r = rw r refl

pub times_unnamed : (inst : Tables) (e t i s n : ℕ) → n ≡ times_named (exclusion_of inst e) i → n ≡ 0
    → 0 ≡ times_at inst e t i s
unfolding times_at
times_unnamed inst e t i s n h z = at (in_run inst i s t)
  where
    none : times_named (exclusion_of inst e) i ≡ 0
    none = sym h ∙ z

    at : (b : Bool) → 0 ≡ cond b (times_named (exclusion_of inst e) i) 0
    at true = sym none
    at false = refl

pub times_running : (inst : Tables) (e t i s n : ℕ) → in_run inst i s t ≡ true
    → n ≡ times_named (exclusion_of inst e) i → n ≡ times_at inst e t i s
unfolding times_at
times_running inst e t i s n r h = rw r h

negative : (z : ℤ) → unsigned_abs z < 2 * 10 ^ 20 → by_bits (pos 0 -ℤ by_bits z) ≡ pos 0 -ℤ z
negative z h =
    let a : by_bits z ≡ z = back_from_abs z (omega (arith, h)) in
    let b : by_bits (pos 0 -ℤ z) ≡ pos 0 -ℤ z = back_from_abs (pos 0 -ℤ z) (omega (arith, signed_arith, h)) in
    rw (a, b) refl

pub weight_upper : (inst : Tables) (place : Place) (c t i s : ℕ) (z : ℤ) → place ≡ Upper c t
    → z ≡ load_at inst c t i (Some s) → unsigned_abs z < 10 ^ 20 → by_bits z ≡ weight_of inst place i s
unfolding weight_of
weight_upper inst place c t i s z e h k = back_from_abs z (omega (arith, k)) ∙ rw e h

pub weight_lower : (inst : Tables) (place : Place) (c t i s : ℕ) (z : ℤ) → place ≡ Lower c t
    → z ≡ load_at inst c t i (Some s) → unsigned_abs z < 10 ^ 20
    → by_bits (pos 0 -ℤ by_bits z) ≡ weight_of inst place i s
unfolding weight_of
weight_lower inst place c t i s z e h k = negative z (omega (arith, k)) ∙ rw e (ap (λ (x : ℤ). pos 0 -ℤ x) h)

pub weight_excluded : (inst : Tables) (place : Place) (e t i s n : ℕ) → place ≡ Excluded e t
    → n ≡ times_at inst e t i s → n ≤ 2
    → by_bits (pos 1_000_000_000_000 *ℤ to_z w128 n) ≡ weight_of inst place i s
unfolding weight_of
weight_excluded inst place e t i s n q h k =
    let x : to_z w128 n ≡ pos n = to_z_pos w128 n (omega (arith, k)) in
    let y : pos 1_000_000_000_000 *ℤ pos n ≡ pos (1_000_000_000_000 * n) = omega (arith, signed_arith) in
    let b : by_bits (pos (1_000_000_000_000 * n)) ≡ pos (1_000_000_000_000 * n) =
    back_from_abs (pos (1_000_000_000_000 * n)) (omega (arith, k)) in
    rw (x, y, b, q) (ap (λ (m : ℕ). pos (1_000_000_000_000 * m)) h)

pub fixed_upper : (inst : Tables) (place : Place) (c t : ℕ) (z : ℤ) → place ≡ Upper c t → z ≡ upper_of inst c t
    → unsigned_abs z < 2 * 10 ^ 20 → by_bits (pos 0 -ℤ by_bits z) ≡ fixed_weight inst place
unfolding fixed_weight
fixed_upper inst place c t z e h k = negative z k ∙ rw e (ap (λ (x : ℤ). pos 0 -ℤ x) h)

pub fixed_lower : (inst : Tables) (place : Place) (c t : ℕ) (z : ℤ) → place ≡ Lower c t → z ≡ lower_of inst c t
    → unsigned_abs z < 2 * 10 ^ 20 → by_bits z ≡ fixed_weight inst place
unfolding fixed_weight
fixed_lower inst place c t z e h k = back_from_abs z (omega (arith, k)) ∙ rw e h

pub fixed_excluded : (inst : Tables) (place : Place) (e t : ℕ) → place ≡ Excluded e t
    → pos 0 -ℤ pos 1_000_000_000_000 ≡ fixed_weight inst place
unfolding fixed_weight
fixed_excluded inst place e t q = rw q refl
