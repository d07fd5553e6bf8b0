-- What bounds say of numbers of changes.
use Rattle.std.proofs.Common.{◌≡◌, ℕ, ◌*◌, ◌≤◌, ◌^◌, ◌∙◌, ap, subst, arith, ℤ, pos, ◌*ℤ◌}
use Rattle.std.proofs.Common.{◌≤ℤ◌, ◌<ℤ◌, unsigned_abs}
use Rattle.std.specs.Int.{int_max}
use Rattle.fixed_num.specs.Floors.{ceil_of, IsCeil}
use Rattle.fixed_num.proofs.SignedLemmas.{signed_arith}
use Rattle.fixed_num.proofs.FloorLemmas.{IsCeil-ceil_of}
use Rattle.plan_changes.specs.Changes.{least_changes, BoundsCountChanges}

above_zero : (q : ℤ) (n : ℕ) → q ≤ℤ pos n → unsigned_abs (int_max (pos 0) q) ≤ n
above_zero q n h = omega (arith, signed_arith)

at_most_abs : (q : ℤ) (n : ℕ) → unsigned_abs (int_max (pos 0) q) ≤ n → q ≤ℤ pos n
at_most_abs q n h = omega (arith, signed_arith)

scaled_up : (q : ℤ) (n : ℕ) → q ≤ℤ pos n → (pos 1_000_000_000_000_000_000 *ℤ q) ≤ℤ pos (1_000_000_000_000_000_000 * n)
scaled_up q n h = omega (arith, signed_arith)

trans : (a b c : ℤ) → a ≤ℤ b → b ≤ℤ c → a ≤ℤ c
trans a b c h k = omega (arith, signed_arith)

pub product_is : (n : ℕ) → pos (1_000_000_000_000_000_000 * n) ≡ pos 1_000_000_000_000_000_000 *ℤ pos n
product_is n = omega (arith, signed_arith)

pub BoundsCountChanges-proof : BoundsCountChanges
unfolding least_changes
BoundsCountChanges-proof b n =
    let q = ceil_of b 1_000_000_000_000_000_000 in
    let c : IsCeil b (pos 1_000_000_000_000_000_000) (ceil_of b 1_000_000_000_000_000_000) =
    IsCeil-ceil_of b 1_000_000_000_000_000_000 (omega arith) in (
      λ h. above_zero q n (c.least (pos n) (subst (λ (z : ℤ). b ≤ℤ z) (product_is n) h)),
      λ h. trans b (pos 1_000_000_000_000_000_000 *ℤ q) (pos (1_000_000_000_000_000_000 * n)) c.reached
          (scaled_up q n (at_most_abs q n h)),
    )

-- a bound up to 10^36 says at most 10^18
pub ceil_small : (b : ℤ) → unsigned_abs b ≤ 10 ^ 36 → ceil_of b 1_000_000_000_000_000_000 ≤ℤ pos
    1_000_000_000_000_000_000
ceil_small b h =
    (IsCeil-ceil_of b 1_000_000_000_000_000_000 (omega arith)).least (pos 1_000_000_000_000_000_000)
    (omega (arith, signed_arith))

above_is : (q : ℤ) → pos 0 <ℤ q → unsigned_abs q ≡ unsigned_abs (int_max (pos 0) q)
above_is q h = omega (arith, signed_arith)

below_is : (q : ℤ) → q ≤ℤ pos 0 → 0 ≡ unsigned_abs (int_max (pos 0) q)
below_is q h = omega (arith, signed_arith)

-- the least number, from the quotient as it is computed
pub least_above : (b q : ℤ) → q ≡ ceil_of b 1_000_000_000_000_000_000 → pos 0 <ℤ q → unsigned_abs q ≡ least_changes b
unfolding least_changes
least_above b q is h =
    above_is q h ∙ ap (λ (z : ℤ). unsigned_abs (int_max (pos 0) z)) is

pub least_none : (b q : ℤ) → q ≡ ceil_of b 1_000_000_000_000_000_000 → q ≤ℤ pos 0 → 0 ≡ least_changes b
unfolding least_changes
least_none b q is h =
    below_is q h ∙ ap (λ (z : ℤ). unsigned_abs (int_max (pos 0) z)) is
