-- Ladder steps: how much one adds to the sum of all numbers.
use Rattle.std.proofs.Common.{◌≡◌, ℕ, ◌+◌, ◌^◌, ◌≤◌, ◌⊎◌, inl, inr, arith, List, length, Some, None}
use Rattle.std.proofs.Math.Nat.{pow-le-pow_right}
use Rattle.instance_model.specs.Tables.{Tables}
use Rattle.lagrange_bound.specs.Prices.{PriceList, IsPriceList}
use Rattle.lagrange_bound.specs.Worth.{price_total}
use Rattle.price_ladder.specs.Places.{value_at}
use Rattle.price_ladder.specs.Tails.{plan_tail}
use Rattle.price_ladder.specs.Steps.{IsPriceStep, IsTailStep, IsLadderStep, of_number, of_tail}
use Rattle.price_ladder.proofs.PlaceLemmas.{IsMoved, value_moved, tail_moved}

-- a step adds at most 10^8 to the sum, and at most one price of an exclusion that isn't 0
pub record IsSmallStep (old new : PriceList) : Type 0 where
  pub total : price_total new ≤ price_total old + 100_000_000
  pub few : length new.ex ≤ length old.ex + 1

pub power_small : (e : ℕ) → e ≤ 8 → 10 ^ e ≤ 100_000_000
power_small e h = let p : 10 ^ e ≤ 10 ^ 8 = pow-le-pow_right (omega arith) h in omega (arith, p)

moved_small : (old new : PriceList) (u v : ℕ) → IsMoved old new u v → v ≤ u + 100_000_000 → IsSmallStep old new
moved_small old new u v m h = record { total = omega (arith, m.total, h); few = m.few }

price_step_small : (u v : ℕ) → IsPriceStep u v → v ≤ u + 100_000_000
price_step_small u v s = at s.changed (power_small s.exponent s.few)
  where
    at : (v ≡ u + 10 ^ s.exponent) ⊎ (u ≡ v + 10 ^ s.exponent) → 10 ^ s.exponent ≤ 100_000_000 → v ≤ u + 100_000_000
    at (inl e) p = omega (arith, e, p)
    at (inr e) p = omega (arith, e, p)

tail_step_small : (inst : Tables) (starts : List ℕ) (old new : PriceList) (t : ℕ)
    → IsTailStep inst starts old t new → IsSmallStep old new
tail_step_small inst starts old new t (inl w) =
    moved_small old new 0 0 (tail_moved old new t (Some (plan_tail inst starts t)) w.1) (omega arith)
tail_step_small inst starts old new t (inr w) = moved_small old new 0 0 (tail_moved old new t None w.1) (omega arith)

pub ladder_step_small : (inst : Tables) (starts : List ℕ) (old new : PriceList) → IsPriceList inst old
    → IsPriceList inst new → IsLadderStep inst starts old new → IsSmallStep old new
ladder_step_small inst starts old new h k (of_number place w s) =
    moved_small old new (value_at inst old place) s.value (value_moved inst old new place s.value h k w s.changed)
    (price_step_small (value_at inst old place) s.value s.step)
ladder_step_small inst starts old new h k (of_tail t from to s) = tail_step_small inst starts old new t s
