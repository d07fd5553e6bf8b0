-- The sum of the prices on limits, as far as a loop has come.
use Rattle.std.proofs.Common.{◌≡◌, ◌∙◌, ℕ, ◌+◌, ◌-◌, ◌*◌, ◌/◌, ◌%◌, ◌<◌, ◌≤◌, arith, sym, ap}
use Rattle.std.proofs.Common.{List, length, get_or, take, sum}
use Rattle.std.proofs.lemmas.List.Elements.{All-get_or}
use Rattle.std.proofs.lemmas.List.Sums.{sum_by_more}
use Rattle.std.proofs.lemmas.List.{take_all}
use Rattle.std.proofs.lemmas.Nat.{div_below}
use Rattle.instance_model.specs.Tables.{Tables}
use Rattle.lagrange_bound.specs.Prices.{PriceList, IsPriceList, up_of, lo_of}
use Rattle.lagrange_bound.specs.Changes.{IsBandPlace}

-- the place of a number is that of a resource and a period
pub at_band : (inst : Tables) (k p : ℕ) → p ≡ inst.periods → 1 ≤ p → k < length inst.resource_names * p
    → IsBandPlace inst (k / p) (k % p + 1)
at_band inst k p e some l = record {
  resource = div_below k p (length inst.resource_names) some l;
  from = omega arith;
  to = omega (arith, e, some);
}

-- which is where the list has it
same_place : (k p : ℕ) → 1 ≤ p → k / p * p + (k % p + 1 - 1) ≡ k
same_place k p some = omega (arith, some)

number_at : (xs : List ℕ) (k p n : ℕ) → p ≡ n → 1 ≤ p → get_or xs (k / p * n + (k % p + 1 - 1)) 0 ≡ get_or xs k 0
number_at xs k p n e some =
    ap (λ (m : ℕ). get_or xs (k / p * m + (k % p + 1 - 1)) 0) (sym e)
    ∙ ap (λ (m : ℕ). get_or xs m 0) (same_place k p some)

-- after k numbers of each list
pub record IsTotalTo (prices : PriceList) (k total : ℕ) : Type 0 where
  pub value : total ≡ sum (take k prices.up) + sum (take k prices.lo)
  pub small : total ≤ k * 2_000_000_000

pub total_none : (prices : PriceList) → IsTotalTo prices 0 0
total_none prices = record { value = omega arith; small = omega arith }

pub total_more : (inst : Tables) (prices : PriceList) (k p u v total : ℕ) → IsPriceList inst prices
    → p ≡ inst.periods → 1 ≤ p → k < length inst.resource_names * p → u ≡ up_of inst prices (k / p) (k % p + 1)
    → v ≡ lo_of inst prices (k / p) (k % p + 1) → IsTotalTo prices k total → IsTotalTo prices (k + 1) (total + (u + v))
total_more inst prices k p u v total h e some l a b t =
    let each : length inst.resource_names * p ≡ length inst.resource_names * inst.periods =
    ap (λ (n : ℕ). length inst.resource_names * n) e in
    let x : k < length prices.up = omega (arith, l, each, h.up_each) in
    let y : k < length prices.lo = omega (arith, l, each, h.lo_each) in
    let c = a ∙ number_at prices.up k p inst.periods e some in
    let d = b ∙ number_at prices.lo k p inst.periods e some in
    let f = sum_by_more (λ (n : ℕ). n) prices.up k 0 x in
    let g = sum_by_more (λ (n : ℕ). n) prices.lo k 0 y in
    let r = All-get_or (λ v. v ≤ 1_000_000_000) prices.up k 0 x h.up_small in
    let s = All-get_or (λ v. v ≤ 1_000_000_000) prices.lo k 0 y h.lo_small in
    record { value = omega (arith, t.value, c, d, f, g); small = omega (arith, t.small, c, d, r, s) }

pub total_all : (inst : Tables) (prices : PriceList) (k p total : ℕ) → IsPriceList inst prices → p ≡ inst.periods
    → k ≡ length inst.resource_names * p → IsTotalTo prices k total → total ≡ sum prices.up + sum prices.lo
total_all inst prices k p total h e all t =
    let each : length inst.resource_names * p ≡ length inst.resource_names * inst.periods =
    ap (λ (n : ℕ). length inst.resource_names * n) e in
    let x = take_all k prices.up (omega (arith, all, each, h.up_each)) in
    let y = take_all k prices.lo (omega (arith, all, each, h.lo_each)) in
    omega (arith, t.value, ap sum x, ap sum y)
