-- A ladder from the list of zeros: what holds after some steps, and that it ends with a raised list.
use Rattle.std.proofs.Common.{◌≡◌, ℕ, ◌+◌, ◌*◌, ◌≤◌, inl, inr, refl, sym, ◌∙◌, ap, subst, arith, ◌<◌, ◌^◌}
use Rattle.std.proofs.Common.{unsigned_abs, ℤ, ◌+ℤ◌, ◌<ℤ◌, ◌≤ℤ◌, false, true, List, length}
use Rattle.fixed_num.proofs.Bits.{by_bits}
use Rattle.fixed_num.proofs.SignedLemmas.{signed_arith, back_from_abs}
use Rattle.fixed_num.proofs.SumLemmas.{abs-sum}
use Rattle.instance_model.specs.Tables.{Tables}
use Rattle.lagrange_bound.specs.Prices.{PriceList, IsPriceList, zero_list}
use Rattle.lagrange_bound.specs.Boxes.{HasStarts}
use Rattle.lagrange_bound.specs.Worth.{price_total}
use Rattle.certificate_tree.specs.Trees.{root_box}
use Rattle.price_ladder.specs.Steps.{IsLadderStep}
use Rattle.price_ladder.specs.Raised.{root_worth, least_total, least_gain, IsRaised}
use Rattle.price_ladder.specs.Tried.{IsTried}
use Rattle.price_ladder.proofs.StepLemmas.{ladder_step_small}
use Rattle.price_ladder.proofs.GainLemmas.{IsGained, IsGained-none, IsGained-more, IsGained-least, enough_after}
use Rattle.price_ladder.proofs.GainLemmas.{root_worth-zero}

-- after k steps from a first list, each of which gained enough
pub record IsClimbed (inst : Tables) (first : PriceList) (k : ℕ) (prices : PriceList) : Type 0 where
  pub in_range : IsPriceList inst prices
  pub gained : IsGained inst k (root_worth inst prices)
  pub total : price_total prices ≤ price_total first + k * 100_000_000
  pub few : length prices.ex ≤ length first.ex + k

pub climbed_none : (inst : Tables) (first : PriceList) → IsPriceList inst first
    → least_total inst ≤ℤ root_worth inst first → IsClimbed inst first 0 first
climbed_none inst first h l = record {
  in_range = h;
  gained = IsGained-none inst (root_worth inst first) l;
  total = omega arith;
  few = omega arith;
}

pub climbed_more : (inst : Tables) (starts : List ℕ) (first : PriceList) (k : ℕ) (old new : PriceList) (worth : ℤ)
    → worth ≡ root_worth inst old → IsClimbed inst first k old
    → IsTried inst old new (worth +ℤ least_gain inst) (IsLadderStep inst starts old) true
    → IsClimbed inst first (k + 1) new
climbed_more inst starts first k old new worth e h t =
    let s = ladder_step_small inst starts old new h.in_range t.in_range t.step in
    record {
      in_range = t.in_range;
      gained = IsGained-more inst k (root_worth inst old) (root_worth inst new) h.gained
          (subst (λ (w : ℤ). (w +ℤ least_gain inst) ≤ℤ root_worth inst new) e t.reached);
      total = omega (arith, h.total, s.total);
      few = omega (arith, h.few, s.few);
    }

-- where no step gains enough
pub raised_by_failing : (inst : Tables) (starts : List ℕ) (old new : PriceList) (worth : ℤ)
    → worth ≡ root_worth inst old → IsTried inst old new (worth +ℤ least_gain inst) (IsLadderStep inst starts old) false
    → IsRaised inst starts new
raised_by_failing inst starts old new worth e t =
    subst (IsRaised inst starts) (sym t.0)
    (inl (record {
      none =
          λ p r s. subst (λ (w : ℤ). root_worth inst p <ℤ (w +ℤ least_gain inst)) e (t.1.none p r s);
    }))

-- after 400 steps
pub raised_by_steps : (inst : Tables) (starts : List ℕ) (first : PriceList) (k : ℕ) (prices : PriceList) → 400 ≤ k
    → HasStarts inst (root_box inst) → IsClimbed inst first k prices → IsRaised inst starts prices
raised_by_steps inst starts first k prices many h c = inr (enough_after inst k (root_worth inst prices) many h c.gained)

pub climbed_least : (inst : Tables) (first : PriceList) (k : ℕ) (prices : PriceList) → HasStarts inst (root_box inst)
    → IsClimbed inst first k prices → least_total inst ≤ℤ root_worth inst prices
climbed_least inst first k prices h c = IsGained-least inst k (root_worth inst prices) h c.gained

-- ---- the list of zeros

pub zero_few : (inst : Tables) → length (zero_list inst).ex ≡ 0
unfolding zero_list
zero_few inst = refl

pub zero_least : (inst : Tables) → least_total inst ≤ℤ root_worth inst (zero_list inst)
zero_least inst = at (root_worth inst (zero_list inst)) (least_total inst) (root_worth-zero inst)
  where
    at : (w z : ℤ) → w ≡ z → z ≤ℤ w
    at w z e = omega (arith, signed_arith)

-- the target, as the code adds it up
pub target_is : (w g : ℤ) → unsigned_abs w < 10 ^ 37 → unsigned_abs g ≤ 10 ^ 36 → by_bits (w +ℤ by_bits g) ≡ w +ℤ g
target_is w g h k =
    let a : by_bits g ≡ g = back_from_abs g (omega (arith, k)) in
    let b : by_bits (w +ℤ g) ≡ w +ℤ g = back_from_abs (w +ℤ g) (omega (arith, abs-sum w g, h, k)) in
    rw (a, b) refl

pub target_at : (inst : Tables) (w g : ℤ) → unsigned_abs w < 10 ^ 37 → unsigned_abs g ≤ 10 ^ 36 → g ≡ least_gain inst
    → by_bits (w +ℤ by_bits g) ≡ w +ℤ least_gain inst
target_at inst w g h k e = target_is w g h k ∙ ap (λ (z : ℤ). w +ℤ z) e
