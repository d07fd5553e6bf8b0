-- The prices of a feasible plan's starts and the constant come to at most its score.
use Rattle.std.proofs.Common.{ℕ, arith, ℤ, pos, ◌+ℤ◌, ◌-ℤ◌, ◌≤ℤ◌, length, map, get_or, Some}
use Rattle.fixed_num.specs.Sums.{sum_below}
use Rattle.fixed_num.proofs.SignedLemmas.{signed_arith}
use Rattle.fixed_num.proofs.SumLemmas.{sum_below-add}
use Rattle.instance_model.proofs.RuleLemmas.{KeepsRules-from}
use Rattle.lagrange_bound.specs.Goals.{risk_value}
use Rattle.lagrange_bound.proofs.WorthLemmas.{starts_allowed}
use Rattle.refined_prices.specs.GroupBases.{group_base_of, offset_cost}
use Rattle.refined_prices.specs.RefinedWorth.{limit_part, limit_constant, refined_price, refined_constant}
use Rattle.refined_prices.specs.RefinedWorth.{RefinedListsAreLawful}
use Rattle.refined_prices.proofs.GroupLaw.{group_law}
use Rattle.refined_prices.proofs.LimitLemmas.{LimitsAddNothing-from}

pub RefinedListsAreLawful-from : RefinedListsAreLawful
unfolding refined_price refined_constant
RefinedListsAreLawful-from inst list f r starts each feasible =
    let n = length inst.names in
    let k = KeepsRules-from inst (map Some starts) feasible in
    let bases : ℕ → ℤ = λ i. group_base_of inst list.tails list.offsets i (get_or starts i 0) in
    let limits : ℕ → ℤ = λ i. limit_part inst list i (get_or starts i 0) in
    let apart = sum_below-add n bases limits in
    rw apart (settle (sum_below n bases) (sum_below n limits) (limit_constant inst list)
    (pos (offset_cost inst list.tails list.offsets)) (risk_value inst starts)
    (group_law inst list.tails list.offsets starts f r.tails (starts_allowed inst starts each k))
    (LimitsAddNothing-from inst list starts f r each k))
  where
    settle : (b x c o v : ℤ) → (b -ℤ o) ≤ℤ v → (x +ℤ c) ≤ℤ pos 0 → ((b +ℤ x) +ℤ (c -ℤ o)) ≤ℤ v
    settle b x c o v h k = omega (arith, signed_arith)
