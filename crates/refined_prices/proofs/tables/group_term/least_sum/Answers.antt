use Rattle.std.proofs.Common.{◌≡◌, ◌∙◌, ◌+◌, ◌*◌, ◌≤◌, ◌+ℤ◌, ℕ, ℤ, List, [], ap, arith, get_or, pos, to_z, unsigned_abs}
use Rattle.std.specs.Int.{int_min, w128}
use Rattle.std.proofs.lemmas.List.{get_or_default}
use Rattle.fixed_num.proofs.SignedLemmas.{back_from_abs}
use Rattle.instance_model.specs.RiskNumbers.{numbers_of}
use Rattle.refined_prices.specs.declared.member.Member.{Member}
use Rattle.refined_prices.specs.Groups.{weighted_sum, least_below}
use Rattle.refined_prices.specs.tables.GroupTerms.{risk_in}
use Rattle.refined_prices.proofs.TablesRiskTermLemmas.{least_below_first, least_below_more, least_small}
use Rattle.refined_prices.proofs.tables.group_term.least_sum.Goals as goal

pub loop-g-init : goal.loop-g-init
loop-g-init c =
    let small : unsigned_abs c.group_sum-least.result ≤ 101_000_000_000_000_000_000_000 =
    omega (arith, c.group_sum-least.ensures.small) in
    let b = back_from_abs c.group_sum-least.result (omega (arith, small)) in
    record {
      value = b ∙ c.group_sum-least.ensures.value
          ∙ ap (λ (xs : List Member). weighted_sum (risk_in (numbers_of c.args.risks)) xs
          +ℤ pos (1_000_000_000_000 * get_or c.args.offsets.now c.args.from 0))
          (c.as_slice.ensures ∙ c.index-groups-0.is
          ∙ get_or_default c.args.groups.now 0 c.index-groups-0.result [] (omega arith))
          ∙ ap (λ (k : ℕ). weighted_sum (risk_in (numbers_of c.args.risks)) (get_or c.args.groups.now 0 [])
          +ℤ pos (1_000_000_000_000 * get_or c.args.offsets.now k 0)) (omega arith)
          ∙ least_below_first (λ g. weighted_sum (risk_in (numbers_of c.args.risks)) (get_or c.args.groups.now g [])
          +ℤ pos (1_000_000_000_000 * get_or c.args.offsets.now (c.args.from + g) 0));
      small = rw b small;
    }

pub loop-g-preserved : goal.loop-g-preserved
loop-g-preserved c =
    let x = to_z w128 c.loop-g.least-bits in
    let y_small : unsigned_abs c.group_sum.result ≤ 101_000_000_000_000_000_000_000 =
    omega (arith, c.group_sum.ensures.small) in
    let by = back_from_abs c.group_sum.result (omega (arith, y_small)) in
    let m : c.min-least.result ≡ int_min (to_z w128 c.loop-g.least-bits) c.group_sum.result =
    c.min-least.ensures.value ∙ ap (int_min x) by in
    let small : unsigned_abs c.min-least.result ≤ 101_000_000_000_000_000_000_000 =
    rw m (least_small x c.group_sum.result 101_000_000_000_000_000_000_000 c.loop-g.invariant.small y_small) in
    let b = back_from_abs c.min-least.result (omega (arith, small)) in
    record {
      value = b ∙ m ∙ ap (λ (z : ℤ). int_min z c.group_sum.result) c.loop-g.invariant.value
          ∙ ap (int_min (least_below c.loop-g.g
          (λ g. weighted_sum (risk_in (numbers_of c.args.risks)) (get_or c.args.groups.now g [])
          +ℤ pos (1_000_000_000_000 * get_or c.args.offsets.now (c.args.from + g) 0))))
          (c.group_sum.ensures.value
          ∙ ap (λ (xs : List Member). weighted_sum (risk_in (numbers_of c.args.risks)) xs
          +ℤ pos (1_000_000_000_000 * get_or c.args.offsets.now (c.args.from + c.loop-g.g) 0))
          (c.as_slice-in-loop-g.ensures ∙ c.index-groups-g.is
          ∙ get_or_default c.args.groups.now c.loop-g.g c.index-groups-g.result [] (omega arith)))
          ∙ least_below_more (λ g. weighted_sum (risk_in (numbers_of c.args.risks)) (get_or c.args.groups.now g [])
          +ℤ pos (1_000_000_000_000 * get_or c.args.offsets.now (c.args.from + g) 0)) c.loop-g.g (omega arith);
      small = rw b small;
    }
