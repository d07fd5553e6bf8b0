use Rattle.std.proofs.Common.{◌∙◌, ◌≡◌, ◌+◌, ◌-◌, sym, subst, arith}
use Rattle.instance_model.specs.Tables.{scenarios_of, rank_of}
use Rattle.lagrange_bound.specs.Prices.{IsTail}
use Rattle.price_ladder.proofs.PlanTailLemmas.{sums_few, plan_tail_is, plan_tail_in_range}
use Rattle.price_ladder.proofs.plan_tail.plan_tail.Goals as goal

pub first_places-requires : goal.first_places-requires
first_places-requires c = omega (
  arith,
  sums_few c.args.inst.now c.args.starts.now c.args.t c.as_slice.result.now
      (c.as_slice.ensures.value ∙ c.in_ok-sums.ensures),
  c.scenarios.ensures.few,
  c.scenarios.ensures.value,
)

pub returns-clause-value : goal.returns-clause-value
returns-clause-value c =
    let n : c.scenarios.result + 1 - c.rank.result ≡ scenarios_of c.args.inst.now c.args.t + 1 - rank_of c.args.inst.now
    c.args.t = omega (arith, c.scenarios.ensures.value, c.rank.ensures.value) in
    plan_tail_is c.args.inst.now c.args.starts.now c.args.t (c.scenarios.result + 1 - c.rank.result)
    c.as_slice.result.now c.from_vec.result (c.as_slice.ensures.value ∙ c.in_ok-sums.ensures) n
    (c.from_vec.ensures ∙ c.in_ok-places.ensures)

pub returns-clause-in_range : goal.returns-clause-in_range
returns-clause-in_range c =
    let n : c.scenarios.result + 1 - c.rank.result ≡ scenarios_of c.args.inst.now c.args.t + 1 - rank_of c.args.inst.now
    c.args.t = omega (arith, c.scenarios.ensures.value, c.rank.ensures.value) in
    let is = plan_tail_is c.args.inst.now c.args.starts.now c.args.t (c.scenarios.result + 1 - c.rank.result)
    c.as_slice.result.now c.from_vec.result (c.as_slice.ensures.value ∙ c.in_ok-sums.ensures) n
    (c.from_vec.ensures ∙ c.in_ok-places.ensures) in
    subst (IsTail c.args.inst.now c.args.t) (sym is)
    (plan_tail_in_range c.args.inst.now c.args.starts.now c.args.t
    (omega (arith, c.rank.ensures.some, c.rank.ensures.value))
    (omega (arith, c.rank.ensures.few, c.rank.ensures.value)))
