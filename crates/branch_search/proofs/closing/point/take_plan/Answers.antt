use Rattle.std.proofs.Common.{◌≡◌, ◌∙◌, sym, subst, inr, refl, arith, rules}
use Rattle.lagrange_bound.specs.Boxes.{IsPlanIn}
use Rattle.fixed_num.proofs.SignedLemmas.{back_from_abs}
use Rattle.branch_search.specs.Valued.{IsBelow}
use Rattle.branch_search.proofs.SettleLemmas.{allowed_of_feasible, plan_feasible, plan_within}
use Rattle.branch_search.proofs.StateLemmas.{better_than}
use Rattle.branch_search.proofs.closing.point.take_plan.Goals as goal

pub value-requires : goal.value-requires
value-requires g c =
    let f = plan_feasible c.args.inst.now c.args.starts.now c.as_slice.result.now c.broken_rule.result c.is_some.result
    (c.as_slice.ensures.value ∙ c.in_ok-plan.ensures) c.broken_rule.ensures c.is_some.ensures c.if-is_some.false in
    allowed_of_feasible c.args.inst.now c.args.starts.now (c.requires.inside.each ∙ c.requires.spans.each) f

pub returns-clause-improved : goal.returns-clause-improved
returns-clause-improved g c =
    let value = g.G.Goal.value_gives c.args.goal.now in
    let f = plan_feasible c.args.inst.now c.args.starts.now c.as_slice.result.now c.broken_rule.result c.is_some.result
    (c.as_slice.ensures.value ∙ c.in_ok-plan.ensures) c.broken_rule.ensures c.is_some.ensures c.if-is_some.false in
    let e : c.from_vec.result ≡ c.args.starts.now = search rules in
    let below = subst (IsBelow c.args.best.now) (back_from_abs c.in_ok-value.value
    (omega (arith, c.in_ok-value.ensures.small))) (c.is_below.ensures.0 c.if-not-is_below.false) in
    inr (
      c.from_vec.result,
      refl,
      record {
        inside = subst (IsPlanIn c.args.inst.now c.args.spans.now) (sym e)
            (plan_within c.args.inst.now c.args.spans.now c.args.starts.now c.requires.spans c.requires.inside f);
        better = better_than value c.args.inst.now c.args.best.now c.in_ok-value.value c.args.starts.now
            c.from_vec.result (sym e) c.requires.valued below c.in_ok-value.ensures.value;
      },
    )
