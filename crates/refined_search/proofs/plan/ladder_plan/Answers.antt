use Rattle.std.proofs.Common.{◌∙◌}
use Rattle.refined_search.proofs.ListLemmas.{plan_lent}
use Rattle.refined_search.proofs.plan.ladder_plan.Goals as goal

pub returns-in_ok-copy-in-Some : goal.returns-in_ok-copy-in-Some
returns-in_ok-copy-in-Some c =
    plan_lent c.args.inst.now c.args.incumbent c.in-Some.plan c.from_vec.result c.requires c.in-Some.is
    (c.from_vec.ensures ∙ c.in_ok-copy-in-Some.ensures.items)
