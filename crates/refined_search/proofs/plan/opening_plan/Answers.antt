use Rattle.std.proofs.Common.{subst}
use Rattle.local_search.specs.Openings.{OpensAs}
use Rattle.refined_search.proofs.ListLemmas.{plan_opens, no_plan}
use Rattle.refined_search.proofs.plan.opening_plan.Goals as goal

pub returns-in-From : goal.returns-in-From
returns-in-From c =
    let inst = c.args.inst.now in
    plan_opens inst c.in-From.starts (subst (OpensAs inst) c.in-From.is c.in_ok-starts.ensures)

pub returns-in-Without : goal.returns-in-Without
returns-in-Without c =
    let inst = c.args.inst.now in
    no_plan inst c.in-Without.i (subst (OpensAs inst) c.in-Without.is c.in_ok-starts.ensures)
