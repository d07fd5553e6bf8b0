use Rattle.std.proofs.Common.{Option, List, ℕ, IfSome, sym, subst}
use Rattle.instance_model.specs.Plans.{AreAllowedStarts}
use Rattle.branch_search.specs.Best.{IsFeasiblePlan}
use Rattle.branch_search.proofs.SettleLemmas.{allowed_of_feasible}
use Rattle.refined_search.proofs.box_lists.best_score.Goals as goal

pub value-requires : goal.value-requires
value-requires c =
    let inst = c.args.inst.now in
    let h : IsFeasiblePlan inst c.in-Some.starts =
    subst (λ (o : Option (List ℕ)). IfSome o (IsFeasiblePlan inst)) c.in-Some.is c.requires in
    subst (AreAllowedStarts inst) (sym c.as_slice.ensures) (allowed_of_feasible inst c.in-Some.starts h.each h.feasible)
