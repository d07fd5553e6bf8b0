use Rattle.plan_changes.specs.Changes.{changes_of}
use Rattle.plan_changes.specs.Returning.{IsTrial, IsGivenBack}
use Rattle.plan_changes.proofs.giving.give_back.Given as goal

abbrev pub invariant-loop : goal.invariant-loop
invariant-loop l = record {
  trial : IsTrial l.inst l.trial;
  back : IsGivenBack l.plan l.fn.starts l.trial.starts.items;
}

abbrev pub decreases-loop : goal.decreases-loop
decreases-loop l = changes_of l.plan l.trial.starts.items
