use Rattle.plan_changes.specs.Returning.{IsTrial}
use Rattle.plan_changes.proofs.TrialLemmas.{Rounds}
use Rattle.plan_changes.proofs.trial.round.Given as goal

abbrev pub invariant-loop-i : goal.invariant-loop-i
invariant-loop-i l = record {
  trial : IsTrial l.inst l.trial;
  rounds : Rounds l.inst l.old l.fn.trial.starts.items l.trial.starts.items l.any l.i;
}
