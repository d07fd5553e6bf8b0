use Rattle.std.proofs.Common.{◌≡◌, take, All}
use Rattle.plan_table.specs.declared.report.LoadState.TheVariants.{Fits}
use Rattle.worked_plans.proofs.tables.feasible.all_fit.Given as goal

abbrev pub invariant-loop-line : goal.invariant-loop-line
invariant-loop-line l = All (λ line. line.state ≡ Fits) (take l.line-index l.loads)
