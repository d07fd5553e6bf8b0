use Rattle.std.proofs.Common.{◌≡◌, ◌+◌, ◌-◌, ◌*◌, ◌≤◌}
use Rattle.std.specs.Prelude.{IfSome}
use Rattle.std.proofs.Math.ListN.{set}
use Rattle.scenario_rows.specs.Bounds.{period_bound, most_scenarios}
use Rattle.scenario_rows.specs.Changes.{AreChangedBelow}
use Rattle.scenario_rows.specs.RunChanges.{start_after}
use Rattle.scenario_rows.proofs.risk_rows.RiskRows.change_run.Given as goal

abbrev pub invariant-loop-t : goal.invariant-loop-t
invariant-loop-t g l = record {
  board : l.self.board ≡ l.fn.self.board;
  periods : AreChangedBelow l.inst l.fn.self.board
      (set l.fn.self.board l.i (start_after l.change l.s)) l.t l.self.periods;
  cost : IfSome g.R.Row.most (λ most. l.steps ≤ l.fn.steps + (l.t - l.s) * period_bound most (most_scenarios l.inst));
  forward : l.fn.steps ≤ l.steps;
}
