use Rattle.std.proofs.Common.{◌≡◌, ◌+◌, map, Some}
use Rattle.std.specs.List.{range_with_len}
use Rattle.scenario_rows.specs.RiskStates.{period_of}
use Rattle.scenario_rows.specs.Parts.{IsScored}
use Rattle.scenario_rows.proofs.risk_rows.rows_of.Given as goal

abbrev pub invariant-loop-u : goal.invariant-loop-u
invariant-loop-u g l = record {
  made : l.periods.items ≡ map (λ k. period_of l.inst (map Some l.starts) (k + 1)) (range_with_len 0 l.u);
  scored : IsScored l.periods.items l.score;
}
