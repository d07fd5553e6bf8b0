use Rattle.std.proofs.Common.{◌+◌, ◌-◌}
use Rattle.scenario_rows.proofs.judge.+score_from.Given as goal

abbrev pub decreases-score_from : goal.decreases-score_from
decreases-score_from g l = l.inst.now.periods + 1 - l.from
