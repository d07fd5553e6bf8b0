-- The values of a plan, together.
use Rattle.std.specs.Prelude.{ℕ, List, Option}
use Rattle.instance_model.specs.Tables.{Tables}
use Rattle.instance_model.specs.Values.{score_of, roof_of, cost_low_of, cost_high_of, mean_low_of, mean_high_of}
use Rattle.instance_model.specs.Values.{excess_low_of, excess_high_of}
use Rattle.plan_score.specs.declared.values.Values.{Values}

-- the score and the roof in parts of 10^-18, and the printed cost, mean and excess in counts of 10^-12
unfoldable pub values_of : Tables → List (Option ℕ) → Values
values_of inst plan =
    record {
      score = score_of inst plan;
      roof = roof_of inst plan;
      cost_low = cost_low_of inst plan;
      cost_high = cost_high_of inst plan;
      mean_low = mean_low_of inst plan;
      mean_high = mean_high_of inst plan;
      excess_low = excess_low_of inst plan;
      excess_high = excess_high_of inst plan;
    }
