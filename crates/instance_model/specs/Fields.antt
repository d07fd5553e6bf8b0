-- The tables that the fields of parts stand for.
use Rattle.std.specs.Prelude.{ℕ, ℤ, Bool, List, Vec, String, map, string_bytes}
use Rattle.std.specs.declared.alloc.Global.{Global}
use Rattle.instance_model.specs.declared.parts.LoadCell.{LoadCell}
use Rattle.instance_model.specs.declared.parts.Exclusion.{Exclusion}
use Rattle.instance_model.specs.declared.run_risks.RunRisks.{RunRisks}
use Rattle.instance_model.specs.RunRisks.{risks_of, softs_of}
use Rattle.instance_model.specs.Tables.{Tables}

-- the fields of parts, in their order, as tables
abbrev pub field_tables : (periods alpha quantile : ℕ) (scenarios : List ℕ) (resources : List (String Global))
    (upper lower : List ℤ) (seasons : List (String Global)) (in_season : List Bool)
    (interventions : List (String Global)) (delta : List (Vec ℕ Global)) (exclusions : List (String Global))
    (excluded : List Exclusion) (loads : List (Vec LoadCell Global)) (risks : RunRisks) (rounded : ℕ) → Tables
field_tables periods alpha quantile scenarios resources upper lower seasons in_season interventions delta exclusions
    excluded loads risks rounded =
    record {
      periods = periods;
      alpha = alpha;
      quantile = quantile;
      scenarios = scenarios;
      resource_names = map string_bytes resources;
      upper = upper;
      lower = lower;
      season_names = map string_bytes seasons;
      in_season = in_season;
      names = map string_bytes interventions;
      delta = map (λ v. v.items) delta;
      exclusion_names = map string_bytes exclusions;
      excluded = excluded;
      loads = map (λ v. v.items) loads;
      risks = risks_of risks;
      soft = softs_of risks;
      rounded = rounded;
    }
