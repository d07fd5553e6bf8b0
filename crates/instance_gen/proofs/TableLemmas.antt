-- The tables of a drawn instance, from their parts.
use Rattle.std.proofs.Common.{◌≡◌, ℕ, ◌+◌, ◌/◌, ℤ, Bool, false, List, ◌++◌, length, replicate, codes}
use Rattle.instance_model.specs.declared.parts.Exclusion.{Exclusion}
use Rattle.instance_gen.specs.Drawing.{Drawn, interventions_of}
use Rattle.instance_gen.specs.Drawn.{drawn_exclusions, drawn_tables, level_limits, level_scenarios, numbered_names}
use Rattle.instance_gen.specs.Drawn.{season_from}

pub tables_from : (seed n : ℕ) (drawn : Drawn) (scenarios : List ℕ) (resources seasons names exclusions : List (List ℕ))
    (upper lower : List ℤ) (in_season : List Bool) (excluded : List Exclusion) (soft : List Bool)
    → drawn ≡ interventions_of seed n
    → scenarios ≡ level_scenarios 53 8
    → resources ≡ numbered_names (codes "c") 2
    → seasons ≡ numbered_names (codes "s") 2
    → names ≡ numbered_names (codes "I") n
    → exclusions ≡ numbered_names (codes "E") (n / 4)
    → upper ≡ level_limits 53 (n / 2 + 9) ++ level_limits 53 (n / 4 + 5)
    → lower ≡ level_limits 53 0 ++ level_limits 53 0
    → in_season ≡ season_from 53 1 13 ++ season_from 53 27 39
    → excluded ≡ drawn_exclusions (n / 4)
    → soft ≡ replicate (length drawn.risks / 8) false
    → record {
      periods = 53;
      alpha = 500_000;
      quantile = 950_000;
      scenarios = scenarios;
      resource_names = resources;
      upper = upper;
      lower = lower;
      season_names = seasons;
      in_season = in_season;
      names = names;
      delta = drawn.delta;
      exclusion_names = exclusions;
      excluded = excluded;
      loads = drawn.loads;
      risks = drawn.risks;
      soft = soft;
      rounded = 0;
    } ≡ drawn_tables seed n
unfolding drawn_tables
tables_from seed n drawn scenarios resources seasons names exclusions upper lower in_season excluded soft a b c d e f
    g h i j k =
    cc
