-- Defines the instance that is drawn from a number.
use Rattle.std.specs.Prelude.{ℕ, ◌+◌, ◌*◌, ◌/◌, ◌%◌, ℤ, Bool, false, ◌&&◌, List, ◌++◌, map, length, replicate}
use Rattle.std.specs.Prelude.{codes, decimal, nat_le}
use Rattle.std.specs.List.{range_with_len}
use Rattle.instance_model.specs.declared.parts.Exclusion.{Exclusion}
use Rattle.instance_model.specs.Tables.{Tables}
use Rattle.instance_gen.specs.Drawing.{whole, interventions_of}

-- a letter with each number from 1 to n
unfoldable pub numbered_names : List ℕ → ℕ → List (List ℕ)
numbered_names letter n = map (λ k. letter ++ decimal k) (range_with_len 1 n)

-- the same number of scenarios in each period
unfoldable pub level_scenarios : (periods scenarios : ℕ) → List ℕ
level_scenarios periods scenarios = replicate periods scenarios

-- the same limit in each period
unfoldable pub level_limits : (periods limit : ℕ) → List ℤ
level_limits periods limit = replicate periods (whole limit)

-- whether each period is one from a to b
unfoldable pub season_from : (periods a b : ℕ) → List Bool
season_from periods a b = map (λ t. nat_le a t && nat_le t b) (range_with_len 1 periods)

-- the exclusion in place k, from 0: it names interventions 2k and 2k + 1, and the two seasons by turns
abbrev pub drawn_exclusion : ℕ → Exclusion
drawn_exclusion k = record { first = 2 * k; second = 2 * k + 1; season = k % 2 }

-- the first n exclusions
unfoldable pub drawn_exclusions : ℕ → List Exclusion
drawn_exclusions n = map drawn_exclusion (range_with_len 0 n)

-- the instance of n interventions that a seed gives
unfoldable pub drawn_tables : (seed n : ℕ) → Tables
drawn_tables seed n =
    let drawn = interventions_of seed n in
    record {
      periods = 53;
      alpha = 500_000;
      quantile = 950_000;
      scenarios = level_scenarios 53 8;
      resource_names = numbered_names (codes "c") 2;
      upper = level_limits 53 (n / 2 + 9) ++ level_limits 53 (n / 4 + 5);
      lower = level_limits 53 0 ++ level_limits 53 0;
      season_names = numbered_names (codes "s") 2;
      in_season = season_from 53 1 13 ++ season_from 53 27 39;
      names = numbered_names (codes "I") n;
      delta = drawn.delta;
      exclusion_names = numbered_names (codes "E") (n / 4);
      excluded = drawn_exclusions (n / 4);
      loads = drawn.loads;
      risks = drawn.risks;
      soft = replicate (length drawn.risks / 8) false;
      rounded = 0;
    }
