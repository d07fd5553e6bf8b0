-- The texts of small instances, worked out by hand.
use Rattle.std.proofs.Common.{◌≡◌, [], ◌∷◌, ◌++◌, refl, pos, true, false}
use Rattle.std.specs.Prelude.{codes, neg_ℤ}
use Rattle.std.specs.Fmt.{digits}
use Rattle.json_grammar.specs.laws.Spelling.{spell, quoted, escaped}
use Rattle.instance_model.specs.Naturals.{count_sum}
use Rattle.instance_model.specs.Tables.{Tables, upper_of, lower_of, in_season_of, exclusion_of, durations, tmax}
use Rattle.instance_model.specs.Tables.{delta_of}
use Rattle.instance_model.specs.Tables.{allowed_of, is_allowed, in_run, scenarios_of, risk_of, risk_place, entry_place}
use Rattle.instance_model.specs.Tables.{entries_before, entries_of, entries_at, scenarios_before}
use Rattle.instance_writer.specs.text.Styles.{decimals, part_text}
use Rattle.instance_writer.specs.text.Written.{instance_text}
use Rattle.fixed_num.specs.Texts.{fixed_text}

-- one period with one scenario, and nothing else
abbrev empty : Tables
empty = record {
  periods = 1;
  alpha = 1_000_000;
  quantile = 1_000_000;
  scenarios = 1 ∷ [];
  resource_names = [];
  upper = [];
  lower = [];
  season_names = [];
  in_season = [];
  names = [];
  delta = [];
  exclusion_names = [];
  excluded = [];
  loads = [];
  risks = [];
  soft = [];
  rounded = 0;
}

empty_text : instance_text decimals empty
    ≡ codes "{\"Resources\":{},\"Seasons\":{},\"Interventions\":{},\"Exclusions\":{},\"T\":1,"
    ++ codes "\"Scenarios_number\":[1],\"Quantile\":1.000000,\"Alpha\":1.000000}"
unfolding spell digits quoted escaped
empty_text = refl

-- two interventions of two starts, of which each may start at one, with loads at both of these starts
abbrev pair : Tables
pair = record {
  periods = 2;
  alpha = 500_000;
  quantile = 950_000;
  scenarios = 2 ∷ 1 ∷ [];
  resource_names = codes "c\"" ∷ codes "d" ∷ [];
  upper = pos 10 ∷ pos 11 ∷ pos 12 ∷ pos 13 ∷ [];
  lower = pos 0 ∷ pos 1 ∷ pos 2 ∷ pos 3 ∷ [];
  season_names = codes "w" ∷ [];
  in_season = false ∷ true ∷ [];
  names = codes "I1" ∷ codes "I2" ∷ [];
  delta = (1 ∷ 3 ∷ []) ∷ (3 ∷ 1 ∷ []) ∷ [];
  exclusion_names = codes "E" ∷ [];
  excluded = record { first = 1; second = 0; season = 0 } ∷ [];
  loads = (record { start = 1; period = 1; resource = 1; load = pos 6 } ∷ [])
      ∷ (record { start = 2; period = 2; resource = 0; load = neg_ℤ (pos 7) } ∷ []) ∷ [];
  risks = pos 1 ∷ pos 3 ∷ pos 4 ∷ [];
  soft = false ∷ false ∷ [];
  rounded = 0;
}

pair_text : instance_text decimals pair
    ≡ codes "{\"Resources\":{\"c\\\"\":{\"max\":[0.000000000010,0.000000000011],"
    ++ codes "\"min\":[0.000000000000,0.000000000001]},"
    ++ codes "\"d\":{\"max\":[0.000000000012,0.000000000013],\"min\":[0.000000000002,0.000000000003]}},"
    ++ codes "\"Seasons\":{\"w\":[2]},"
    ++ codes "\"Interventions\":{\"I1\":{"
    ++ codes "\"tmax\":2,\"Delta\":[1,3],\"workload\":{\"d\":{\"1\":{\"1\":0.000000000006}}},"
    ++ codes "\"risk\":{\"1\":{\"1\":[0.000000000001,0.000000000003]}}},"
    ++ codes "\"I2\":{\"tmax\":2,\"Delta\":[3,1],\"workload\":{\"c\\\"\":{\"2\":{\"2\":-0.000000000007}}},"
    ++ codes "\"risk\":{\"2\":{\"2\":[0.000000000004]}}}},"
    ++ codes "\"Exclusions\":{\"E\":[\"I2\",\"I1\",\"w\"]},\"T\":2,\"Scenarios_number\":[2,1],"
    ++ codes "\"Quantile\":0.950000,\"Alpha\":0.500000}"
unfolding spell digits quoted escaped upper_of lower_of in_season_of exclusion_of durations tmax delta_of allowed_of
    is_allowed in_run scenarios_of risk_of risk_place entry_place entries_before entries_of entries_at count_sum
    scenarios_before
pair_text = refl

half : part_text 500_000 ≡ codes "0.500000"
unfolding digits
half = refl

-- one count below -1
below : fixed_text (neg_ℤ (pos 1_000_000_000_001)) ≡ codes "-1.000000000001"
unfolding digits
below = refl
