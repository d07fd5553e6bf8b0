-- Tables with the same fields are the same.
use Rattle.std.proofs.Common.{◌≡◌, ℕ, ℤ, Bool, List}
use Rattle.instance_model.specs.declared.parts.LoadCell.{LoadCell}
use Rattle.instance_model.specs.declared.parts.Exclusion.{Exclusion}
use Rattle.instance_model.specs.Tables.{Tables}

of_fields : (periods_a periods_b : ℕ) (alpha_a alpha_b : ℕ) (quantile_a quantile_b : ℕ) (scenarios_a scenarios_b : List
    ℕ) (resource_names_a resource_names_b : List (List ℕ)) (upper_a upper_b : List ℤ) (lower_a lower_b : List ℤ)
    (season_names_a season_names_b : List (List ℕ)) (in_season_a in_season_b : List Bool) (names_a names_b : List
    (List ℕ)) (delta_a delta_b : List (List ℕ)) (exclusion_names_a exclusion_names_b : List (List ℕ))
    (excluded_a excluded_b : List Exclusion) (loads_a loads_b : List (List LoadCell)) (risks_a risks_b : List ℤ)
    (soft_a soft_b : List Bool) (rounded_a rounded_b : ℕ) → periods_a ≡ periods_b → alpha_a ≡ alpha_b
    → quantile_a ≡ quantile_b → scenarios_a ≡ scenarios_b → resource_names_a ≡ resource_names_b → upper_a ≡ upper_b
    → lower_a ≡ lower_b → season_names_a ≡ season_names_b → in_season_a ≡ in_season_b → names_a ≡ names_b
    → delta_a ≡ delta_b → exclusion_names_a ≡ exclusion_names_b → excluded_a ≡ excluded_b → loads_a ≡ loads_b
    → risks_a ≡ risks_b → soft_a ≡ soft_b → rounded_a ≡ rounded_b
    → (let t : Tables = record {
      periods = periods_a;
      alpha = alpha_a;
      quantile = quantile_a;
      scenarios = scenarios_a;
      resource_names = resource_names_a;
      upper = upper_a;
      lower = lower_a;
      season_names = season_names_a;
      in_season = in_season_a;
      names = names_a;
      delta = delta_a;
      exclusion_names = exclusion_names_a;
      excluded = excluded_a;
      loads = loads_a;
      risks = risks_a;
      soft = soft_a;
      rounded = rounded_a;
    } in t)
    ≡ record {
      periods = periods_b;
      alpha = alpha_b;
      quantile = quantile_b;
      scenarios = scenarios_b;
      resource_names = resource_names_b;
      upper = upper_b;
      lower = lower_b;
      season_names = season_names_b;
      in_season = in_season_b;
      names = names_b;
      delta = delta_b;
      exclusion_names = exclusion_names_b;
      excluded = excluded_b;
      loads = loads_b;
      risks = risks_b;
      soft = soft_b;
      rounded = rounded_b;
    }
of_fields periods_a periods_b alpha_a alpha_b quantile_a quantile_b scenarios_a scenarios_b resource_names_a
    resource_names_b upper_a upper_b lower_a lower_b season_names_a season_names_b in_season_a in_season_b names_a
    names_b delta_a delta_b exclusion_names_a exclusion_names_b excluded_a excluded_b loads_a loads_b risks_a risks_b
    soft_a soft_b rounded_a rounded_b e_periods e_alpha e_quantile e_scenarios e_resource_names e_upper e_lower
    e_season_names e_in_season e_names e_delta e_exclusion_names e_excluded e_loads e_risks e_soft e_rounded = cc

pub same_tables : (a b : Tables) → a.periods ≡ b.periods → a.alpha ≡ b.alpha → a.quantile ≡ b.quantile
    → a.scenarios ≡ b.scenarios → a.resource_names ≡ b.resource_names → a.upper ≡ b.upper → a.lower ≡ b.lower
    → a.season_names ≡ b.season_names → a.in_season ≡ b.in_season → a.names ≡ b.names → a.delta ≡ b.delta
    → a.exclusion_names ≡ b.exclusion_names → a.excluded ≡ b.excluded → a.loads ≡ b.loads → a.risks ≡ b.risks
    → a.soft ≡ b.soft → a.rounded ≡ b.rounded → a ≡ b
same_tables a b e_periods e_alpha e_quantile e_scenarios e_resource_names e_upper e_lower e_season_names e_in_season
    e_names e_delta e_exclusion_names e_excluded e_loads e_risks e_soft e_rounded = of_fields a.periods b.periods
    a.alpha b.alpha a.quantile b.quantile a.scenarios b.scenarios a.resource_names b.resource_names a.upper b.upper
    a.lower b.lower a.season_names b.season_names a.in_season b.in_season a.names b.names a.delta b.delta
    a.exclusion_names b.exclusion_names a.excluded b.excluded a.loads b.loads a.risks b.risks a.soft b.soft a.rounded
    b.rounded e_periods e_alpha e_quantile e_scenarios e_resource_names e_upper e_lower e_season_names e_in_season
    e_names e_delta e_exclusion_names e_excluded e_loads e_risks e_soft e_rounded
