-- The parts of an instance that each view of it has.
use Rattle.std.proofs.Common.{◌≡◌, Some, sym, ap}
use Rattle.json_grammar.specs.laws.Value.{Value}
use Rattle.instance_model.specs.Tables.{Tables, upper_of, lower_of, in_season_of, exclusion_of}
use Rattle.instance_writer.specs.text.Styles.{Style}
use Rattle.instance_writer.specs.text.Written.{object_of, named, resource_value, season_value, exclusion_value}
use Rattle.instance_writer.specs.Views.{IsViewOf}
use Rattle.instance_writer.specs.Steps.{number_fields}

abbrev pub resources : Style → Tables → Value
resources style t = object_of (named t.resource_names (λ c. Some (resource_value style t c)))

abbrev pub seasons : Tables → Value
seasons t = object_of (named t.season_names (λ q. Some (season_value t q)))

abbrev pub exclusions : Tables → Value
exclusions t = object_of (named t.exclusion_names (λ e. Some (exclusion_value t e)))

module _ (inst view : Tables) (shown : IsViewOf inst view) where
  pub same_resource_values : (style : Style) → resources style inst ≡ resources style view
  unfolding upper_of lower_of
  same_resource_values style = sym (ap (resources style) shown.same)

  pub same_season_values : seasons inst ≡ seasons view
  unfolding in_season_of
  same_season_values = sym (ap seasons shown.same)

  pub same_exclusion_values : exclusions inst ≡ exclusions view
  unfolding exclusion_of
  same_exclusion_values = sym (ap exclusions shown.same)

  pub same_number_fields : (style : Style) → number_fields style inst ≡ number_fields style view
  same_number_fields style = sym (ap (number_fields style) shown.same)
