-- The starts of a plan, where all of them are allowed.
use Rattle.std.specs.Prelude.{◌≡◌, ℕ, List, map, Option, Some}
use Rattle.instance_model.specs.Tables.{Tables}
use Rattle.instance_model.specs.Plans.{AreAllowedStarts}
use Rattle.instance_model.specs.Rules.{first_start_rule}
use Rattle.instance_model.specs.declared.rule.Rule.{Rule}
use Rattle.command_frame.specs.declared.opening.Opening.{Opening}
use Rattle.command_frame.specs.declared.opening.Opening.TheVariants.{Starts, Broken}
use Rattle.command_frame.specs.Reports.{infeasible_report}

-- these are the starts of a plan, all of them allowed
pub record IsOpeningOf (inst : Tables) (plan : List (Option ℕ)) (opening : List ℕ) : Type 0 where
  pub starts : plan ≡ map Some opening
  pub allowed : AreAllowedStarts inst opening

-- from what a command sets out that needs a plan of allowed starts
abbrev pub OpensAs : Tables → List (Option ℕ) → Opening → Type 0
OpensAs inst plan (Starts starts) = IsOpeningOf inst plan starts
OpensAs inst plan (Broken text) =
    (rule : Rule) × (first_start_rule inst plan ≡ Some rule) × (text ≡ infeasible_report inst rule)
