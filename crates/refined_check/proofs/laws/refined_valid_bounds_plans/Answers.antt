use Rattle.refined_check.proofs.RefinedSoundness.{RefinedValidBoundsPlans-from}
use Rattle.refined_check.proofs.laws.refined_valid_bounds_plans.Goals as goal

pub returns : goal.returns
returns c = RefinedValidBoundsPlans-from c.refined_lists_bound_boxes.ensures c.proved_bounds_plans.ensures
