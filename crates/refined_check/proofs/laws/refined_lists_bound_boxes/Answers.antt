use Rattle.refined_check.proofs.RefinedSoundness.{RefinedListsBoundBoxes-from}
use Rattle.refined_check.proofs.laws.refined_lists_bound_boxes.Goals as goal

pub returns : goal.returns
returns c = RefinedListsBoundBoxes-from c.prices_are_lawful.ensures c.refined_lists_are_lawful.ensures.lawful
    c.lawful_worths_bound_plans.ensures
