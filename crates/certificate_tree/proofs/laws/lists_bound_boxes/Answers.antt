use Rattle.certificate_tree.proofs.Soundness.{lists_bound_boxes as law}
use Rattle.certificate_tree.proofs.laws.lists_bound_boxes.Goals as goal

pub returns : goal.returns
returns g c =
    law (g.G.Goal.base_gives c.args.goal.now) (g.G.Goal.value_gives c.args.goal.now) c.worth_bounds_plans.ensures
