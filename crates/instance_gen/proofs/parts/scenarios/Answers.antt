use Rattle.instance_gen.specs.Drawn.{level_scenarios}
use Rattle.instance_gen.proofs.parts.scenarios.Goals as goal

pub returns : goal.returns
unfolding level_scenarios
returns c = c.in_ok-scenarios.ensures.items_if_clones_equal (λ y e. e)
