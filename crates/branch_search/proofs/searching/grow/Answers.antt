use Rattle.std.specs.Prelude.{option_map}
use Rattle.branch_search.specs.Tasks.{task_of}
use Rattle.branch_search.proofs.StateLemmas.{kept_of}
use Rattle.branch_search.proofs.searching.grow.Goals as goal

pub left_worth-requires : goal.left_worth-requires
left_worth-requires g c =
    kept_of (task_of (g.G.Goal.value_gives c.args.goal.now) c.args.inst.now c.args.tables.now c.args.given.now
    (option_map (λ given. given.now) c.args.incumbent)) c.args.part c.loop-growth.growth c.loop-growth.invariant.state
