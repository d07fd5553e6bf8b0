use Rattle.std.proofs.Common.{◌-◌, ◌≤◌}
use Rattle.std.specs.Prelude.{option_map}
use Rattle.branch_search.specs.Tasks.{task_of}
use Rattle.branch_search.specs.States.{IsGrowth}
use Rattle.branch_search.proofs.searching.grow.Given as goal

abbrev pub invariant-loop-growth : goal.invariant-loop-growth
invariant-loop-growth g l = record {
  state : IsGrowth (task_of (g.G.Goal.value_gives l.goal) l.inst l.tables l.given
      (option_map (λ given. given.now) l.incumbent)) l.part l.growth;
  few : l.growth.splits ≤ l.turns;
}

abbrev pub decreases-loop-growth : goal.decreases-loop-growth
decreases-loop-growth g l = l.turns - l.growth.splits
