use Rattle.std.proofs.Common.{◌≡◌, ◌≤◌, drop}
use Rattle.std.specs.Prelude.{option_map}
use Rattle.branch_search.specs.Tasks.{task_of}
use Rattle.branch_search.specs.CurrentBoxes.{IsCurrentBox}
use Rattle.branch_search.specs.Valued.{plan_in, IsValued}
use Rattle.branch_search.specs.Begun.{IsBegunIn}
use Rattle.branch_search.proofs.splitting.beginning.begin.Given as goal

abbrev pub invariant-loop-node : goal.invariant-loop-node
invariant-loop-node g l = record {
  begun : IsBegunIn (task_of (g.G.Goal.value_gives l.goal) l.inst l.tables l.nodes
      (option_map (λ given. given.now) l.incumbent)) l.part l.growth.cells.items l.growth.waiting l.growth.aside
      (plan_in l.growth.best) l.stack.items l.seen (drop l.node-index l.nodes);
  few : l.seen ≤ l.node-index;
  valued : IsValued (g.G.Goal.value_gives l.goal) l.inst l.growth.best;
  current : IsCurrentBox l.inst l.growth.current;
  none : l.growth.splits ≡ 0;
}
