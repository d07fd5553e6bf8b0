use Rattle.std.proofs.Common.{rules}
use Rattle.certificate_tree.specs.Trees.{IsSplit}
use Rattle.branch_search.specs.Tasks.{free_task}
use Rattle.branch_search.specs.Valued.{plan_in}
use Rattle.branch_search.proofs.LeafLemmas.{parts_after}
use Rattle.branch_search.proofs.SettleLemmas.{priced_over}
use Rattle.branch_search.proofs.splitting.settling.part.Goals as goal

pub choose-requires-clause-tables : goal.choose-requires-clause-tables
choose-requires-clause-tables g c = priced_over c.args.inst.now c.args.tables.now c.args.current.now.boxes.spans
    c.requires.tables c.requires.spans c.requires.unrefuted.starts

pub returns-clause-some : goal.returns-clause-some
returns-clause-some g c =
    let task = free_task (g.G.Goal.value_gives c.args.goal.now) c.args.inst.now c.args.tables.now in
    let split : IsSplit c.args.current.now.boxes.spans c.in-Some.i c.in-Some.last = search rules in
    record {
      split = split;
      leaves = parts_after task c.args.current.now.boxes.spans c.in-Some.i c.in-Some.last (plan_in c.args.best.now)
          (plan_in c.choose.new.best) (plan_in c.settle_parts.new.best) c.in_ok-left.left c.in_ok-left.right
          c.in_ok-place.ensures.improved c.in_ok-left.ensures.parts;
    }
