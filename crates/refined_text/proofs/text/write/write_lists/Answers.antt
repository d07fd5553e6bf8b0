use Rattle.std.proofs.Common.{ap, rules}
use Rattle.plan_desk.specs.Written.Way.{writing}
use Rattle.plan_desk.proofs.Written.{begins, next, respelled, stops_at}
use Rattle.refined_text.specs.text.Steps.{list_text}
use Rattle.refined_text.proofs.text.write.write_lists.Goals as goal

pub loop-list-init : goal.loop-list-init
loop-list-init g c = begins writing (g.D.Desk.shows c.args.desk.now)

pub returns-in_err-write_list : goal.returns-in_err-write_list
returns-in_err-write_list g c =
    stops_at writing (list_text c.args.inst.now) c.args.lists.now c.loop-list.list-index c.list-item.result
    c.loop-list-test.true c.from_residual.result (search rules) c.loop-list.invariant
    (respelled writing (ap (list_text c.args.inst.now) c.list-item.is) c.in_err-write_list.ensures)

pub loop-list-preserved : goal.loop-list-preserved
loop-list-preserved g c =
    next writing (list_text c.args.inst.now) c.args.lists.now c.loop-list.list-index c.list-item.result
    c.loop-list-test.true c.loop-list.invariant
    (respelled writing (ap (list_text c.args.inst.now) c.list-item.is) c.in_ok-write_list.ensures)
