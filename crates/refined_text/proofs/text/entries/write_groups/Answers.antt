use Rattle.std.proofs.Common.{◌∙◌, ap, rules}
use Rattle.plan_desk.specs.Written.Way.{writing}
use Rattle.plan_desk.proofs.Written.{begins, next, respelled, stops_at}
use Rattle.refined_text.specs.text.Steps.{group_text}
use Rattle.refined_text.proofs.text.entries.write_groups.Goals as goal

pub loop-group-init : goal.loop-group-init
loop-group-init g c = begins writing (g.D.Desk.shows c.args.desk.now)

pub returns-in_err-put_group : goal.returns-in_err-put_group
returns-in_err-put_group g c =
    stops_at writing (group_text c.args.t) c.args.groups.now c.loop-group.group-index c.group-item.result
    c.loop-group-test.true c.from_residual.result (search rules) c.loop-group.invariant
    (respelled writing (ap (group_text c.args.t) (c.as_slice.ensures ∙ c.group-item.is)) c.in_err-put_group.ensures)

pub loop-group-preserved : goal.loop-group-preserved
loop-group-preserved g c =
    next writing (group_text c.args.t) c.args.groups.now c.loop-group.group-index c.group-item.result
    c.loop-group-test.true c.loop-group.invariant
    (respelled writing (ap (group_text c.args.t) (c.as_slice.ensures ∙ c.group-item.is)) c.in_ok-put_group.ensures)
