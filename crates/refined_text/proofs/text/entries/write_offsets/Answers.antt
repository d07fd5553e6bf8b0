use Rattle.std.proofs.Common.{rules}
use Rattle.plan_desk.specs.Written.Way.{writing}
use Rattle.plan_desk.proofs.Written.{begins, next, stops_at}
use Rattle.refined_prices.specs.declared.offset.Offset.{Offset}
use Rattle.refined_text.specs.text.Steps.{offset_text}
use Rattle.refined_text.proofs.text.entries.write_offsets.Goals as goal

pub loop-x-init : goal.loop-x-init
loop-x-init g c = begins writing (g.D.Desk.shows c.args.desk.now)

pub returns-in_err-put_offset : goal.returns-in_err-put_offset
returns-in_err-put_offset g c =
    let d : Offset = record { period = 0; intervention = 0; group = 0; value = 0 } in
    stops_at writing offset_text c.args.offsets.now c.loop-x.x-index d c.loop-x-test.true c.from_residual.result
    (search rules) c.loop-x.invariant c.in_err-put_offset.ensures

pub loop-x-preserved : goal.loop-x-preserved
loop-x-preserved g c =
    let d : Offset = record { period = 0; intervention = 0; group = 0; value = 0 } in
    next writing offset_text c.args.offsets.now c.loop-x.x-index d c.loop-x-test.true c.loop-x.invariant
    c.in_ok-put_offset.ensures
