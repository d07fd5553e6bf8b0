use Rattle.std.proofs.Common.{rules}
use Rattle.plan_desk.specs.Written.Way.{writing}
use Rattle.plan_desk.proofs.Written.{begins, next, stops_at}
use Rattle.plan_desk.proofs.loops.write_pieces.Goals as goal

pub returns-in_err-write_all : goal.returns-in_err-write_all
returns-in_err-write_all g c =
    stops_at writing (λ piece. piece.now) c.args.pieces.now c.loop-piece.piece-index _ (search rules)
    c.from_residual.result (search rules) c.loop-piece.invariant c.in_err-write_all.ensures

pub loop-piece-preserved : goal.loop-piece-preserved
loop-piece-preserved g c =
    next writing (λ piece. piece.now) c.args.pieces.now c.loop-piece.piece-index _ (search rules) c.loop-piece.invariant
    c.in_ok-write_all.ensures

pub loop-piece-init : goal.loop-piece-init
loop-piece-init g c = begins writing (g.D.Desk.shows c.args.desk.now)
