use Rattle.std.proofs.Common.{List, ap, get_or, length, arith, rules}
use Rattle.plan_desk.specs.Written.Way.{writing}
use Rattle.plan_desk.proofs.Written.{begins, next, respelled, stops_at}
use Rattle.plan_moves.specs.declared.change.Change.{Change}
use Rattle.plan_moves.specs.declared.change.Change.TheVariants.{Move}
use Rattle.move_script.specs.Spelling.{change_text}
use Rattle.move_script.proofs.WrittenLemmas.{moves_text_spells}
use Rattle.move_script.proofs.write.write_moves.Goals as goal

pub loop-change-init : goal.loop-change-init
loop-change-init g c = begins writing (g.D.Desk.shows c.args.desk.now)

pub returns-in_err-write_change-clause-written : goal.returns-in_err-write_change-clause-written
returns-in_err-write_change-clause-written g c =
    let names = c.args.inst.now.names in
    let n = c.loop-change.change-index in
    stops_at writing (change_text names) c.args.moves.now n (Move 0 0)
    (omega (arith, ap length c.as_slice-change-items.ensures)) c.from_residual.result (search rules)
    c.loop-change.invariant
    (respelled writing (ap (λ (changes : List Change). change_text names (get_or changes n (Move 0 0)))
    c.as_slice-change-items.ensures) c.in_err-write_change.ensures)

pub returns-in_err-write_change-clause-spelled : goal.returns-in_err-write_change-clause-spelled
returns-in_err-write_change-clause-spelled g c =
    moves_text_spells _ c.args.inst.now c.args.moves.now c.fits.ensures.names c.requires.known c.requires.small

pub loop-change-preserved : goal.loop-change-preserved
loop-change-preserved g c =
    let names = c.args.inst.now.names in
    let n = c.loop-change.change-index in
    next writing (change_text names) c.args.moves.now n (Move 0 0)
    (omega (arith, ap length c.as_slice-change-items.ensures)) c.loop-change.invariant
    (respelled writing (ap (λ (changes : List Change). change_text names (get_or changes n (Move 0 0)))
    c.as_slice-change-items.ensures) c.in_ok-write_change.ensures)

pub returns-clause-spelled : goal.returns-clause-spelled
returns-clause-spelled g c =
    moves_text_spells _ c.args.inst.now c.args.moves.now c.fits.ensures.names c.requires.known c.requires.small
