use Rattle.std.proofs.Common.{List, ℕ, subst}
use Rattle.command_frame.specs.Refusals.{SaysOrFails}
use Rattle.command_improve.specs.Made.{answer_of}
use Rattle.command_improve.specs.Made.TellsSolution.{told, no_memory}
use Rattle.command_improve.proofs.improve.improve_read.Goals as goal

pub returns-in-Ok : goal.returns-in-Ok
returns-in-Ok g c =
    let inst = c.args.read.now.inst in
    let out = c.args.out.now in
    told (answer_of inst out c.in-Ok.solution) (c.in-Ok.ensures.improves out) c.tell.ensures

pub returns-in-Err : goal.returns-in-Err
returns-in-Err g c =
    let old = g.D.Desk.shows c.args.desk.now in
    let new = g.D.Desk.shows c.say.new.desk in
    no_memory c.say.ensures.keeps
    (subst (λ (text : List ℕ). SaysOrFails 11 text old new c.say.result) c.as_bytes.ensures.value c.say.ensures.ends)
