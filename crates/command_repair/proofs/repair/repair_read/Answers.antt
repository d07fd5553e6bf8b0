use Rattle.std.proofs.Common.{List, ℕ, Option, subst}
use Rattle.instance_model.specs.Limits.{standard_limits}
use Rattle.command_frame.specs.Refusals.{SaysOrFails}
use Rattle.command_repair.specs.Repairing.{Repairs}
use Rattle.command_repair.specs.Made.{files_view, answer_of}
use Rattle.command_repair.specs.Made.TellsSolution.{told, no_memory}
use Rattle.command_repair.proofs.repair.repair_read.Goals as goal

pub returns-in-Ok : goal.returns-in-Ok
returns-in-Ok g c =
    let inst = c.args.read.now.inst in
    let files = files_view c.args.files.now in
    let answer = answer_of c.args.read.now.inst (files_view c.args.files.now) c.in-Ok.solution in
    told answer
    (subst (λ (old : List (Option ℕ)). Repairs standard_limits inst old files c.args.turns answer) c.as_slice.ensures
    (c.in-Ok.ensures.repairs files)) c.tell.ensures

pub returns-in-Err : goal.returns-in-Err
returns-in-Err g c =
    let old = g.D.Desk.shows c.args.desk.now in
    let new = g.D.Desk.shows c.say.new.desk in
    no_memory c.say.ensures.keeps
    (subst (λ (text : List ℕ). SaysOrFails 11 text old new c.say.result) c.as_bytes.ensures.value c.say.ensures.ends)
