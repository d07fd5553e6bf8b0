-- A run of `rehearse` from what was said.
use Rattle.std.proofs.Common.{List, ℕ, subst}
use Rattle.command_frame.specs.Refusals.{SaysOrFails}
use Rattle.command_rehearse.proofs.RehearseRun.{summary_runs, memory_runs}
use Rattle.command_rehearse.proofs.rehearse.rehearse_drawn.Goals as goal

pub returns-in-Ok : goal.returns-in-Ok
returns-in-Ok g c =
    let old = g.D.Desk.shows c.args.desk.now in
    let new = g.D.Desk.shows c.say.new.desk in
    summary_runs c.args.seed c.args.count old new c.in-Ok.text c.say.result c.say.ensures.keeps c.in-Ok.ensures
    (subst (λ (text : List ℕ). SaysOrFails 0 text old new c.say.result) c.as_slice.ensures c.say.ensures.ends)

pub returns-in-Err : goal.returns-in-Err
returns-in-Err g c =
    let old = g.D.Desk.shows c.args.desk.now in
    let new = g.D.Desk.shows c.say-in-Err.new.desk in
    let said = c.say-in-Err.ensures in
    memory_runs c.args.seed c.args.count old new c.say-in-Err.result said.keeps
    (subst (λ (text : List ℕ). SaysOrFails 11 text old new c.say-in-Err.result) c.as_bytes.ensures.value said.ends)
