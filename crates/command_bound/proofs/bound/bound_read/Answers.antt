use Rattle.std.proofs.Common.{List, ℕ, subst}
use Rattle.command_frame.specs.Refusals.{SaysOrFails}
use Rattle.command_bound.specs.Made.TellsBound.{no_memory}
use Rattle.command_bound.proofs.bound.bound_read.Goals as goal

pub returns-in-Err : goal.returns-in-Err
returns-in-Err g c =
    let old = g.D.Desk.shows c.args.desk.now in
    let new = g.D.Desk.shows c.say.new.desk in
    no_memory c.say.ensures.keeps
    (subst (λ (text : List ℕ). SaysOrFails 11 text old new c.say.result) c.as_bytes.ensures.value c.say.ensures.ends)
