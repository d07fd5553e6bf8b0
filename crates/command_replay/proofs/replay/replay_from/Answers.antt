use Rattle.std.proofs.Common.{◌∙◌, ap, length, map, List, ℕ, Some, subst, Err}
use Rattle.move_script.specs.Replays.{replay_text, SaysKeys}
use Rattle.command_replay.specs.Replaying.{Replays}
use Rattle.command_frame.specs.Refusals.{SaysOrFails}
use Rattle.command_replay.proofs.ReplayLemmas.{KeysSaid, ok_not_failed, start_not_failed, undo_not_failed}
use Rattle.command_replay.proofs.ReplayLemmas.{memory_not_failed, ended_answer, not_allowed_answer}
use Rattle.command_replay.proofs.ReplayLemmas.{nothing_to_undo_answer, failed_answer, memory_answer}
use Rattle.command_replay.proofs.replay.replay_from.Goals as goal

pub returns-in-Ok-clause-ends : goal.returns-in-Ok-clause-ends
returns-in-Ok-clause-ends g c =
    let old = g.D.Desk.shows c.args.desk.now in
    let mid = g.D.Desk.shows c.replay.new.desk in
    let text = replay_text c.args.inst.now c.args.starts.now c.args.script.now in
    let said = subst (λ x. SaysKeys x text old mid) c.in-Ok.is c.replay.ensures.said in
    let keys : KeysSaid text old mid = record {
      says = said.said;
      same = c.replay.ensures.same (ok_not_failed c.replay.result c.in-Ok.field-0 c.in-Ok.is);
    } in
    ended_answer c.args.inst.now c.args.starts.now c.args.script.now old mid (g.D.Desk.shows c.say_numbered.new.desk)
    (length c.as_slice.result.now) c.say_numbered.result
    c.requires.allowed keys c.in-Ok.ensures.ok (ap length c.as_slice.ensures) c.say_numbered.ensures.ends

pub returns-in-Err-NotAllowed-clause-ends : goal.returns-in-Err-NotAllowed-clause-ends
returns-in-Err-NotAllowed-clause-ends g c =
    let old = g.D.Desk.shows c.args.desk.now in
    let mid = g.D.Desk.shows c.replay.new.desk in
    let text = replay_text c.args.inst.now c.args.starts.now c.args.script.now in
    let is = c.in-Err-NotAllowed.is ∙ ap Err c.in-Err-NotAllowed.field-0-is in
    let said = subst (λ x. SaysKeys x text old mid) is c.replay.ensures.said in
    let keys : KeysSaid text old mid = record {
      says = said.said;
      same = c.replay.ensures.same (start_not_failed c.replay.result c.in-Err-NotAllowed.n is);
    } in
    not_allowed_answer c.args.inst.now c.args.starts.now c.args.script.now old mid
    (g.D.Desk.shows c.say_numbered-in-Err-NotAllowed.new.desk) c.in-Err-NotAllowed.n
    c.say_numbered-in-Err-NotAllowed.result
    c.requires.allowed keys (c.replay.ensures.not_allowed c.in-Err-NotAllowed.n is)
    c.say_numbered-in-Err-NotAllowed.ensures.ends

pub returns-in-Err-NothingToUndo-clause-ends : goal.returns-in-Err-NothingToUndo-clause-ends
returns-in-Err-NothingToUndo-clause-ends g c =
    let old = g.D.Desk.shows c.args.desk.now in
    let mid = g.D.Desk.shows c.replay.new.desk in
    let text = replay_text c.args.inst.now c.args.starts.now c.args.script.now in
    let is = c.in-Err-NothingToUndo.is ∙ ap Err c.in-Err-NothingToUndo.field-0-is in
    let said = subst (λ x. SaysKeys x text old mid) is c.replay.ensures.said in
    let keys : KeysSaid text old mid = record {
      says = said.said;
      same = c.replay.ensures.same (undo_not_failed c.replay.result c.in-Err-NothingToUndo.n is);
    } in
    nothing_to_undo_answer c.args.inst.now c.args.starts.now c.args.script.now old mid
    (g.D.Desk.shows c.say_numbered-in-Err-NothingToUndo.new.desk) c.in-Err-NothingToUndo.n
    c.say_numbered-in-Err-NothingToUndo.result
    c.requires.allowed keys (c.replay.ensures.nothing_to_undo c.in-Err-NothingToUndo.n is)
    c.say_numbered-in-Err-NothingToUndo.ensures.ends

pub returns-in-Err-Failed-clause-ends : goal.returns-in-Err-Failed-clause-ends
returns-in-Err-Failed-clause-ends g c =
    let old = g.D.Desk.shows c.args.desk.now in
    let new = g.D.Desk.shows c.replay.new.desk in
    let text = replay_text c.args.inst.now c.args.starts.now c.args.script.now in
    let is = c.in-Err-Failed.is ∙ ap Err c.in-Err-Failed.field-0-is in
    let said = subst (λ x. SaysKeys x text old new) is c.replay.ensures.said in
    failed_answer c.args.inst.now c.args.starts.now c.args.script.now old new c.requires.allowed said
    (c.replay.ensures.failed is)

pub returns-in-Err-Memory-clause-ends : goal.returns-in-Err-Memory-clause-ends
returns-in-Err-Memory-clause-ends g c =
    let old = g.D.Desk.shows c.args.desk.now in
    let mid = g.D.Desk.shows c.replay.new.desk in
    let new = g.D.Desk.shows c.say.new.desk in
    let text = replay_text c.args.inst.now c.args.starts.now c.args.script.now in
    let is = c.in-Err-Memory.is ∙ ap Err c.in-Err-Memory.field-0-is in
    let said = subst (λ x. SaysKeys x text old mid) is c.replay.ensures.said in
    memory_answer (Replays c.args.inst.now (map Some c.args.starts.now) c.args.script.now) old mid new c.say.result
    said
    (c.replay.ensures.same (memory_not_failed c.replay.result is))
    (subst (λ (t : List ℕ). SaysOrFails 11 t mid new c.say.result) c.as_bytes.ensures.value c.say.ensures.ends)
