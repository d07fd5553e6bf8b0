-- The file was written and the report said, or the writing stopped and its line was said.
use Rattle.std.proofs.Common.{List, [], ℕ, Option, Result, Ok, Err, subst}
use Rattle.plan_desk.specs.declared.call.Failed.{Failed}
use Rattle.plan_roll.specs.Texts.{rolled_text}
use Rattle.command_frame.specs.Refusals.{SaysOrFails}
use Rattle.command_frame.specs.Writing.{PutsFile}
use Rattle.command_frame.specs.Writing.TellsAnswer.{written, unwritten}
use Rattle.command_frame.proofs.WriteLemmas.{puts_none, puts_first, puts_more}
use Rattle.command_roll.specs.Rolling.{out_write}
use Rattle.command_roll.specs.Made.{files_view}
use Rattle.command_roll.proofs.roll.write_out.Goals as goal

pub returns-in-Ok : goal.returns-in-Ok
returns-in-Ok g c =
    let old = g.D.Desk.shows c.args.desk.now in
    let wrote = g.D.Desk.shows c.put_rolled.new.desk in
    let new = g.D.Desk.shows c.say.new.desk in
    let inst = c.args.rolling.now.inst in
    let w = out_write (files_view c.args.files.now) inst c.args.rolling.now.plan c.args.period in
    let done : Result (Unit {0}) ℕ = Ok tt in
    written wrote
    (puts_more {U = Unit {0}} w [] old wrote wrote done
    (subst (λ (plan : List (Option ℕ)). PutsFile {T = Unit {0}} {E = Failed} (record {
      name = c.args.files.now.out.now;
      bytes = rolled_text inst plan c.args.period;
    }) old wrote (Ok c.in-Ok.field-0)) c.as_slice-plan.ensures c.in-Ok.ensures)
    (puts_none {T = Unit {0}} tt wrote))
    c.say.ensures.keeps
    (subst (λ (text : List ℕ). SaysOrFails 0 text wrote new c.say.result) c.as_slice.ensures c.say.ensures.ends)

pub returns-in-Err : goal.returns-in-Err
returns-in-Err g c =
    let old = g.D.Desk.shows c.args.desk.now in
    let stopped = g.D.Desk.shows c.put_rolled.new.desk in
    let inst = c.args.rolling.now.inst in
    let w = out_write (files_view c.args.files.now) inst c.args.rolling.now.plan c.args.period in
    unwritten stopped 5
    (puts_first (Unit {0}) w [] old stopped
    (subst (λ (plan : List (Option ℕ)). PutsFile {T = Unit {0}} {E = Failed} (record {
      name = c.args.files.now.out.now;
      bytes = rolled_text inst plan c.args.period;
    }) old stopped (Err c.in-Err.field-0)) c.as_slice-plan.ensures c.in-Err.ensures))
    c.say_numbered.ensures.keeps c.say_numbered.ensures.ends
