-- What is told is the answer of the outcome.
use Rattle.std.proofs.Common.{List, ℕ, sym, subst}
use Rattle.command_frame.specs.Refusals.{SaysOrFails}
use Rattle.command_frame.specs.Writing.{TellsAnswer}
use Rattle.command_frame.specs.Outputs.{long_output_line}
use Rattle.command_roll.specs.Made.{files_view, answer_of}
use Rattle.command_roll.specs.declared.roll.Outcome.{Outcome}
use Rattle.command_roll.proofs.RollLemmas.{reply_told}
use Rattle.command_roll.proofs.roll.tell.Goals as goal

pub returns-in-Broken : goal.returns-in-Broken
returns-in-Broken g c =
    let r = c.args.rolling.now in
    let old = g.D.Desk.shows c.args.desk.now in
    let new = g.D.Desk.shows c.say.new.desk in
    subst (λ (o : Outcome). TellsAnswer (answer_of (files_view c.args.files.now) r.inst r.plan c.args.period o) old new
    c.say.result) (sym c.in-Broken.is)
    (reply_told 1 c.in-Broken.text old new c.say.result c.say.ensures.keeps
    (subst (λ (text : List ℕ). SaysOrFails 1 text old new c.say.result) c.as_slice.ensures c.say.ensures.ends))

pub returns-in-TooLong : goal.returns-in-TooLong
returns-in-TooLong g c =
    let r = c.args.rolling.now in
    let old = g.D.Desk.shows c.args.desk.now in
    let new = g.D.Desk.shows c.refuse_long.new.desk in
    subst (λ (o : Outcome). TellsAnswer (answer_of (files_view c.args.files.now) r.inst r.plan c.args.period o) old new
    c.refuse_long.result) (sym c.in-TooLong.is)
    (reply_told 12 (long_output_line 5) old new c.refuse_long.result c.refuse_long.ensures.keeps
    c.refuse_long.ensures.ends)

pub returns-in-Rolled : goal.returns-in-Rolled
returns-in-Rolled g c =
    let r = c.args.rolling.now in
    subst (λ (o : Outcome). TellsAnswer (answer_of (files_view c.args.files.now) r.inst r.plan c.args.period o)
    (g.D.Desk.shows c.args.desk.now) (g.D.Desk.shows c.write_out.new.desk) c.write_out.result) (sym c.in-Rolled.is)
    c.write_out.ensures
