use Rattle.std.proofs.Common.{List, ℕ, inr, subst}
use Rattle.std.specs.Prelude.{IfOk}
use Rattle.command_frame.specs.Openings.{OpensAs}
use Rattle.command_frame.specs.Refusals.{SaysOrFails}
use Rattle.command_table.proofs.TableLemmas.{broken_answer}
use Rattle.command_table.proofs.table.table_read.Goals as goal

pub returns-in-Ok-Broken-clause-ends : goal.returns-in-Ok-Broken-clause-ends
returns-in-Ok-Broken-clause-ends g c =
    let inst = c.args.files.now.inst in
    let plan = c.args.files.now.plan in
    let opens = subst (λ r. IfOk r (OpensAs inst plan)) c.in-Ok-Broken.is c.opening_of.ensures in
    broken_answer inst plan c.args.from c.args.to (g.D.Desk.shows c.args.desk.now) (g.D.Desk.shows c.say.new.desk)
    c.in-Ok-Broken.field-0 c.in-Ok-Broken.report c.as_slice-in-Ok-Broken.result.now c.say.result opens
    c.in-Ok-Broken.field-0-is c.as_slice-in-Ok-Broken.ensures c.say.ensures.ends

pub returns-in-Err-clause-ends : goal.returns-in-Err-clause-ends
returns-in-Err-clause-ends g c =
    inr (subst (λ (t : List ℕ). SaysOrFails 11 t (g.D.Desk.shows c.args.desk.now)
    (g.D.Desk.shows c.say-in-Err.new.desk) c.say-in-Err.result) c.as_bytes.ensures.value c.say-in-Err.ensures.ends)
