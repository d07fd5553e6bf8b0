use Rattle.std.proofs.Common.{List, [], ℕ, Err, subst}
use Rattle.plan_text.specs.Spelling.{plan_text}
use Rattle.command_frame.specs.Writing.{PutsFile}
use Rattle.command_frame.proofs.WriteLemmas.{puts_first}
use Rattle.command_improve.specs.Improving.{out_write}
use Rattle.command_improve.proofs.improve.write_out.Goals as goal

pub returns-in-Err : goal.returns-in-Err
returns-in-Err g c =
    let old = g.D.Desk.shows c.args.desk.now in
    let new = g.D.Desk.shows c.put_plan.new.desk in
    puts_first (Unit {0}) (out_write c.args.inst.now c.args.out.now c.args.plan.now) [] old new
    (subst (λ (plan : List ℕ). PutsFile {T = Unit {0}} (record {
      name = c.args.out.now;
      bytes = plan_text c.args.inst.now.names plan;
    }) old new (Err c.in-Err.field-0)) c.as_slice.ensures c.in-Err.ensures)
