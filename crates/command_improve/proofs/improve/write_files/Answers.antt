use Rattle.std.proofs.Common.{List, ℕ, Option, sym, subst}
use Rattle.command_frame.specs.Writing.{PutsFiles}
use Rattle.command_improve.specs.Made.{out_writes}
use Rattle.command_improve.proofs.improve.write_files.Goals as goal

pub returns-in-Some : goal.returns-in-Some
returns-in-Some g c =
    let old = g.D.Desk.shows c.args.desk.now in
    let new = g.D.Desk.shows c.write_out.new.desk in
    subst (λ (plan : Option (List ℕ)). PutsFiles (out_writes c.args.inst.now c.args.out.now plan) old new
    c.write_out.result) (sym c.in-Some.is) c.write_out.ensures
