use Rattle.std.proofs.Common.{List, ℕ, Option, sym, subst}
use Rattle.command_frame.specs.Writing.{PutsFiles}
use Rattle.command_frame.proofs.WriteLemmas.{puts_first, puts_more}
use Rattle.command_repair.specs.Repairing.{cert_write}
use Rattle.command_repair.specs.Made.{files_view, out_writes}
use Rattle.command_repair.proofs.repair.write_files.Goals as goal

pub returns-in-Err : goal.returns-in-Err
returns-in-Err g c =
    let inst = c.args.inst.now in
    let files = files_view c.args.files.now in
    let s = c.args.solution.now in
    puts_first (Unit {0}) (cert_write inst files s.certificate) (out_writes inst files s.plan)
    (g.D.Desk.shows c.args.desk.now) (g.D.Desk.shows c.put_certificate.new.desk) c.in-Err.ensures

pub returns-in-Some : goal.returns-in-Some
returns-in-Some g c =
    let inst = c.args.inst.now in
    let files = files_view c.args.files.now in
    let s = c.args.solution.now in
    let mid = g.D.Desk.shows c.put_certificate.new.desk in
    let new = g.D.Desk.shows c.write_out.new.desk in
    puts_more (cert_write inst files s.certificate) (out_writes inst files s.plan) (g.D.Desk.shows c.args.desk.now) mid
    new c.write_out.result c.in-Ok.ensures
    (subst (λ (plan : Option (List ℕ)). PutsFiles (out_writes inst files plan) mid new c.write_out.result)
    (sym c.in-Some.is) c.write_out.ensures)
