use Rattle.std.proofs.Common.{List, ◌∷◌, ℕ, Option, Err, sym, subst}
use Rattle.command_frame.specs.Writing.{PutsFiles}
use Rattle.command_frame.proofs.WriteLemmas.{puts_first, puts_more}
use Rattle.command_solve.specs.Solving.{cert_write, trail_write}
use Rattle.command_solve.specs.Made.{files_view, plan_writes}
use Rattle.command_solve.proofs.solve.write_files.Goals as goal

pub returns-in-Err : goal.returns-in-Err
returns-in-Err g c =
    let inst = c.args.inst.now in
    let files = files_view c.args.files.now in
    let s = c.args.solution.now in
    puts_first (Unit {0}) (cert_write inst files s.certificate)
    (trail_write inst files s.moves ∷ plan_writes inst files s.plan) (g.D.Desk.shows c.args.desk.now)
    (g.D.Desk.shows c.put_certificate.new.desk) c.in-Err.ensures

pub returns-in-Err-put_moves : goal.returns-in-Err-put_moves
returns-in-Err-put_moves g c =
    let inst = c.args.inst.now in
    let files = files_view c.args.files.now in
    let s = c.args.solution.now in
    let mid = g.D.Desk.shows c.put_certificate.new.desk in
    let new = g.D.Desk.shows c.put_moves.new.desk in
    puts_more {U = Unit {0}} (cert_write inst files s.certificate)
    (trail_write inst files s.moves ∷ plan_writes inst files s.plan) (g.D.Desk.shows c.args.desk.now) mid new (Err 5)
    c.in-Ok.ensures
    (puts_first (Unit {0}) (trail_write inst files s.moves) (plan_writes inst files s.plan) mid new
    c.in-Err-put_moves.ensures)

pub returns-in-Some : goal.returns-in-Some
returns-in-Some g c =
    let inst = c.args.inst.now in
    let files = files_view c.args.files.now in
    let s = c.args.solution.now in
    let mid = g.D.Desk.shows c.put_certificate.new.desk in
    let last = g.D.Desk.shows c.put_moves.new.desk in
    let new = g.D.Desk.shows c.write_best.new.desk in
    puts_more (cert_write inst files s.certificate) (trail_write inst files s.moves ∷ plan_writes inst files s.plan)
    (g.D.Desk.shows c.args.desk.now) mid new c.write_best.result c.in-Ok.ensures
    (puts_more (trail_write inst files s.moves) (plan_writes inst files s.plan) mid last new c.write_best.result
    c.in-Ok-put_moves.ensures
    (subst (λ (plan : Option (List ℕ)). PutsFiles (plan_writes inst files plan) last new c.write_best.result)
    (sym c.in-Some.is) c.write_best.ensures))
