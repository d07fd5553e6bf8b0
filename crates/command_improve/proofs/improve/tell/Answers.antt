use Rattle.command_frame.proofs.WriteLemmas.{told_behind}
use Rattle.command_improve.specs.Made.{out_writes}
use Rattle.command_improve.proofs.improve.tell.Goals as goal

pub returns : goal.returns
returns g c =
    let solution = c.args.solution.now in
    told_behind (out_writes c.args.inst.now c.args.out.now solution.plan) solution.report
    (g.D.Desk.shows c.args.desk.now) (g.D.Desk.shows c.write_files-wrote.new.desk)
    (g.D.Desk.shows c.say_written.new.desk) c.write_files-wrote.result c.say_written.result
    c.write_files-wrote.ensures c.say_written.ensures.keeps c.say_written.ensures.ends
