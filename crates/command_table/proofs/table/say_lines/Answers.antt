use Rattle.std.proofs.Common.{rules, ap, length, ◌++◌, codes}
use Rattle.plan_desk.specs.Written.Way.{saying}
use Rattle.plan_desk.proofs.Written.{put, cut, last, respelled}
use Rattle.command_frame.specs.Lines.{numbered_line, end_line}
use Rattle.command_frame.specs.Reports.{rounded_line}
use Rattle.command_table.proofs.table.say_lines.Goals as goal

pub returns-in_err-say_reports : goal.returns-in_err-say_reports
returns-in_err-say_reports g c =
    cut saying c.from_residual.result (search rules)
    (end_line (length c.args.reports.now) ++ rounded_line c.args.inst.now.rounded) c.in_err-say_reports.ensures

pub returns-in_err-say_line : goal.returns-in_err-say_line
returns-in_err-say_line g c =
    let r = c.from_residual-in_err-say_line.result in
    last saying r (put saying c.in_ok-say_reports.ensures)
    (cut saying r (search rules) (rounded_line c.args.inst.now.rounded) c.in_err-say_line.ensures)

pub returns : goal.returns
returns g c =
    let r = c.say_line-2.result in
    last saying r (put saying c.in_ok-say_reports.ensures)
    (last saying r (put saying c.in_ok-say_line.ensures)
    (respelled saying (ap (numbered_line (codes "rounded ")) c.rounded.ensures) c.say_line-2.ensures))
