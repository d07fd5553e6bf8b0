use Rattle.std.proofs.Common.{take}
use Rattle.std.specs.List.{flat_map}
use Rattle.plan_desk.specs.Written.{HasPut}
use Rattle.plan_desk.specs.Written.Way.{saying}
use Rattle.plan_table.specs.Texts.{report_text}
use Rattle.command_table.proofs.table.say_reports.Given as goal

abbrev pub invariant-loop-report : goal.invariant-loop-report
invariant-loop-report g l = HasPut saying (flat_map (report_text l.inst) (take l.report-index l.reports))
    (g.D.Desk.shows l.fn.desk) (g.D.Desk.shows l.desk)
