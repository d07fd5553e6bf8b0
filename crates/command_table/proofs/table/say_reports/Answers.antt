use Rattle.std.proofs.Common.{rules, sym, ap, subst}
use Rattle.plan_desk.specs.Written.Way.{saying}
use Rattle.plan_desk.proofs.Written.{next, stops_at, respelled}
use Rattle.plan_table.specs.Texts.{report_text, NamesWithin}
use Rattle.command_table.proofs.table.say_reports.Goals as goal

pub say_report-requires : goal.say_report-requires
say_report-requires g c =
    subst (NamesWithin c.args.inst.now) (sym c.report-item.is)
    (c.requires c.loop-report.report-index c.report-item.result (search rules))

pub returns-in_err-say_report : goal.returns-in_err-say_report
returns-in_err-say_report g c =
    stops_at saying (report_text c.args.inst.now) c.args.reports.now c.loop-report.report-index c.report-item.result
    (search rules) c.from_residual.result (search rules) c.loop-report.invariant
    (respelled saying (ap (report_text c.args.inst.now) c.report-item.is) c.in_err-say_report.ensures)

pub loop-report-preserved : goal.loop-report-preserved
loop-report-preserved g c =
    next saying (report_text c.args.inst.now) c.args.reports.now c.loop-report.report-index c.report-item.result
    (search rules) c.loop-report.invariant
    (respelled saying (ap (report_text c.args.inst.now) c.report-item.is) c.in_ok-say_report.ensures)
