-- One report more.
use Rattle.std.proofs.Common.{arith}
use Rattle.command_table.proofs.TableLemmas.{one_report_more, names_more}
use Rattle.command_table.proofs.table.reports_of.Goals as goal

pub loop-t-preserved : goal.loop-t-preserved
loop-t-preserved c =
    record {
      reports = one_report_more c.args.inst.now c.args.starts.now c.args.from c.loop-t.t c.loop-t.reports.items
          c.push.new.self.items c.in_ok-period_report.field-0 (omega arith) c.loop-t.invariant.reports
          ((c.one_report.ensures c.args.starts.now c.loop-t.t c.in_ok-period_report.field-0).0
          c.in_ok-period_report.ensures.report) c.in_ok-push.ensures.items;
      names = names_more c.args.inst.now c.loop-t.reports.items c.push.new.self.items c.in_ok-period_report.field-0
          c.loop-t.invariant.names c.in_ok-period_report.ensures.names c.in_ok-push.ensures.items;
      within = omega arith;
    }
