use Rattle.std.proofs.Common.{◌≡◌, ◌+◌, ◌-◌, ◌≤◌, map}
use Rattle.std.specs.Prelude.{All}
use Rattle.std.specs.List.{range_with_len}
use Rattle.plan_table.specs.Reports.{report_of}
use Rattle.plan_table.specs.Texts.{NamesWithin}
use Rattle.command_table.proofs.table.reports_of.Given as goal

abbrev pub invariant-loop-t : goal.invariant-loop-t
invariant-loop-t l = record {
  reports : l.reports.items ≡ map (report_of l.inst l.starts) (range_with_len l.from (l.t - l.from));
  names : All (NamesWithin l.inst) l.reports.items;
  within : l.t - l.from ≤ l.last + 1 - l.from;
}
