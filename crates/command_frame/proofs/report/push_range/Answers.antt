use Rattle.std.proofs.Common.{append_assoc, rules}
use Rattle.std.proofs.lemmas.Result.{IfOk-equal}
use Rattle.command_frame.specs.Reports.{range_line}
use Rattle.command_frame.proofs.report.push_range.Goals as goal

pub returns : goal.returns
unfolding range_line
returns c = search (rules, IfOk-equal, append_assoc)
