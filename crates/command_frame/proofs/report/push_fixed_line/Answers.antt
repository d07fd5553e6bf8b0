use Rattle.std.proofs.Common.{append_assoc, rules}
use Rattle.std.proofs.lemmas.Result.{IfOk-equal}
use Rattle.command_frame.specs.Reports.{fixed_line}
use Rattle.command_frame.proofs.report.push_fixed_line.Goals as goal

pub returns : goal.returns
unfolding fixed_line
returns c = search (rules, IfOk-equal, append_assoc)
